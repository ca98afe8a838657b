use Rattle.std.proofs.Common.{◌∙◌, ap, sym, subst, refl}
use Rattle.thread_base.specs.Maps.{put}
use Rattle.thread_base.specs.Orders.{is_in, without}
use Rattle.link_arena.specs.Waiting.{AreApart}
use Rattle.thread_base.specs.Objects.{without_waiter}
use Rattle.cond_table.specs.ConditionMap.{conditions}
use Rattle.cond_table.proofs.ConditionLemmas.{left_set, sound_queue, waiting_is, seen}
use Rattle.cond_table.proofs.Conds.remove.Goals as goal

pub invariant_of-self : goal.invariant_of-self
invariant_of-self c =
    let same = (seen c.self.inside.mutexes.items c.self.inside.waiters c.self.invariant c.args.self.now c.self.view_is) in
    sound_queue c.self.inside.mutexes.items c.self.inside.waiters c.self.invariant c.remove.new.self c.requires.0 (without c.args.t)
    (c.remove.ensures.queues c.requires.0 (ap (λ f. is_in c.args.t (f c.requires.0)) same ∙ c.requires.1)) (λ _. refl)

pub returns-clause-conditions : goal.returns-clause-conditions
returns-clause-conditions c =
    let same = (seen c.self.inside.mutexes.items c.self.inside.waiters c.self.invariant c.args.self.now c.self.view_is) in
    λ n stands. left_set c.self.inside.mutexes.items c.self.inside.waiters c.remove.new.self n c.args.t (c.remove.ensures.queues n (ap (λ f. is_in c.args.t (f n)) same ∙ stands))
    ∙ ap (λ t. put (conditions t) n (without_waiter c.args.t (conditions t n))) c.self.view_is

pub returns-clause-apart : goal.returns-clause-apart
returns-clause-apart c =
    let same = (seen c.self.inside.mutexes.items c.self.inside.waiters c.self.invariant c.args.self.now c.self.view_is) in
    subst AreApart (sym (waiting_is c.self.inside.mutexes.items c.remove.new.self
    (sound_queue c.self.inside.mutexes.items c.self.inside.waiters c.self.invariant c.remove.new.self c.requires.0 (without c.args.t)
    (c.remove.ensures.queues c.requires.0 (ap (λ f. is_in c.args.t (f c.requires.0)) same ∙ c.requires.1)) (λ _. refl))))
    c.remove.ensures.apart
