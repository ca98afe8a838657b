use Rattle.std.proofs.Common.{◌∙◌, ap, sym, subst, refl}
use Rattle.thread_base.specs.Maps.{put}
use Rattle.thread_base.specs.Orders.{is_in, without}
use Rattle.link_arena.specs.Waiting.{AreApart}
use Rattle.thread_base.specs.Objects.{with_waiters}
use Rattle.mutex_table.specs.MutexMap.{mutexes}
use Rattle.mutex_table.proofs.MutexLemmas.{queue_set, sound_queue, waiting_is, seen}
use Rattle.mutex_table.proofs.Mutexes.remove_waiter.Goals as goal

pub invariant_of-self : goal.invariant_of-self
invariant_of-self c =
    let same = seen c.self.inside.states.items c.self.inside.waiters c.self.invariant c.args.self.now c.self.view_is in
    sound_queue c.self.inside.states.items c.self.inside.waiters c.self.invariant c.remove.new.self c.requires.0 (without c.args.t)
    (c.remove.ensures.queues c.requires.0 (ap (λ f. is_in c.args.t (f c.requires.0)) same ∙ c.requires.1)) (λ _. refl)

pub returns-clause-mutexes : goal.returns-clause-mutexes
returns-clause-mutexes c =
    let same = seen c.self.inside.states.items c.self.inside.waiters c.self.invariant c.args.self.now c.self.view_is in
    λ m stands. queue_set c.self.inside.states.items c.self.inside.waiters c.remove.new.self m (without c.args.t) (c.remove.ensures.queues m (ap (λ f. is_in c.args.t (f m)) same ∙ stands))
    ∙ ap (λ t. put (mutexes t) m (with_waiters (without c.args.t) (mutexes t m))) c.self.view_is

pub returns-clause-apart : goal.returns-clause-apart
returns-clause-apart c =
    let same = seen c.self.inside.states.items c.self.inside.waiters c.self.invariant c.args.self.now c.self.view_is in
    subst AreApart (sym (waiting_is c.self.inside.states.items c.remove.new.self
    (sound_queue c.self.inside.states.items c.self.inside.waiters c.self.invariant c.remove.new.self c.requires.0 (without c.args.t)
    (c.remove.ensures.queues c.requires.0 (ap (λ f. is_in c.args.t (f c.requires.0)) same ∙ c.requires.1)) (λ _. refl))))
    c.remove.ensures.apart
