use Rattle.std.proofs.Common.{◌≡◌, ◌∙◌, ap, sym, subst, arith, Some, IsSome, set}
use Rattle.std.specs.Option.{ForSome}
use Rattle.thread_base.specs.Maps.{put}
use Rattle.link_arena.specs.Waiting.{StandsInNone, AreApart}
use Rattle.thread_base.specs.Objects.{cond_mutex, entered}
use Rattle.cond_table.specs.ConditionMap.{conditions}
use Rattle.cond_table.proofs.ConditionLemmas.{within_shown, joined_set, sound_joined, waiting_is, seen}
use Rattle.cond_table.proofs.Conds.wait.Goals as goal

pub index_mut-requires : goal.index_mut-requires
index_mut-requires c =
    let place = (within_shown c.self.inside.mutexes.items c.self.inside.waiters c.args.self.now c.self.view_is c.args.c c.requires.exists) in
    omega (arith, c.self.invariant.count, place)

pub push-requires-clause-limit : goal.push-requires-clause-limit
push-requires-clause-limit c =
    let place = (within_shown c.self.inside.mutexes.items c.self.inside.waiters c.args.self.now c.self.view_is c.args.c c.requires.exists) in
    omega (arith, c.self.invariant.count, place)

pub push-requires-clause-free : goal.push-requires-clause-free
push-requires-clause-free c =
    subst (StandsInNone c.args.t) (sym (seen c.self.inside.mutexes.items c.self.inside.waiters c.self.invariant c.args.self.now c.self.view_is)) c.requires.free

pub invariant_of-self : goal.invariant_of-self
invariant_of-self c =
    sound_joined c.self.inside.mutexes.items c.self.inside.waiters c.push.new.self c.self.invariant c.args.c c.args.t c.args.m
    (within_shown c.self.inside.mutexes.items c.self.inside.waiters c.args.self.now c.self.view_is c.args.c c.requires.exists)
    c.push.ensures.queues

pub returns-clause-conditions : goal.returns-clause-conditions
returns-clause-conditions c =
    joined_set c.self.inside.mutexes.items c.self.inside.waiters c.push.new.self c.args.c c.args.t c.args.m
    (subst (λ t. IsSome (conditions t c.args.c)) (sym c.self.view_is) c.requires.exists)
    (subst (λ t. ForSome (cond_mutex (conditions t c.args.c)) (λ n. n ≡ c.args.m)) (sym c.self.view_is) c.requires.bound)
    (within_shown c.self.inside.mutexes.items c.self.inside.waiters c.args.self.now c.self.view_is c.args.c c.requires.exists)
    c.push.ensures.queues
    ∙ ap (λ t. put (conditions t) c.args.c (entered c.args.t c.args.m (conditions t c.args.c))) c.self.view_is

pub returns-clause-apart : goal.returns-clause-apart
returns-clause-apart c =
    subst AreApart (sym (waiting_is (set c.self.inside.mutexes.items c.args.c (Some c.args.m)) c.push.new.self
    (sound_joined c.self.inside.mutexes.items c.self.inside.waiters c.push.new.self c.self.invariant c.args.c c.args.t c.args.m
    (within_shown c.self.inside.mutexes.items c.self.inside.waiters c.args.self.now c.self.view_is c.args.c c.requires.exists)
    c.push.ensures.queues)))
    c.push.ensures.apart
