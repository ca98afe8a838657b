use Rattle.std.proofs.Common.{◌∙◌, ap, sym, subst, arith, [], ◌∷◌, ◌++◌, IsSome}
use Rattle.thread_base.specs.Maps.{put}
use Rattle.link_arena.specs.Waiting.{StandsInNone, AreApart}
use Rattle.thread_base.specs.Objects.{with_waiters}
use Rattle.mutex_table.specs.MutexMap.{mutexes}
use Rattle.mutex_table.proofs.MutexLemmas.{within_shown, has_place, queue_set, sound_queue, waiting_is, seen}
use Rattle.mutex_table.proofs.Mutexes.add_waiter.Goals as goal

pub push-requires-clause-limit : goal.push-requires-clause-limit
push-requires-clause-limit c =
    let place = within_shown c.self.inside.states.items c.self.inside.waiters c.args.self.now c.self.view_is c.args.m c.requires.exists in
    omega (arith, c.self.invariant.count, place)

pub push-requires-clause-free : goal.push-requires-clause-free
push-requires-clause-free c =
    subst (StandsInNone c.args.t) (sym (seen c.self.inside.states.items c.self.inside.waiters c.self.invariant c.args.self.now c.self.view_is)) c.requires.free

pub invariant_of-self : goal.invariant_of-self
invariant_of-self c =
    sound_queue c.self.inside.states.items c.self.inside.waiters c.self.invariant c.push.new.self c.args.m (λ ts. ts ++ c.args.t ∷ []) c.push.ensures.queues
    (λ none. absurd (has_place c.self.inside.states.items c.self.inside.waiters c.args.m (subst (λ t. IsSome (mutexes t c.args.m)) (sym c.self.view_is) c.requires.exists) none))

pub returns-clause-mutexes : goal.returns-clause-mutexes
returns-clause-mutexes c =
    queue_set c.self.inside.states.items c.self.inside.waiters c.push.new.self c.args.m (λ ts. ts ++ c.args.t ∷ []) c.push.ensures.queues
    ∙ ap (λ t. put (mutexes t) c.args.m (with_waiters (λ ts. ts ++ c.args.t ∷ []) (mutexes t c.args.m))) c.self.view_is

pub returns-clause-apart : goal.returns-clause-apart
returns-clause-apart c =
    subst AreApart (sym (waiting_is c.self.inside.states.items c.push.new.self
    (sound_queue c.self.inside.states.items c.self.inside.waiters c.self.invariant c.push.new.self c.args.m (λ ts. ts ++ c.args.t ∷ []) c.push.ensures.queues
    (λ none. absurd (has_place c.self.inside.states.items c.self.inside.waiters c.args.m (subst (λ t. IsSome (mutexes t c.args.m)) (sym c.self.view_is) c.requires.exists) none)))))
    c.push.ensures.apart
