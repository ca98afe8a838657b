use Rattle.std.proofs.Common.{◌≡◌, ◌∙◌, ap, sym, arith, Some}
use Rattle.thread_base.specs.Maps.{put}
use Rattle.thread_base.specs.Objects.{with_holder}
use Rattle.mutex_table.specs.MutexMap.{mutexes, state_of}
use Rattle.mutex_table.proofs.MutexLemmas.{states_set, within_shown, held}
use Rattle.mutex_table.proofs.Mutexes.put_holder.Goals as goal

pub index_mut-requires : goal.index_mut-requires
index_mut-requires c =
    let place = within_shown c.self.inside.states.items c.self.inside.waiters c.args.self.now c.self.view_is c.args.m c.requires in
    omega (arith, c.self.invariant.count, place)

pub returns : goal.returns
returns c =
    let place = record c.unwrap-state.result { holder = c.args.h } in
    let found : state_of (mutexes (record { states = c.self.inside.states.items; queues = c.self.inside.waiters }) c.args.m) ≡ Some c.unwrap-state.result =
    ap (λ t. state_of (mutexes t c.args.m)) c.self.view_is ∙ sym c.lookup.ensures.state ∙ c.unwrap-state.ensures in
    states_set c.self.inside.states.items c.self.inside.waiters c.args.m (Some place)
    (within_shown c.self.inside.states.items c.self.inside.waiters c.args.self.now c.self.view_is c.args.m c.requires)
    ∙ ap (put (mutexes (record { states = c.self.inside.states.items; queues = c.self.inside.waiters })) c.args.m) (held c.self.inside.states.items c.self.inside.waiters c.args.m c.unwrap-state.result c.args.h found)
    ∙ ap (λ t. put (mutexes t) c.args.m (with_holder c.args.h (mutexes t c.args.m))) c.self.view_is
