use Rattle.std.proofs.Common.{◌∙◌, ap, sym, subst, arith, ◌<◌, length, Option, Some, IsNone}
use Rattle.thread_base.specs.declared.mutex.Holder.TheVariants.{Free}
use Rattle.thread_base.specs.Maps.{put}
use Rattle.mutex_table.specs.declared.MutexState.{MutexState}
use Rattle.thread_base.specs.Objects.{free_mutex}
use Rattle.mutex_table.specs.MutexMap.{mutexes, mutex_of}
use Rattle.mutex_table.proofs.MutexLemmas.{states_set, fresh_queue}
use Rattle.mutex_table.proofs.Mutexes.init.Goals as goal

pub returns : goal.returns
returns c =
    let fresh : IsNone (mutexes (record { states = c.self.inside.states.items; queues = c.self.inside.waiters }) c.args.m) = subst (λ t. IsNone (mutexes t c.args.m)) (sym c.self.view_is) c.requires.fresh in
    let idle = fresh_queue c.self.inside.states.items c.self.inside.waiters c.self.invariant c.args.m fresh in
    let low = c.requires.limit in
    let within : c.args.m < length c.self.inside.states.items = omega (arith, c.self.invariant.count) in
    let place : Option MutexState = Some (record { kind = c.args.kind; protocol = c.args.protocol; holder = Free }) in
    states_set c.self.inside.states.items c.self.inside.waiters c.args.m place within
    ∙ ap (λ ts. put (mutexes (record { states = c.self.inside.states.items; queues = c.self.inside.waiters })) c.args.m (mutex_of place ts)) idle
    ∙ ap (λ t. put (mutexes t) c.args.m (Some (free_mutex c.args.kind c.args.protocol))) c.self.view_is
