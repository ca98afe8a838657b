use Rattle.std.proofs.Common.{◌∙◌, ap, sym, subst, arith, Some, IsNone, length, ◌<◌}
use Rattle.thread_base.specs.Maps.{put}
use Rattle.thread_base.specs.Objects.{new_condition}
use Rattle.cond_table.specs.ConditionMap.{conditions, condition_of}
use Rattle.cond_table.proofs.ConditionLemmas.{mutexes_set, fresh_queue}
use Rattle.cond_table.proofs.Conds.init.Goals as goal

pub returns : goal.returns
returns c =
    let fresh : IsNone (conditions (record { mutexes = c.self.inside.mutexes.items; queues = c.self.inside.waiters }) c.args.c) = subst (λ t. IsNone (conditions t c.args.c)) (sym c.self.view_is) c.requires.fresh in
    let idle = fresh_queue c.self.inside.mutexes.items c.self.inside.waiters c.self.invariant c.args.c fresh in
    let low = c.requires.limit in
    let within : c.args.c < length c.self.inside.mutexes.items = omega (arith, c.self.invariant.count) in
    mutexes_set c.self.inside.mutexes.items c.self.inside.waiters c.args.c (Some 0) within
    ∙ ap (λ ts. put (conditions (record { mutexes = c.self.inside.mutexes.items; queues = c.self.inside.waiters })) c.args.c (condition_of (Some 0) ts)) idle
    ∙ ap (λ t. put (conditions t) c.args.c (Some new_condition)) c.self.view_is
