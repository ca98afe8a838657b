use Rattle.std.proofs.Common.{sym, None}
use Rattle.posix_model.specs.Scheduling.{eff}
use Rattle.kernel_state.specs.View.{view}
use Rattle.kernel_state.proofs.PendingLemmas.{next_given}
use Rattle.kernel_state.proofs.ViewLemmas.{view_plain}
use Rattle.kernel_state.proofs.tables.Tables.next_delivery.Goals as goal

pub returns-then-is_calm : goal.returns-then-is_calm
unfolding view
returns-then-is_calm g c =
    let order = g.R.Ready.order in
    let k = c.args.self.now in
    next_given (view order k) None (view_plain order k) (sym (c.is_calm.ensures c.if-is_calm.true (eff (view order k))))

pub returns : goal.returns
unfolding view
returns g c =
    let order = g.R.Ready.order in
    let k = c.args.self.now in
    next_given (view order k) c.next_signal.result (view_plain order k)
    (c.next_signal.ensures.next (eff (view order k)) (λ t in_range. c.levels.ensures t in_range.0 in_range.1))
