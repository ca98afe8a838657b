use Rattle.std.proofs.Common.{◌≡◌, arith}
use Rattle.thread_signals.specs.Counts.{total}
use Rattle.posix_model.specs.Weights.{pending_in_all}
use Rattle.kernel_state.specs.Records.{pending_in}
use Rattle.kernel_state.specs.View.{view, outcome}
use Rattle.kernel_state.proofs.SumLemmas.{sum_pending}
use Rattle.kernel_state.proofs.tables.Tables.pend.Goals as goal

pub pend-requires : goal.pend-requires
unfolding view outcome
pend-requires g c =
    let s = view g.R.Ready.order c.args.self.now in
    let same : total (pending_in c.args.self.now.records) ≡ pending_in_all s = sum_pending s in
    let few = c.requires in
    omega (arith, same, few)
