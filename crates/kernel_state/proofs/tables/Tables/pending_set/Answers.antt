use Rattle.thread_signals.specs.Counts.{is_pending}
use Rattle.kernel_state.specs.Records.{pending_in}
use Rattle.kernel_state.specs.View.{view}
use Rattle.kernel_state.proofs.SetLemmas.{set_is}
use Rattle.kernel_state.proofs.tables.Tables.pending_set.Goals as goal

pub returns : goal.returns
unfolding view
returns g c = set_is (is_pending (pending_in c.args.self.now.records) c.args.t) c.pending_set.result c.pending_set.ensures
