use Rattle.std.proofs.Common.{◌≡◌, ◌≤◌}
use Rattle.posix_model.specs.Weights.{pending_in_all}
use Rattle.kernel_state.specs.Kernels.{IsIdle}
use Rattle.kernel_state.specs.View.{view}
use Rattle.calls_signal.proofs.tests.first_other.Given as goal

abbrev pub invariant-loop-row : goal.invariant-loop-row
invariant-loop-row g l = IsIdle l.k × (pending_in_all (view g.R.Ready.order l.k.tables) ≤ l.row-index) × ((view g.R.Ready.order l.k.tables).now ≤ 0) × (l.index ≡ l.row-index)
