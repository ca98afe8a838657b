use Rattle.std.proofs.Common.{◌≤◌}
use Rattle.posix_model.specs.Weights.{pending_in_all}
use Rattle.kernel_state.specs.View.{view}
use Rattle.kernel_state.specs.Kernels.{IsIdle}
use Rattle.process_engine.proofs.delivery_tests.make_all.Given as goal

abbrev pub invariant-loop-index : goal.invariant-loop-index
invariant-loop-index g l = IsIdle l.k × (pending_in_all (view g.R.Ready.order l.k.tables) ≤ l.index)
