use Rattle.std.proofs.Common.{◌≡◌, ◌≤◌, ℕ, length}
use Rattle.thread_base.specs.Maps.{numbered}
use Rattle.posix_model.specs.Scheduling.{eff}
use Rattle.kernel_state.specs.View.{view}
use Rattle.kernel_state.proofs.tables.Tables.levels.Given as goal

abbrev pub invariant-loop-index : goal.invariant-loop-index
invariant-loop-index g l =
    (length l.levels ≡ 64) × ((t : ℕ) → 1 ≤ t → t ≤ l.index → numbered 0 l.levels t ≡ eff (view g.R.Ready.order l.self) t)
