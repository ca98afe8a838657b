use Rattle.std.proofs.Common.{◌≡◌, ◌+◌}
use Rattle.thread_base.proofs.SearchLemmas.{found_from}
use Rattle.posix_model.specs.State.{is_absent}
use Rattle.posix_model.specs.Threads.{free_number}
use Rattle.kernel_state.specs.View.{view}
use Rattle.kernel_state.proofs.tables.Tables.free_number.Given as goal

abbrev pub invariant-loop-index : goal.invariant-loop-index
invariant-loop-index g l =
    free_number (view g.R.Ready.order l.self) ≡ found_from (λ t. is_absent ((view g.R.Ready.order l.self).threads t).standing) (l.index + 1)
