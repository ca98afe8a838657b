use Rattle.std.proofs.Common.{◌≡◌, ◌+◌}
use Rattle.thread_base.proofs.SearchLemmas.{found_from}
use Rattle.posix_model.specs.State.{joins}
use Rattle.posix_model.specs.Threads.{joiner}
use Rattle.kernel_state.specs.View.{view}
use Rattle.kernel_state.proofs.tables.Tables.joiner.Given as goal

abbrev pub invariant-loop-index : goal.invariant-loop-index
invariant-loop-index g l =
    joiner (view g.R.Ready.order l.self) l.t ≡ found_from (λ u. joins l.t ((view g.R.Ready.order l.self).threads u).standing) (l.index + 1)
