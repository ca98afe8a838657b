use Rattle.std.proofs.Common.{◌≡◌, ◌+◌, find}
use Rattle.thread_base.specs.Priority.{tids}
use Rattle.thread_base.proofs.SearchLemmas.{found_from}
use Rattle.thread_signals.specs.SignalState.{state_of, free_in}
use Rattle.thread_signals.proofs.Signals.lowest_free.Given as goal

abbrev pub invariant-loop-index : goal.invariant-loop-index
invariant-loop-index l =
    find (λ t. free_in (state_of l.self) t l.s) tids ≡ found_from (λ t. free_in (state_of l.self) t l.s) (l.index + 1)
