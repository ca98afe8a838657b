use Rattle.std.proofs.Common.{◌≡◌}
use Rattle.std.specs.Prelude.{sum_by}
use Rattle.std.specs.List.{range_with_len}
use Rattle.thread_signals.specs.SignalState.{state_of}
use Rattle.thread_signals.proofs.Signals.left_of.Given as goal

abbrev pub invariant-loop-place : goal.invariant-loop-place
invariant-loop-place l = l.left ≡ sum_by (λ t. (state_of l.self).counts t l.n) (range_with_len 0 l.place)
