use Rattle.std.proofs.Common.{◌≡◌, ◌+◌}
use Rattle.std.specs.Prelude.{sum_by}
use Rattle.std.specs.List.{range_with_len}
use Rattle.thread_signals.specs.SignalState.{state_of}
use Rattle.thread_signals.specs.Counts.{total}
use Rattle.thread_signals.proofs.SumLemmas.{dropped_to}
use Rattle.thread_signals.proofs.Signals.drop_all.Given as goal

abbrev pub invariant-loop-place : goal.invariant-loop-place
invariant-loop-place l = record {
  state : state_of l.self ≡ record (state_of l.initial.self) { counts = dropped_to (state_of l.initial.self).counts l.s l.place };
  dropped : l.dropped ≡ sum_by (λ t. (state_of l.initial.self).counts t l.s) (range_with_len 0 l.place);
  sum : total (state_of l.self).counts + l.dropped ≡ total (state_of l.initial.self).counts;
}
