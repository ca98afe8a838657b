use Rattle.thread_signals.specs.SignalState.{state_of}
use Rattle.thread_signals.proofs.CalmLemmas.{AreCounted}
use Rattle.thread_signals.proofs.Signals.left.Given as goal

abbrev pub invariant-loop-n : goal.invariant-loop-n
invariant-loop-n l = AreCounted (state_of l.self).counts l.n l.left
