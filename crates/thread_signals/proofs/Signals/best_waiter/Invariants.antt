use Rattle.std.proofs.Common.{◌≡◌}
use Rattle.thread_base.specs.Maps.{numbered}
use Rattle.thread_base.specs.Priority.{first_greatest}
use Rattle.thread_signals.specs.SignalState.{state_of}
use Rattle.thread_base.specs.Deliveries.{waits_for}
use Rattle.thread_signals.proofs.AnswerLemmas.{passing_to}
use Rattle.thread_signals.proofs.Signals.best_waiter.Given as goal

abbrev pub invariant-loop-index : goal.invariant-loop-index
invariant-loop-index l =
    l.best ≡ first_greatest (numbered 0 l.eff) (passing_to (λ t. waits_for ((state_of l.self).waits t) l.s) l.index)
