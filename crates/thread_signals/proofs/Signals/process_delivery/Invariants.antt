use Rattle.std.proofs.Common.{◌≡◌}
use Rattle.thread_base.specs.Maps.{numbered}
use Rattle.thread_signals.specs.SignalState.{state_of, free_in}
use Rattle.thread_base.specs.Deliveries.{process_delivery}
use Rattle.thread_signals.proofs.AnswerLemmas.{answer_from, process_answer}
use Rattle.thread_signals.proofs.Signals.process_delivery.Given as goal

abbrev pub invariant-loop-n : goal.invariant-loop-n
invariant-loop-n l =
    let state = state_of l.self in
    process_delivery state.waits (free_in state) state.counts (numbered 0 l.eff)
    ≡ answer_from (process_answer state.waits (free_in state) state.counts (numbered 0 l.eff)) l.n 32
