use Rattle.std.proofs.Common.{◌≡◌, ◌+◌}
use Rattle.thread_signals.specs.SignalState.{state_of, free_in}
use Rattle.thread_base.specs.Deliveries.{own_delivery}
use Rattle.thread_signals.proofs.AnswerLemmas.{answer_from, own_answer}
use Rattle.thread_signals.proofs.Signals.own_delivery.Given as goal

abbrev pub invariant-loop-index : goal.invariant-loop-index
invariant-loop-index l =
    let state = state_of l.self in
    own_delivery state.waits (free_in state) state.counts ≡ answer_from (own_answer state.waits (free_in state) state.counts) (l.index + 1) 65
