use Rattle.std.proofs.Common.{◌≡◌, ◌∙◌, ◌+◌, ap, sym, arith, ℕ, Bool, Option, Some, None, false}
use Rattle.std.specs.Option.{option_map}
use Rattle.thread_signals.specs.SignalState.{state_of, free_in}
use Rattle.thread_signals.proofs.AnswerLemmas.{own_answer, of_threads, answer_here, answer_later, answer_no_more}
use Rattle.thread_signals.proofs.Signals.own_delivery.Goals as goal

pub loop-index-init : goal.loop-index-init
loop-index-init c = let state = state_of c.args.self.now in of_threads (own_answer state.waits (free_in state) state.counts)

pub returns-in-Some : goal.returns-in-Some
returns-in-Some c =
    let state = state_of c.args.self.now in
    let answer : ℕ → Option (ℕ × ℕ × Bool) = own_answer state.waits (free_in state) state.counts in
    let is : answer (c.loop-index.index + 1) ≡ Some (c.at-t.result, c.in-Some.s, false) =
    sym (ap answer c.at-t.ensures) ∙ ap (option_map (λ sig. (c.at-t.result, sig, false))) (sym c.own_signal.ensures ∙ c.in-Some.is) in
    sym (c.loop-index.invariant ∙ answer_here answer (c.loop-index.index + 1) 65 (c.at-t.result, c.in-Some.s, false) (omega arith) is)

pub loop-index-preserved : goal.loop-index-preserved
loop-index-preserved c =
    let state = state_of c.args.self.now in
    let answer : ℕ → Option (ℕ × ℕ × Bool) = own_answer state.waits (free_in state) state.counts in
    let none : answer (c.loop-index.index + 1) ≡ None =
    sym (ap answer c.at-t.ensures) ∙ ap (option_map (λ sig. (c.at-t.result, sig, false))) (sym c.own_signal.ensures ∙ c.in_default.is) in
    c.loop-index.invariant ∙ answer_later answer (c.loop-index.index + 1) 65 (omega arith) none

pub returns : goal.returns
returns c =
    let state = state_of c.args.self.now in
    sym (c.loop-index.invariant ∙ answer_no_more (own_answer state.waits (free_in state) state.counts) (c.loop-index.index + 1) 65 (omega arith))
