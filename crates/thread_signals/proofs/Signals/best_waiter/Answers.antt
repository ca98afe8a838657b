use Rattle.std.proofs.Common.{◌≡◌, ◌∙◌, ◌+◌, ap, sym, arith, ℕ, Bool, Some, true, false}
use Rattle.thread_base.specs.Maps.{numbered}
use Rattle.thread_base.specs.Priority.{first_greatest}
use Rattle.thread_base.specs.Deliveries.{waits_for, is_greater}
use Rattle.thread_signals.specs.SignalState.{state_of}
use Rattle.thread_signals.proofs.AnswerLemmas.{passing_to, passing_none, passing_all, best_skip, best_taken, best_left}
use Rattle.thread_signals.proofs.Signals.best_waiter.Goals as goal
use Rattle.thread_signals.proofs.Signals.best_waiter.Goals.{then-is_waiting+then-is_above, else-is_waiting, else-is_waiting-via-then-is_waiting+else-is_above, else-is_waiting-via-else-is_waiting}

pub loop-index-init : goal.loop-index-init
loop-index-init c =
    sym (ap (first_greatest (numbered 0 c.args.eff.now)) (passing_none (λ t. waits_for ((state_of c.args.self.now).waits t) c.args.s)))

pub loop-index-preserved : goal.loop-index-preserved
loop-index-preserved c =
    let key : ℕ → ℕ = numbered 0 c.args.eff.now in
    let test : ℕ → Bool = λ t. waits_for ((state_of c.args.self.now).waits t) c.args.s in
    let i = c.loop-index.index in
    let best = c.loop-index.best in
    let asked : test (i + 1) ≡ c.is_waiting.result = sym (ap test c.at-t.ensures) ∙ sym c.is_waiting.ensures in
    elim c.if-is_waiting.branch [
      | then-is_waiting+then-is_above w ↦
          (let greater : is_greater key best (i + 1) ≡ true = sym (ap (is_greater key best) c.at-t.ensures) ∙ sym w.is_above.ensures ∙ w.if-is_above.true in
          w.best-is ∙ ap Some c.at-t.ensures ∙ best_taken key test i best c.loop-index.invariant (asked ∙ w.if-is_waiting.true) greater)
      | else-is_waiting w ↦ w.best-is ∙ (elim w.else-is_waiting.branch [
        | else-is_waiting-via-then-is_waiting+else-is_above w' ↦
            (let lower : is_greater key best (i + 1) ≡ false = sym (ap (is_greater key best) c.at-t.ensures) ∙ sym w'.is_above.ensures ∙ w'.if-is_above.false in
            best_left key test i best c.loop-index.invariant (asked ∙ w'.if-is_waiting.true) lower)
        | else-is_waiting-via-else-is_waiting w' ↦ best_skip key test i best c.loop-index.invariant (asked ∙ w'.if-is_waiting.false)
      ])
    ]

pub returns : goal.returns
returns c =
    let key : ℕ → ℕ = numbered 0 c.args.eff.now in
    let test : ℕ → Bool = λ t. waits_for ((state_of c.args.self.now).waits t) c.args.s in
    let end : c.loop-index.index ≡ 64 = omega arith in
    c.loop-index.invariant ∙ ap (λ n. first_greatest key (passing_to test n)) end ∙ ap (first_greatest key) (passing_all test)
