use Rattle.std.proofs.Common.{◌≡◌, ◌∙◌, ap, sym, arith, inl, inr, ℕ, Bool, Option, Some, None, cond, true}
use Rattle.std.specs.Prelude.{nat_lt}
use Rattle.std.specs.Option.{option_map}
use Rattle.std.proofs.lemmas.Bool.{cases_Bool}
use Rattle.thread_base.specs.Maps.{numbered}
use Rattle.thread_base.specs.Deliveries.{recipient}
use Rattle.thread_signals.specs.SignalState.{Table, state_of, free_in, counts_of}
use Rattle.thread_signals.proofs.AnswerLemmas.{process_answer, of_signals, answer_here, answer_later, answer_no_more}
use Rattle.thread_signals.proofs.Signals.process_delivery.Goals as goal

pub loop-n-init : goal.loop-n-init
loop-n-init c =
    let state = state_of c.args.self.now in
    of_signals (process_answer state.waits (free_in state) state.counts (numbered 0 c.args.eff.now))

pub loop-n-preserved-in_default : goal.loop-n-preserved-in_default
unfolding state_of
loop-n-preserved-in_default c =
    let state = state_of c.args.self.now in
    let n = c.loop-n.n in
    let answer : ℕ → Option (ℕ × ℕ × Bool) = process_answer state.waits (free_in state) state.counts (numbered 0 c.args.eff.now) in
    let gets : Option ℕ = recipient state.waits (free_in state) (numbered 0 c.args.eff.now) n in
    let pends : nat_lt 0 (counts_of c.self.inside.counts 0 n) ≡ nat_lt 0 (state.counts 0 n) = ap (λ (v : Table). nat_lt 0 (counts_of v.counts 0 n)) c.self.view_is in
    let none : answer n ≡ None = elim (cases_Bool (nat_lt 0 (state.counts 0 n))) [
      | inl is ↦ absurd (c.in_default.ensures (c.self.invariant.scope 0 n (pends ∙ is)))
      | inr un ↦ ap (λ b. option_map (λ t. (t, n, true)) (cond b gets None)) un
    ] in
    c.loop-n.invariant ∙ answer_later answer n 32 (omega arith) none

pub returns-in-Some-pending_recipient : goal.returns-in-Some-pending_recipient
returns-in-Some-pending_recipient c =
    let state = state_of c.args.self.now in
    let answer : ℕ → Option (ℕ × ℕ × Bool) = process_answer state.waits (free_in state) state.counts (numbered 0 c.args.eff.now) in
    let is : answer c.loop-n.n ≡ Some (c.in-Some-pending_recipient.t, c.in-Some.s, true) =
    sym (ap answer c.in-Some.ensures.1) ∙ ap (option_map (λ t. (t, c.in-Some.s, true))) (sym c.pending_recipient.ensures ∙ c.in-Some-pending_recipient.is) in
    sym (c.loop-n.invariant ∙ answer_here answer c.loop-n.n 32 (c.in-Some-pending_recipient.t, c.in-Some.s, true) (omega arith) is)

pub loop-n-preserved : goal.loop-n-preserved
loop-n-preserved c =
    let state = state_of c.args.self.now in
    let answer : ℕ → Option (ℕ × ℕ × Bool) = process_answer state.waits (free_in state) state.counts (numbered 0 c.args.eff.now) in
    let none : answer c.loop-n.n ≡ None =
    sym (ap answer c.in-Some.ensures.1) ∙ ap (option_map (λ t. (t, c.in-Some.s, true))) (sym c.pending_recipient.ensures ∙ c.in_default-pending_recipient.is) in
    c.loop-n.invariant ∙ answer_later answer c.loop-n.n 32 (omega arith) none

pub returns : goal.returns
returns c =
    let state = state_of c.args.self.now in
    sym (c.loop-n.invariant ∙ answer_no_more (process_answer state.waits (free_in state) state.counts (numbered 0 c.args.eff.now)) c.loop-n.n 32 (omega arith))
