use Rattle.std.proofs.Common.{◌≡◌, ◌∙◌, sym, ap, subst, ℕ, find, Option, ◌-◌, true, false}
use Rattle.std.specs.Prelude.{nat_lt}
use Rattle.std.specs.List.{range_with_len}
use Rattle.thread_base.proofs.SearchLemmas.{find_passes}
use Rattle.thread_signals.specs.Counts.{place_of}
use Rattle.thread_signals.specs.SignalState.{Table, state_of}
use Rattle.thread_signals.proofs.CalmLemmas.{HasSums, has_sums, none_from}
use Rattle.thread_signals.proofs.Signals.next_pending.Goals as goal

-- the least signal from a number on that pends in a place
abbrev found : ℕ → (ℕ → ℕ → ℕ) → ℕ → Option ℕ
found from counts place = find (λ sig. nat_lt 0 (counts place sig)) (range_with_len from (32 - from))

pub of-requires : goal.of-requires
of-requires c =
    let state = state_of c.args.self.now in
    let sums = subst (λ (v : Table). HasSums (state_of v)) c.self.view_is (has_sums _ c.self.inside.pending _ c.self.invariant) in
    sums.scope (place_of c.args.t) c.in_ok-n.n
    (find_passes (λ sig. nat_lt 0 (state.counts (place_of c.args.t) sig)) (range_with_len c.args.from (32 - c.args.from)) c.in_ok-n.n (ap (found c.args.from (state_of c.args.self.now).counts) (sym c.place_of.ensures.value) ∙ sym c.pending_from.ensures ∙ c.in_ok-n.was))

pub returns-clause-none : goal.returns-clause-none
returns-clause-none c = λ h. let e : true ≡ false = h in absurd (cc)

pub returns-in_err-n-clause-none : goal.returns-in_err-n-clause-none
returns-in_err-n-clause-none c = λ h.
    let state = state_of c.args.self.now in
    let sums = subst (λ (v : Table). HasSums (state_of v)) c.self.view_is (has_sums _ c.self.inside.pending _ c.self.invariant) in
    none_from state.counts sums.scope (place_of c.args.t) c.args.from (ap (found c.args.from (state_of c.args.self.now).counts) (sym c.place_of.ensures.value) ∙ sym c.pending_from.ensures ∙ c.in_err-n.was)
