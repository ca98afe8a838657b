-- When what comes of a signal is what goes and what pends more, and what a signal that comes adds.
use Rattle.std.proofs.Common.{◌≡◌, ◌∙◌, ◌⊎◌, refl, ap, arith, ℕ, ◌+◌, ◌≤◌, Bool, false, List, length}
use Rattle.std.specs.Prelude.{if◌then◌else◌, ◌==◌, replicate, slice_index}
use Rattle.std.proofs.lemmas.List.{length-replicate}
use Rattle.thread_base.specs.Actions.{ignores}
use Rattle.posix_model.specs.State.{State}
use Rattle.posix_model.specs.Changes.{Outcome, begun}
use Rattle.posix_model.specs.Deliveries.{pend, killed_by}
use Rattle.posix_model.specs.Arrivals.{dropped, come}
use Rattle.posix_model.specs.Reports.{nothing_told}
use Rattle.posix_model.proofs.PendingLemmas.{either}
use Rattle.run_laws.specs.Ledger.{share, came, went, rung, beside, income_of, outcome_of}
use Rattle.run_laws.proofs.LedgerSums.{left_in, left_more, no_drops, drops_more}
use Rattle.run_laws.proofs.LedgerCalls.{Keeps}

-- nothing is told but perhaps a main line and an alarm, and what pends is as it was
pub record IsBare (s : State) (rings : Bool) (g : Outcome) : Type 0 where
  pub pending : g.state.pending ≡ s.pending
  pub alarm : g.report.alarm ≡ rings
  pub took : g.report.took ≡ 0
  pub drops : g.report.drops ≡ replicate 32 0

pub bare_begun : (s : State) → IsBare s false (begun s)
unfolding nothing_told
bare_begun s = record { pending = refl; alarm = refl; took = refl; drops = refl }

pub bare_kept : (s : State) (g h : Outcome) → IsBare s false g → Keeps g h → IsBare s false h
bare_kept s g h bare keeps = record {
  pending = ap (λ (k : (ℕ → ℕ → ℕ) × (Bool × ℕ × List ℕ)). k.0) keeps ∙ bare.pending;
  alarm = ap (λ (k : (ℕ → ℕ → ℕ) × (Bool × ℕ × List ℕ)). k.1.0) keeps ∙ bare.alarm;
  took = ap (λ (k : (ℕ → ℕ → ℕ) × (Bool × ℕ × List ℕ)). k.1.1) keeps ∙ bare.took;
  drops = ap (λ (k : (ℕ → ℕ → ℕ) × (Bool × ℕ × List ℕ)). k.1.2) keeps ∙ bare.drops;
}

pub is_bare : (s : State) (g : Outcome) → Keeps (begun s) g → IsBare s false g
is_bare s g keeps = bare_kept s (begun s) g (bare_begun s) keeps

module _ (sig : ℕ) where
  -- so many came by the main line and so many went by it: with all else that is told, what came is what went and what
  -- pends more
  abbrev pub Even : State → Outcome → ℕ → ℕ → Type 0
  Even s g came went =
      came + rung sig g.report.alarm + left_in s.pending sig ≡ went + beside sig g.report + slice_index g.report.drops sig + left_in g.state.pending sig

  -- the same for an outcome with its main line
  abbrev pub Balances : State → Outcome → Type 0
  Balances s o = income_of sig o.report + left_in s.pending sig ≡ outcome_of sig o.report + left_in o.state.pending sig

  -- of what is bare, nothing is told
  module _ {rings : Bool} (s : State) (g : Outcome) (bare : IsBare s rings g) where
    pub same_rung : rung sig g.report.alarm ≡ rung sig rings
    same_rung = ap (rung sig) bare.alarm

    pub none_beside : beside sig g.report ≡ 0
    none_beside = ap (λ n. if n == 0 then 0 else share sig g.report.took_sig g.report.took_count) bare.took

    pub none_dropped : slice_index g.report.drops sig ≡ 0
    none_dropped = ap (λ xs. slice_index xs sig) bare.drops ∙ no_drops 32 sig

    pub same_left : left_in g.state.pending sig ≡ left_in s.pending sig
    same_left = ap (λ counts. left_in counts sig) bare.pending

    -- a signal comes
    abbrev pub Comes : ℕ → Outcome → Type 0
    Comes more o =
        (o.report.alarm ≡ g.report.alarm)
        × (left_in s.pending sig + more ≡ beside sig o.report + slice_index o.report.drops sig + left_in o.state.pending sig)

    pub killed_comes : (other count : ℕ) → Comes (share sig other count) (killed_by other count g)
    killed_comes other count = let left = same_left in let drops = none_dropped in (refl, omega (arith, left, drops))

    dropped_comes : sig ≤ 31 → (other count : ℕ) → Comes (share sig other count) (dropped g other count)
    dropped_comes high other count =
        let left = same_left in
        let beside = none_beside in
        let before = none_dropped in
        let more = drops_more g.report.drops sig other count (ap length bare.drops ∙ length-replicate {A = ℕ} 32 0) high in
        (refl, omega (arith, left, beside, before, more))

    -- a signal comes for the process or for a thread
    module _ (high : sig ≤ 31) (place : ℕ) (where_it_is : (place ≡ 0) ⊎ ((1 ≤ place) × (place ≤ 64))) where
      pending_comes : (other count : ℕ) → Comes (share sig other count) (record g { state = pend g.state place other count })
      pending_comes other count =
          let left = same_left in
          let beside = none_beside in
          let drops = none_dropped in
          let more = left_more g.state place other sig where_it_is count in
          (refl, omega (arith, left, beside, drops, more))

      pub signal_comes : (other count : ℕ) → Comes (share sig other count) (come g place other count)
      signal_comes other count =
          let pending : Outcome = record g { state = pend g.state place other count } in
          let heeded : Outcome = if ignores (g.state.actions other) other then dropped g other count else pending in
          either (Comes (share sig other count)) (other == 9) (killed_by other count g) heeded (killed_comes other count)
          (either (Comes (share sig other count)) (ignores (g.state.actions other) other) (dropped g other count) pending (dropped_comes high other count) (pending_comes other count))

  pub none_rung : (s : State) (g : Outcome) → IsBare s false g → rung sig g.report.alarm ≡ 0
  none_rung s g bare = same_rung s g bare

  pub even_bare : (s : State) (g : Outcome) → IsBare s false g → Even s g 0 0
  even_bare s g bare =
      let left = same_left s g bare in
      let rung = none_rung s g bare in
      let beside = none_beside s g bare in
      let drops = none_dropped s g bare in
      omega (arith, left, rung, beside, drops)
