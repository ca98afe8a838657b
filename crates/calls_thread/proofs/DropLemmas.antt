-- What pends on a thread that ends is dropped, one signal after another from the least number on.
use Rattle.std.proofs.Common.{◌≡◌, ◌≢◌, ◌∙◌, ap, sym, refl, subst, inl, inr, arith, ℕ, zero, suc, ◌+◌, ◌-◌, ◌<◌, ◌≤◌, find, List, ◌∷◌, map, length, set, Option, Some, None, IsNone}
use Rattle.std.specs.Prelude.{if◌then◌else◌, nat_lt, slice_index, slice_set}
use Rattle.std.specs.List.{range_with_len}
use Rattle.std.proofs.lemmas.Bool.{cases_lt, cases_eq, lt-ltb, le-ltb, ltb-false}
use Rattle.std.proofs.lemmas.List.{get_or-replicate}
use Rattle.std.proofs.lemmas.List.FromFn.{get_or-map-range_with_len}
use Rattle.thread_base.specs.Maps.{put}
use Rattle.thread_base.proofs.MapLemmas.{put_is, put_same, put_other, put-put, put_got}
use Rattle.thread_base.proofs.SearchLemmas.{find_member, find_lowest, range_in}
use Rattle.posix_model.specs.Changes.{Outcome}
use Rattle.posix_model.specs.Leaving.{plus_each}
use Rattle.posix_model.specs.Lines.{sig_numbers}
use Rattle.posix_model.specs.Reports.{nothing_told}
use Rattle.kernel_state.specs.View.{view}
use Rattle.kernel_state.specs.Changing.{Can, change_by}
use Rattle.kernel_state.specs.Begun.{HasNoted, NotesMore}
use Rattle.kernel_state.specs.declared.change.Change.TheVariants.{Signal as OfSignal}
use Rattle.kernel_state.specs.declared.change.SignalChange.TheVariants.{Drop as DropAll}
use Rattle.kernel_state.specs.Kernels.{KernelState}
use Rattle.kernel_state.specs.declared.tables.Tables.{Tables}
use Rattle.kernel_state.proofs.NoteLemmas.{tables_stay}
use Rattle.kernel_state.proofs.ViewLemmas.{none_dropped}
use Rattle.calls_thread.specs.Drops.{counts_below, counts_from, dropped_below, with_drops, DropsPending}

-- ---- lists of numbers by signal

-- two maps that agree on a range make the same list of it
agree : (f h : ℕ → ℕ) (a n : ℕ) → ((u : ℕ) → a ≤ u → u < a + n → f u ≡ h u) → map f (range_with_len a n) ≡ map h (range_with_len a n)
agree f h a zero same = refl
agree f h a (suc n) same =
    let here = same a (omega arith) (omega arith) in
    let rest = agree f h (a + 1) n (λ u low high. same u (omega (arith, low)) (omega (arith, high))) in
    λ i. here i ∷ rest i

-- a list of a range with another number at one place is that of the map that changed there
set_mapped : (h : ℕ → ℕ) (a n j v : ℕ) → set (map h (range_with_len a n)) j v ≡ map (put h (a + j) v) (range_with_len a n)
set_mapped h a zero j v = refl
set_mapped h a (suc n) zero v =
    let same : a + 0 ≡ a = omega arith in
    let here : v ≡ put h (a + 0) v a = sym (ap (λ k. put h k v a) same ∙ put_same h a v) in
    let rest = agree h (put h (a + 0) v) (a + 1) n (λ u low high. sym (put_other h (a + 0) v u (λ e. omega (arith, e, low)))) in
    λ i. here i ∷ rest i
set_mapped h a (suc n) (suc j) v =
    let next : a + 1 + j ≡ a + suc j = omega arith in
    let here : h a ≡ put h (a + suc j) v a = sym (put_other h (a + suc j) v a (λ e. omega (arith, e))) in
    let rest = set_mapped h (a + 1) n j v ∙ ap (λ k. map (put h k v) (range_with_len (a + 1) n)) next in
    λ i. here i ∷ rest i

-- ---- counts below and from a number

module _ (c : ℕ → ℕ) (from u : ℕ) where
  below_in : u < from → counts_below from c u ≡ c u
  below_in h = ap (λ b. if b then c u else 0) (lt-ltb u from h)

  below_out : from ≤ u → counts_below from c u ≡ 0
  below_out h = ap (λ b. if b then c u else 0) (le-ltb u from h)

  from_in : from ≤ u → counts_from from c u ≡ c u
  from_in h = ap (λ b. if b then 0 else c u) (le-ltb u from h)

  from_out : u < from → counts_from from c u ≡ 0
  from_out h = ap (λ b. if b then 0 else c u) (lt-ltb u from h)

-- below the least number there is nothing, and from it on everything
none_below : (c : ℕ → ℕ) → counts_below 0 c ≡ (λ u. 0)
none_below c = λ i u. below_out c 0 u (omega arith) i

all_from : (c : ℕ → ℕ) → counts_from 0 c ≡ c
all_from c = λ i u. from_in c 0 u (omega arith) i

-- where nothing more counts, everything is below and nothing is left
module _ (c : ℕ → ℕ) (from : ℕ) (none : (u : ℕ) → from ≤ u → c u ≡ 0) where
  all_below : counts_below from c ≡ c
  all_below = λ i u. (elim (cases_lt u from) as (λ _. counts_below from c u ≡ c u) [
    | inl low ↦ below_in c from u low
    | inr high ↦ below_out c from u high ∙ sym (none u high)
  ]) i

  none_from : counts_from from c ≡ (λ u. 0)
  none_from = λ i u. (elim (cases_lt u from) as (λ _. counts_from from c u ≡ 0) [
    | inl low ↦ from_out c from u low
    | inr high ↦ from_in c from u high ∙ none u high
  ]) i

-- one number more, where nothing counts between
module _ (c : ℕ → ℕ) (from sig : ℕ) (at : from ≤ sig) (none : (u : ℕ) → from ≤ u → u < sig → c u ≡ 0) where
  more_from : put (counts_from from c) sig 0 ≡ counts_from (sig + 1) c
  more_from = sym (put_is (counts_from from c) (counts_from (sig + 1) c) sig 0 (from_out c (sig + 1) sig (omega arith)) (λ u ne. by u ne))
    where
      by : (u : ℕ) → u ≢ sig → counts_from (sig + 1) c u ≡ counts_from from c u
      by u ne =
          elim (cases_lt u sig) [
            | inl low ↦ (from_out c (sig + 1) u (omega (arith, low)) ∙ elim (cases_lt u from) as (λ _. 0 ≡ counts_from from c u) [
              | inl before ↦ sym (from_out c from u before)
              | inr after ↦ sym (from_in c from u after ∙ none u after low)
            ])
            | inr high ↦ from_in c (sig + 1) u (omega (arith, high, ne)) ∙ sym (from_in c from u (omega (arith, high, at)))
          ]

  more_below : (u : ℕ) → u ≢ sig → counts_below from c u ≡ counts_below (sig + 1) c u
  more_below u ne =
      elim (cases_lt u sig) [
        | inl low ↦ (elim (cases_lt u from) as (λ _. counts_below from c u ≡ c u) [
          | inl before ↦ below_in c from u before
          | inr after ↦ below_out c from u after ∙ sym (none u after low)
        ] ∙ sym (below_in c (sig + 1) u (omega (arith, low))))
        | inr high ↦ below_out c from u (omega (arith, high, at)) ∙ sym (below_out c (sig + 1) u (omega (arith, high, ne)))
      ]

  -- what is told to be dropped, with that of one signal more
  module _ (drops : List ℕ) (n : ℕ) (is : n ≡ c sig) (low : sig < 32) where
    told_more : slice_set (plus_each drops (counts_below from c)) sig (slice_index (plus_each drops (counts_below from c)) sig + n) ≡ plus_each drops (counts_below (sig + 1) c)
    unfolding sig_numbers
    told_more =
        let before : ℕ → ℕ = λ u. slice_index drops u + counts_below from c u in
        let after : ℕ → ℕ = λ u. slice_index drops u + counts_below (sig + 1) c u in
        let old : slice_index (map before (range_with_len 0 32)) sig ≡ before sig = get_or-map-range_with_len before 0 32 sig sig 0 low (omega arith) in
        let out = below_out c from sig at in
        let now = below_in c (sig + 1) sig (omega arith) in
        let value : slice_index (map before (range_with_len 0 32)) sig + n ≡ after sig =
        ap (λ m. m + n) old ∙ (λ i. slice_index drops sig + out i + is i) ∙ omega arith ∙ ap (λ m. slice_index drops sig + m) (sym now) in
        let place : 0 + sig ≡ sig = omega arith in
        set_mapped before 0 32 sig (slice_index (map before (range_with_len 0 32)) sig + n)
        ∙ (λ i. map (put before (place i) (value i)) (range_with_len 0 32))
        ∙ agree (put before sig (after sig)) after 0 32 (λ u a b. elim (cases_eq u sig) as (λ _. put before sig (after sig) u ≡ after u) [
          | inl same ↦ ap (put before sig (after sig)) same ∙ put_same before sig (after sig) ∙ ap after (sym same)
          | inr other ↦ put_other before sig (after sig) u other ∙ ap (λ m. slice_index drops u + m) (more_below u other)
        ])

-- nothing of a signal from a number on was told to be dropped
untold_from : (c : ℕ → ℕ) (from sig : ℕ) (drops : List ℕ) → from ≤ sig → sig < 32 → drops ≡ nothing_told.drops → slice_index (plus_each drops (counts_below from c)) sig ≡ 0
unfolding sig_numbers nothing_told
untold_from c from sig drops at low untold =
    get_or-map-range_with_len (λ u. slice_index drops u + counts_below from c u) 0 32 sig sig 0 low (omega arith)
    ∙ (λ i. slice_index (untold i) sig + below_out c from sig at i)
    ∙ ap (λ m. m + 0) (get_or-replicate 32 sig 0 0 low)

full : (drops : List ℕ) → drops ≡ nothing_told.drops → length drops ≡ 32
unfolding nothing_told
full drops untold = ap length untold

-- ---- what pends of one signal after another is dropped

module _ (g : Outcome) (t : ℕ) where
  -- before the first
  dropped_none : g.report.drops ≡ nothing_told.drops → g ≡ dropped_below g t 0
  dropped_none untold =
      let pending = sym (ap (put g.state.pending t) (all_from (g.state.pending t)) ∙ put_got g.state.pending t) in
      let drops = none_dropped g.report.drops (full g.report.drops untold) ∙ ap (plus_each g.report.drops) (sym (none_below (g.state.pending t))) in
      λ i. record { state = record g.state { pending = pending i }; report = record g.report { drops = drops i } }

  -- after the last
  dropped_all : (from : ℕ) → ((u : ℕ) → from ≤ u → g.state.pending t u ≡ 0) → dropped_below g t from ≡ with_drops g t
  dropped_all from none =
      let c : ℕ → ℕ = g.state.pending t in
      λ i. record {
        state = record g.state { pending = put g.state.pending t (none_from c from none i) };
        report = record g.report { drops = plus_each g.report.drops (all_below c from none i) };
      }

  module _ (from sig : ℕ) (at : from ≤ sig) (low : sig < 32) (none : (u : ℕ) → from ≤ u → u < sig → g.state.pending t u ≡ 0) where
    can_drop : g.report.drops ≡ nothing_told.drops → Can (OfSignal sig (DropAll (Some t))) (dropped_below g t from)
    can_drop untold = untold_from (g.state.pending t) from sig g.report.drops at low untold

    dropped_more : change_by (OfSignal sig (DropAll (Some t))) (dropped_below g t from) ≡ dropped_below g t (sig + 1)
    dropped_more =
        let p : ℕ → ℕ → ℕ = g.state.pending in
        let left : ℕ → ℕ = counts_from from (p t) in
        let here : put p t left t ≡ left = put_same p t left in
        let pending : put (put p t left) t (put (put p t left t) sig 0) ≡ put p t (counts_from (sig + 1) (p t)) =
        put-put p t left (put (put p t left t) sig 0) ∙ ap (λ (f : ℕ → ℕ). put p t (put f sig 0)) here ∙ ap (put p t) (more_from (p t) from sig at none) in
        let count : put p t left t sig ≡ p t sig = ap (λ (f : ℕ → ℕ). f sig) here ∙ from_in (p t) from sig at in
        let drops = told_more (p t) from sig at none g.report.drops (put p t left t sig) count low in
        λ i. record { state = record g.state { pending = pending i }; report = record g.report { drops = drops i } }

-- ---- and is noted

-- that what pends of the signals below a number is dropped was noted
abbrev pub DropsBelow : {R : Type 0} → (R → List ℕ) → KernelState R → KernelState R → ℕ → ℕ → Type 0
DropsBelow order k q t from =
    (first : KernelState _) (g : Outcome) → HasNoted order first k g → g.state.pending t ≡ (view order k.tables).pending t → g.report.drops ≡ nothing_told.drops
    → HasNoted order first q (dropped_below g t from)

abbrev pub HasNotedDrops : {R : Type 0} → (R → List ℕ) → KernelState R → KernelState R → ℕ → ℕ → Type 0
HasNotedDrops order k q t from = (from ≤ 32) × (q.main ≡ None) × (length q.rest.noted.items ≤ length k.rest.noted.items + from) × DropsBelow order k q t from

module _ {R : Type 0} (order : R → List ℕ) (k : KernelState R) (t : ℕ) where
  pub drops_none : k.main ≡ None → HasNotedDrops order k k t 0
  drops_none idle = (omega arith, idle, omega arith, λ first g noted same untold. subst (HasNoted order first k) (dropped_none g t untold) noted)

  module _ (q : KernelState R) (tables : Tables R) (from : ℕ) (o : Option ℕ) (before : HasNotedDrops order k q t from) (are : tables ≡ q.tables) where
    -- what pends on the thread is what pended before
    module _ (first : KernelState R) (g : Outcome) (noted : HasNoted order first k g) (same : g.state.pending t ≡ (view order k.tables).pending t) (untold : g.report.drops ≡ nothing_told.drops) where
      still : (view order tables).pending t ≡ g.state.pending t
      still =
          let now = before.3 first g noted same untold in
          let stay : tables ≡ k.tables = are ∙ tables_stay order first q (dropped_below g t from) now ∙ sym (tables_stay order first k g noted) in
          ap (λ (x : Tables R). (view order x).pending t) stay ∙ sym same

    module _ (sig : ℕ) (least : o ≡ find (λ u. nat_lt 0 ((view order tables).pending t u)) (range_with_len from (32 - from))) (is : o ≡ Some sig) where
      found : find (λ u. nat_lt 0 ((view order tables).pending t u)) (range_with_len from (32 - from)) ≡ Some sig
      found = sym least ∙ is

      pub drop_within : (from ≤ sig) × (sig < 32)
      drop_within =
          let range = range_in from (32 - from) sig (find_member (λ u. nat_lt 0 ((view order tables).pending t u)) (range_with_len from (32 - from)) sig found) in
          let limit = before.0 in
          let high = range.1 in
          (range.0, omega (arith, high, limit))

      pub drops_more : (r : KernelState R) → NotesMore order q r (OfSignal sig (DropAll (Some t))) → DropsBelow order k r t (sig + 1)
      drops_more r more first g noted same untold =
          let c : ℕ → ℕ = (view order tables).pending t in
          let is_same = still first g noted same untold in
          let none : (u : ℕ) → from ≤ u → u < sig → g.state.pending t u ≡ 0 =
          λ u high low.
          (let zero_at = ltb-false 0 (c u) (find_lowest (λ v. nat_lt 0 (c v)) from (32 - from) sig u found high low) in
          let none_at : c u ≡ 0 = omega (arith, zero_at) in
          sym (ap (λ (f : ℕ → ℕ). f u) is_same) ∙ none_at) in
          let at = drop_within.0 in
          let under = drop_within.1 in
          subst (HasNoted order first r) (dropped_more g t from sig at under none)
          (more first (dropped_below g t from) (before.3 first g noted same untold) (can_drop g t from sig at under none untold)).so_far

    -- and then nothing is left
    pub drops_all : (IsNone o → (u : ℕ) → from ≤ u → (view order tables).pending t u ≡ 0) → o ≡ None → DropsPending order k q t
    drops_all none is first g noted same untold =
        let none_left : (u : ℕ) → from ≤ u → (view order tables).pending t u ≡ 0 = none (subst IsNone (sym is) refl) in
        let is_same = still first g noted same untold in
        subst (HasNoted order first q) (dropped_all g t from (λ u high. sym (ap (λ (f : ℕ → ℕ). f u) is_same) ∙ none_left u high)) (before.3 first g noted same untold)
