-- What the sum of all counts says of each: none is greater, and where it is 0 nothing pends.
use Rattle.std.proofs.Common.{◌≡◌, ◌∙◌, refl, sym, ap, arith, inl, inr, ℕ, zero, suc, ◌+◌, ◌-◌, ◌<◌, ◌≤◌, ◌^◌, Bool, true, false, find, map, Option, Some, None, List, length, get_or, set, length-set}
use Rattle.std.specs.Prelude.{sum, sum_by, nat_lt, IsNone}
use Rattle.std.specs.List.{range_with_len}
use Rattle.std.proofs.lemmas.Bool.{cases_Bool, cases_eq, cases_lt}
use Rattle.std.proofs.lemmas.Bool.Decides.{nat_tests}
use Rattle.std.proofs.lemmas.List.{ext_get_or, get_or-set_same, get_or-set_other, get_or_past}
use Rattle.std.proofs.lemmas.List.FromFn.{get_or-map-range_with_len, length-map-range_with_len}
use Rattle.std.proofs.lemmas.List.Sums.{sum_by-cons, sum-map}
use Rattle.thread_base.specs.Numbers.{IsInScope}
use Rattle.thread_base.specs.Priority.{tids}
use Rattle.thread_base.specs.Deliveries.{signals, next_delivery, IsSettled}
use Rattle.thread_base.proofs.SearchLemmas.{find_none, in_range}
use Rattle.thread_signals.specs.Counts.{places, all_of, total}
use Rattle.thread_signals.specs.SignalState.{Table, SignalState, AreSound, state_of}
use Rattle.thread_signals.proofs.SumLemmas.{sum_put, sum_more}
use Rattle.thread_signals.proofs.WordLemmas.{scope_range}
use Rattle.thread_signals.proofs.DeliveryLemmas.{next_none}

pub no_count : (n : ℕ) → nat_lt 0 n ≡ false → n ≡ 0
no_count n h = grind (arith, nat_tests)

-- a sum over more numbers is not less
sum_longer : (f : ℕ → ℕ) (n more : ℕ) → sum_by f (range_with_len 0 n) ≤ sum_by f (range_with_len 0 (n + more))
sum_longer f n zero = let e = ap (λ k. sum_by f (range_with_len 0 k)) (let e : n + 0 ≡ n = omega arith in e) in omega (arith, e)
sum_longer f n (suc more) =
    let shorter = sum_longer f n more in
    let one = sum_more f (n + more) in
    let e = ap (λ k. sum_by f (range_with_len 0 k)) (let e : n + suc more ≡ n + more + 1 = omega arith in e) in
    omega (arith, shorter, one, e)

-- a sum so far with the next term is not greater than the whole
pub sum_within : (f : ℕ → ℕ) (n end : ℕ) → n < end → sum_by f (range_with_len 0 n) + f n ≤ sum_by f (range_with_len 0 end)
sum_within f n end h =
    let one = sum_more f n in
    let longer = sum_longer f (n + 1) (end - (n + 1)) in
    let e = ap (λ k. sum_by f (range_with_len 0 k)) (let e : n + 1 + (end - (n + 1)) ≡ end = omega (arith, h) in e) in
    omega (arith, one, longer, e)

-- where each term is 0, so is the sum
sum_nothing : (f : ℕ → ℕ) (first count : ℕ) → ((t : ℕ) → f t ≡ 0) → sum_by f (range_with_len first count) ≡ 0
sum_nothing f first zero h = refl
sum_nothing f first (suc count) h =
    let cons = sum_by-cons f first (range_with_len (first + 1) count) in
    let here = h first in
    let rest = sum_nothing f (first + 1) count h in
    omega (arith, cons, here, rest)

-- the sum over all places is that of the process and those of the threads
pub all_places : (counts : ℕ → ℕ → ℕ) (sig : ℕ) → all_of counts sig ≡ counts 0 sig + sum (map (λ t. counts t sig) tids)
unfolding places tids
all_places counts sig =
    sum_by-cons (λ t. counts t sig) 0 (range_with_len 1 64) ∙ ap (λ n. counts 0 sig + n) (sym (sum-map (λ t. counts t sig) (range_with_len 1 64)))

module _ (counts : ℕ → ℕ → ℕ) (scope : (t sig : ℕ) → nat_lt 0 (counts t sig) ≡ true → IsInScope sig) where
  -- a number without a signal has no count
  no_signal : (t sig : ℕ) → (IsInScope sig → ⊥) → counts t sig ≡ 0
  no_signal t sig out =
      elim (cases_Bool (nat_lt 0 (counts t sig))) [
        | inl is ↦ absurd (out (scope t sig is))
        | inr un ↦ no_count (counts t sig) un
      ]

  none_of : (sig : ℕ) → (IsInScope sig → ⊥) → all_of counts sig ≡ 0
  unfolding places
  none_of sig out = sum_nothing (λ t. counts t sig) 0 65 (λ t. no_signal t sig out)

  -- a number from 32 on has none
  pub none_past : (sig : ℕ) → 32 ≤ sig → all_of counts sig ≡ 0
  none_past sig high = none_of sig (λ h. let range = scope_range sig h in omega (arith, high, range.1))

  -- one signal pends no more often than all together
  pub all_within : (sig : ℕ) → all_of counts sig ≤ total counts
  unfolding signals
  all_within sig =
      elim (cases_lt sig 1) [
        | inl low ↦ (let none = none_of sig (λ h. let range = scope_range sig h in omega (arith, low, range.0)) in omega (arith, none))
        | inr some ↦ elim (cases_lt sig 32) [
          | inl low ↦ (let one = sum_put (all_of counts) sig 0 1 31 some (omega (arith, low)) in omega (arith, one))
          | inr high ↦ (let none = none_past sig high in omega (arith, none))
        ]
      ]

  -- so does what pends of it in one place
  pub one_within : (t sig : ℕ) → t < 65 → counts t sig ≤ total counts
  unfolding places
  one_within t sig h =
      let one = sum_put (λ u. counts u sig) t 0 0 65 (omega arith) (omega (arith, h)) in
      let all = all_within sig in
      omega (arith, one, all)

  -- where nothing pends, nothing is delivered
  pub calm_settled : (waits : ℕ → Option ℕ) (free : ℕ → ℕ → Bool) (eff : ℕ → ℕ) → total counts ≡ 0 → next_delivery waits free counts eff ≡ None
  calm_settled waits free eff none = nothing (next_delivery waits free counts eff) ((next_none waits free eff counts scope).1 settled)
    where
      settled : IsSettled waits free counts
      settled t sig range taken =
          let own = one_within t sig (omega (arith, range.1)) in
          let common = one_within 0 sig (omega arith) in
          (omega (arith, own, none), omega (arith, common, none))

      nothing : (o : Option (ℕ × ℕ × Bool)) → IsNone o → o ≡ None
      nothing None h = refl
      nothing (Some d) h = let e : true ≡ false = h in absurd (cc)

  -- where no signal is found from a number on, none from there on pends
  pub none_from : (t from : ℕ) → find (λ sig. nat_lt 0 (counts t sig)) (range_with_len from (32 - from)) ≡ None → (sig : ℕ) → from ≤ sig → counts t sig ≡ 0
  none_from t from none sig le =
      elim (cases_lt sig 32) [
        | inl low ↦ no_count (counts t sig) (find_none (λ s. nat_lt 0 (counts t s)) (range_with_len from (32 - from)) sig none (in_range from (32 - from) sig le (omega (arith, le, low))))
        | inr high ↦ no_signal t sig (λ h. let range = scope_range sig h in omega (arith, high, range.1))
      ]

-- what a sound table says of its counts
pub record HasSums (state : SignalState) : Type 0 where
  pub scope : (t sig : ℕ) → nat_lt 0 (state.counts t sig) ≡ true → IsInScope sig
  pub fits : total state.counts < 2 ^ 63

pub has_sums : (table : Table) (sets : List ℕ) (all : ℕ) → AreSound table sets all → HasSums (state_of table)
unfolding state_of
has_sums table sets all sound = record { scope = sound.scope; fits = sound.bound }

-- of each signal below a number the sum over all places stands in a list of 32
pub record AreCounted (counts : ℕ → ℕ → ℕ) (n : ℕ) (sums : List ℕ) : Type 0 where
  pub long : length sums ≡ 32
  pub each : (sig : ℕ) → sig < n → get_or sums sig 0 ≡ all_of counts sig

-- so does that of one signal more
pub one_counted : (counts : ℕ → ℕ → ℕ) (n m : ℕ) (sums : List ℕ) (sum : ℕ) → AreCounted counts n sums → n < 32 → m ≡ n + 1 → sum ≡ all_of counts n → AreCounted counts m (set sums n sum)
one_counted counts n m sums sum so low next is = record {
  long = length-set sums n sum ∙ so.long;
  each = each;
}
  where
    each : (sig : ℕ) → sig < m → get_or (set sums n sum) sig 0 ≡ all_of counts sig
    each sig h =
        elim (cases_eq sig n) [
          | inl same ↦
              ap (λ s. get_or (set sums n sum) s 0) same
              ∙ get_or-set_same sums n sum 0 (let e = so.long in omega (arith, e, low))
              ∙ is
              ∙ sym (ap (all_of counts) same)
          | inr other ↦ get_or-set_other sums n sig sum 0 other ∙ so.each sig (omega (arith, h, next, other))
        ]

-- the whole list
pub all_counted : (counts : ℕ → ℕ → ℕ) (n : ℕ) (sums : List ℕ) → AreCounted counts n sums → 32 ≤ n → sums ≡ map (all_of counts) (range_with_len 0 32)
all_counted counts n sums so whole =
    ext_get_or 0 sums (map (all_of counts) (range_with_len 0 32))
    (so.long ∙ sym (length-map-range_with_len (all_of counts) 0 32))
    (λ i h.
    let low : i < 32 = let e = so.long in omega (arith, h, e) in
    so.each i (omega (arith, low, whole)) ∙ sym (get_or-map-range_with_len (all_of counts) 0 32 i i 0 low (omega arith)))

-- none stands there, and none pends, from 32 on
pub each_counted : (counts : ℕ → ℕ → ℕ) (n : ℕ) (sums : List ℕ) → ((t sig : ℕ) → nat_lt 0 (counts t sig) ≡ true → IsInScope sig) → AreCounted counts n sums → 32 ≤ n
    → (sig : ℕ) → get_or sums sig 0 ≡ all_of counts sig
each_counted counts n sums scope so whole sig =
    elim (cases_lt sig 32) [
      | inl low ↦ so.each sig (omega (arith, low, whole))
      | inr high ↦ get_or_past sums sig 0 (let e = so.long in omega (arith, e, high)) ∙ sym (none_past counts scope sig high)
    ]
