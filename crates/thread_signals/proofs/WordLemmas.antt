-- Sets of signals as words: a signal more or less, two sets in one, and the lowest signal.
use Rattle.std.proofs.Common.{◌≡◌, ◌≢◌, ◌∙◌, refl, sym, ap, subst, arith, inl, inr, ℕ, zero, suc, ◌-◌, ◌*◌, ◌^◌, ◌%◌, ◌<◌, ◌≤◌, min, max, eqb, true, false, not, ◌&&◌, ◌||◌, find, Option, Some, None, SomeIff, w32}
use Rattle.std.specs.Prelude.{bit_or, bit_and}
use Rattle.std.specs.Int.{bit_at, bit_not, trailing_zeros}
use Rattle.std.specs.Int.Count.{trailing_of_zero}
use Rattle.std.specs.List.{range_with_len}
use Rattle.std.proofs.lemmas.Bool.{cases_lt, eq-eqb}
use Rattle.std.proofs.lemmas.Bool.Decides.{nat_tests}
use Rattle.std.proofs.lemmas.Nat.Bits.{bit_at_set_same, bit_at_set_other, bit_at_clear_same, bit_at_clear_other, bit_at_and, bit_at_or, bit_at_not, bit_at_above, bit_at-lt, bit_at-zero, bit_at-trailing_zeros}
use Rattle.thread_base.specs.Maps.{put}
use Rattle.thread_base.specs.Numbers.{IsInScope, has_signal}
use Rattle.thread_base.proofs.MapLemmas.{put_is}
use Rattle.thread_base.proofs.SearchLemmas.{find_first, find_nowhere}
use Rattle.thread_base.specs.Deliveries.{signals}

-- a set with a signal more
pub with_more : (set s : ℕ) → s < 32 → has_signal (bit_or set (1 * 2 ^ s % 2 ^ 32)) ≡ put (has_signal set) s true
with_more set s h =
    put_is (has_signal set) (has_signal (bit_or set (1 * 2 ^ s % 2 ^ 32))) s true
    (ap (λ b. eqb b 1) (bit_at_set_same w32 set s h))
    (λ u ne. ap (λ b. eqb b 1) (bit_at_set_other w32 set s h u ne))

-- a set with a signal less
pub with_less : (set s : ℕ) → set < 2 ^ 32 → s < 32 → has_signal (bit_and set (bit_not w32 (1 * 2 ^ s % 2 ^ 32))) ≡ put (has_signal set) s false
with_less set s range h =
    put_is (has_signal set) (has_signal (bit_and set mask)) s false
    (ap (λ b. eqb b 1) (bit_at_clear_same w32 set s h))
    (λ u ne. ap (λ b. eqb b 1) (other u ne))
  where
    mask : ℕ
    mask = bit_not w32 (1 * 2 ^ s % 2 ^ 32)

    other : (u : ℕ) → u ≢ s → bit_at (bit_and set (bit_not w32 (1 * 2 ^ s % 2 ^ 32))) u ≡ bit_at set u
    other u ne =
        elim (cases_lt u 32) [
          | inl low ↦ bit_at_clear_other w32 set s h u low ne
          | inr high ↦
              (let above = bit_at_above set 32 u range high in
              bit_at_and set (bit_not w32 (1 * 2 ^ s % 2 ^ 32)) u ∙ ap (λ b. min b (bit_at (bit_not w32 (1 * 2 ^ s % 2 ^ 32)) u)) above ∙ omega arith ∙ sym above)
        ]

either : (m n : ℕ) → m < 2 → n < 2 → eqb (max m n) 1 ≡ (eqb m 1 || eqb n 1)
either zero zero h k = refl
either zero (suc zero) h k = refl
either (suc zero) zero h k = refl
either (suc zero) (suc zero) h k = refl
either (suc (suc m)) n h k = absurd (omega arith)
either m (suc (suc n)) h k = absurd (omega arith)

both : (m n : ℕ) → m < 2 → n < 2 → eqb (min m n) 1 ≡ (eqb m 1 && eqb n 1)
both zero zero h k = refl
both zero (suc zero) h k = refl
both (suc zero) zero h k = refl
both (suc zero) (suc zero) h k = refl
both (suc (suc m)) n h k = absurd (omega arith)
both m (suc (suc n)) h k = absurd (omega arith)

-- two sets in one
pub has_or : (a b sig : ℕ) → has_signal (bit_or a b) sig ≡ (has_signal a sig || has_signal b sig)
has_or a b sig = ap (λ n. eqb n 1) (bit_at_or a b sig) ∙ either (bit_at a sig) (bit_at b sig) (bit_at-lt a sig) (bit_at-lt b sig)

-- what two sets have in common
pub has_and : (a b sig : ℕ) → has_signal (bit_and a b) sig ≡ (has_signal a sig && has_signal b sig)
has_and a b sig = ap (λ n. eqb n 1) (bit_at_and a b sig) ∙ both (bit_at a sig) (bit_at b sig) (bit_at-lt a sig) (bit_at-lt b sig)

flipped : (m : ℕ) → m < 2 → eqb (1 - m) 1 ≡ not (eqb m 1)
flipped zero h = refl
flipped (suc zero) h = refl
flipped (suc (suc m)) h = absurd (omega arith)

-- what a set does not have
pub has_not : (set sig : ℕ) → set < 2 ^ 32 → sig < 32 → has_signal (bit_not w32 set) sig ≡ not (has_signal set sig)
has_not set sig range h = ap (λ n. eqb n 1) (bit_at_not w32 set sig range h) ∙ flipped (bit_at set sig) (bit_at-lt set sig)

-- the empty set
pub has_none : (sig : ℕ) → has_signal 0 sig ≡ false
has_none sig = ap (λ n. eqb n 1) (bit_at-zero sig)

-- a signal in scope has a number below 32
pub scope_range : (sig : ℕ) → IsInScope sig → (1 ≤ sig) × (sig < 32)
scope_range sig h = (grind (arith, nat_tests), grind (arith, nat_tests))

-- the lowest signal of a set, all of whose signals are in scope, has the number of the zeros below it
pub lowest_found : (set : ℕ) → set < 2 ^ 32 → ((sig : ℕ) → has_signal set sig ≡ true → IsInScope sig) → (lowest : Option ℕ)
    → SomeIff lowest (IsInScope (trailing_zeros w32 set)) (trailing_zeros w32 set) → lowest ≡ find (has_signal set) signals
unfolding signals
lowest_found zero range scope None h = sym (find_nowhere (has_signal 0) 1 31 has_none)
lowest_found zero range scope (Some x) h =
    absurd (let out = scope_range 32 (subst IsInScope (trailing_of_zero 32) h.0) in omega (arith, out.1))
lowest_found (suc n) range scope found h =
    let set : ℕ = suc n in
    let bits = bit_at-trailing_zeros w32 set (omega arith) range in
    let has : has_signal set (trailing_zeros w32 set) ≡ true = eq-eqb (bit_at set (trailing_zeros w32 set)) 1 bits.1 in
    let in_scope : IsInScope (trailing_zeros w32 set) = scope (trailing_zeros w32 set) has in
    let numbers = scope_range (trailing_zeros w32 set) in_scope in
    let first : find (has_signal set) (range_with_len 1 31) ≡ Some (trailing_zeros w32 set) =
    find_first (has_signal set) 1 31 (trailing_zeros w32 set) has (λ u below. ap (λ b. eqb b 1) (bits.2 u below)) numbers.0 numbers.1 in
    is found h in_scope ∙ sym first
  where
    is : (lowest : Option ℕ) → SomeIff lowest (IsInScope (trailing_zeros w32 (suc n))) (trailing_zeros w32 (suc n)) → IsInScope (trailing_zeros w32 (suc n))
        → lowest ≡ Some (trailing_zeros w32 (suc n))
    is None h scope = absurd (h scope)
    is (Some x) h scope = ap Some h.1
