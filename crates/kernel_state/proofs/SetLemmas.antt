-- A set of signals by its members.
use Rattle.std.proofs.Common.{◌≡◌, ◌∙◌, ap, sym, refl, arith, inl, inr, eqb, ℕ, zero, suc, ◌^◌, ◌<◌, ◌≤◌, max, Bool, true, false, ◌&&◌, ◌||◌, List, [], ◌∷◌}
use Rattle.std.specs.Prelude.{◌==◌, if◌then◌else◌, bit_or}
use Rattle.std.specs.Int.{bit_at}
use Rattle.std.proofs.lemmas.Bool.{cases_eq, eq-eqb, eqb-true, ne_eqb}
use Rattle.std.proofs.lemmas.Bool.Decides.{nat_tests}
use Rattle.std.proofs.lemmas.Nat.Bits.{bit_at-zero, bit_at-pow_same, bit_at-pow_other, bit_at_or, bit_at-lt, same_from_bits}
use Rattle.thread_base.specs.Deliveries.{signals}
use Rattle.thread_base.specs.Numbers.{IsInScope, has_signal, is_in_scope, can_block}
use Rattle.thread_base.specs.Orders.{is_in}
use Rattle.thread_base.proofs.SearchLemmas.{in_range}
use Rattle.posix_model.specs.SignalCalls.{set_of_those}

-- the empty set
has_none : (sig : ℕ) → has_signal 0 sig ≡ false
has_none sig = ap (λ n. eqb n 1) (bit_at-zero sig)

either : (m n : ℕ) → m < 2 → n < 2 → eqb (max m n) 1 ≡ (eqb m 1 || eqb n 1)
either zero zero h k = refl
either zero (suc zero) h k = refl
either (suc zero) zero h k = refl
either (suc zero) (suc zero) h k = refl
either (suc (suc m)) n h k = absurd (omega arith)
either m (suc (suc n)) h k = absurd (omega arith)

-- two sets in one
has_or : (a b sig : ℕ) → has_signal (bit_or a b) sig ≡ (has_signal a sig || has_signal b sig)
has_or a b sig = ap (λ n. eqb n 1) (bit_at_or a b sig) ∙ either (bit_at a sig) (bit_at b sig) (bit_at-lt a sig) (bit_at-lt b sig)

-- a signal in scope has a number below 32
scope_range : (sig : ℕ) → IsInScope sig → (1 ≤ sig) × (sig < 32)
scope_range sig h = (grind (arith, nat_tests), grind (arith, nat_tests))

-- the set of one signal
has_one : (sig u : ℕ) → has_signal (2 ^ sig) u ≡ (u == sig)
has_one sig u =
    elim (cases_eq u sig) [
      | inl same ↦ ap (λ v. has_signal (2 ^ sig) v) same ∙ ap (λ n. eqb n 1) (bit_at-pow_same sig) ∙ sym (eq-eqb u sig same)
      | inr other ↦ ap (λ n. eqb n 1) (bit_at-pow_other sig u other) ∙ sym (ne_eqb u sig other)
    ]

with_one : (a b c : Bool) → (a ≡ true → c ≡ true) → (a || (b && c)) ≡ ((a || b) && c)
with_one true b c h = sym (h refl)
with_one false b c h = refl

without_one : (a b c : Bool) → (a ≡ true → c ≡ false) → (b && c) ≡ ((a || b) && c)
without_one true true c h = refl
without_one true false c h = sym (h refl)
without_one false b c h = refl

-- the members of the set of those signals of a list that pass a test
has_those : (test : ℕ → Bool) (sigs : List ℕ) (u : ℕ) → has_signal (set_of_those test sigs) u ≡ (is_in u sigs && test u)
has_those test [] u = has_none u
has_those test (sig ∷ sigs) u = by (test sig) refl (has_those test sigs u)
  where
    by : (b : Bool) → test sig ≡ b → has_signal (set_of_those test sigs) u ≡ (is_in u sigs && test u)
        → has_signal (if b then bit_or (2 ^ sig) (set_of_those test sigs) else set_of_those test sigs) u ≡ ((u == sig || is_in u sigs) && test u)
    by true passes rest =
        has_or (2 ^ sig) (set_of_those test sigs) u
        ∙ (λ i. has_one sig u i || rest i)
        ∙ with_one (u == sig) (is_in u sigs) (test u) (λ is. ap test (eqb-true u sig is) ∙ passes)
    by false fails rest = rest ∙ without_one (u == sig) (is_in u sigs) (test u) (λ is. ap test (eqb-true u sig is) ∙ fails)

implied : (a b : Bool) → (a ≡ true → b ≡ true) → a ≡ (b && a)
implied true b h = sym (ap (λ x. x && true) (h refl))
implied false true h = refl
implied false false h = refl

first_of : (a b : Bool) → (a && b) ≡ true → a ≡ true
first_of true b h = refl
first_of false b h = h

second_of : (a b : Bool) → (a && b) ≡ true → b ≡ true
second_of true b h = h
second_of false b h = absurd (let e : false ≡ true = h in cc)

-- a signal that can be blocked is among the signals
blocked_in : (sig : ℕ) → can_block sig ≡ true → is_in sig signals ≡ true
unfolding signals
blocked_in sig h =
    let range = scope_range sig (first_of (is_in_scope sig) _ h) in in_range 1 31 sig range.0 range.1

same_bit : (m n : ℕ) → m < 2 → n < 2 → eqb m 1 ≡ eqb n 1 → m ≡ n
same_bit zero zero h k e = refl
same_bit zero (suc zero) h k e = absurd (let f : false ≡ true = e in cc)
same_bit (suc zero) zero h k e = absurd (let f : true ≡ false = e in cc)
same_bit (suc zero) (suc zero) h k e = refl
same_bit (suc (suc m)) n h k e = absurd (omega arith)
same_bit m (suc (suc n)) h k e = absurd (omega arith)

-- the set of the signals that pass a test and can be blocked
pub set_is : (test : ℕ → Bool) (set : ℕ) → ((sig : ℕ) → has_signal set sig ≡ (test sig && can_block sig)) → set ≡ set_of_those (λ sig. test sig && can_block sig) signals
set_is test set h =
    same_from_bits set whole (λ i. same_bit (bit_at set i) (bit_at whole i) (bit_at-lt set i) (bit_at-lt whole i)
    (h i
    ∙ implied (both i) (is_in i signals) (λ e. blocked_in i (second_of (test i) (can_block i) e))
    ∙ sym (has_those both signals i)))
  where
    both : ℕ → Bool
    both sig = test sig && can_block sig

    whole : ℕ
    whole = set_of_those both signals
