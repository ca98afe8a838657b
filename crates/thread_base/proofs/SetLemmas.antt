-- Which signals a set has that was made of a word.
use Rattle.std.proofs.Common.{◌≡◌, ◌∙◌, ap, sym, refl, ℕ, ◌≤◌, ◌<◌, Bool, false, not, inl, inr, arith, min, lit<}
use Rattle.std.specs.Prelude.{◌&&◌, ◌||◌, ◌==◌, nat_le, nat_lt, if◌then◌else◌}
use Rattle.std.specs.Int.{bit_at}
use Rattle.std.specs.List.{range_with_len, list_any}
use Rattle.std.proofs.lemmas.Bool.{cases_lt, eqb-true, not-false, lt-leb}
use Rattle.std.proofs.lemmas.Bool.Decides.{nat_tests}
use Rattle.std.proofs.lemmas.Nat.Bits.{bit_at_and, bit_at-lt, bit_at_above}
use Rattle.thread_base.specs.Numbers.{can_block, has_signal, all_blocked, set_of}
use Rattle.thread_base.proofs.SearchLemmas.{in_range, any_none}

-- the bit of a signal that can be blocked
abbrev bit_of : Bool → ℕ
bit_of b = if b then 1 else 0

abbrev differs : ℕ → Bool
differs n = not (bit_at all_blocked n == bit_of (can_block n))

none_differs : list_any differs (range_with_len 0 32) ≡ false
none_differs = refl

bit_low : (n : ℕ) → n < 32 → bit_at all_blocked n ≡ bit_of (can_block n)
bit_low n low =
    let same = any_none differs (range_with_len 0 32) n none_differs (in_range 0 32 n (omega arith) (omega arith)) in
    eqb-true (bit_at all_blocked n) (bit_of (can_block n)) (not-false (bit_at all_blocked n == bit_of (can_block n)) same)

bit_high : (n : ℕ) → 32 ≤ n → bit_at all_blocked n ≡ bit_of (can_block n)
bit_high n high =
    let above : nat_le n 31 ≡ false = lt-leb n 31 (omega arith) in
    bit_at_above all_blocked 32 n (lit< tt) high ∙ sym (ap bit_of (out (nat_le 1 n) (nat_le n 31) (nat_lt n 18 || nat_lt 22 n) (not (n == 9)) above))
  where
    out : (a b c d : Bool) → b ≡ false → (a && (b && c)) && d ≡ false
    out a b c d h = grind arith

bit_blocked : (n : ℕ) → bit_at all_blocked n ≡ bit_of (can_block n)
bit_blocked n = elim (cases_lt n 32) [ inl low ↦ bit_low n low | inr high ↦ bit_high n high ]

both_bits : (a : ℕ) (b : Bool) → a < 2 → (min a (bit_of b) == 1) ≡ ((a == 1) && b)
both_bits a b h = grind (arith, nat_tests)

-- the set of a word has the word's signals that can be blocked
pub set_members : (word n : ℕ) → has_signal (set_of word) n ≡ (has_signal word n && can_block n)
set_members word n =
    ap (λ b. b == 1) (bit_at_and word all_blocked n ∙ ap (λ b. min (bit_at word n) b) (bit_blocked n))
    ∙ both_bits (bit_at word n) (can_block n) (bit_at-lt word n)
