-- What `parse` reads from decimal digits, and from the text of a flag.
use Rattle.std.proofs.Common.{◌≡◌, ◌<◌, ◌^◌, ◌==◌, ℕ, Bool, cond, true, false, List, [], ◌∷◌, length, drop}
use Rattle.std.proofs.Common.{Option, Some, None, Result, Ok, Err, refl, sym, ap, arith, subst, lt-ltb, ltb-true, nat_lt, codes}
use Rattle.std.specs.Char.{digit_value, is_ascii_digit}
use Rattle.std.specs.List.{list_all}
use Rattle.std.specs.Option.{unwrap_or}
use Rattle.std.specs.Result.{OkIff, result_ok}
use Rattle.std.specs.Str.{bytes_eq}
use Rattle.std.specs.Str.Parse.{AllDigits, IsNumeral, ParsesBool, ParsesUnsigned, digits_value, without_leading_plus}
use Rattle.std.proofs.lemmas.Slice.Eq.{bytes_eq-Decides}
use Rattle.clap.specs.Words.{ReadsOne, Text}
use Rattle.clap.proofs.WalkLemmas.{both}
use Rattle.command_words.specs.Values.{is_decimal, is_digits, number}
use Rattle.command_words.specs.Accepted.{is_set}

digit_below_10 : (d : ℕ) → is_ascii_digit d ≡ true → digit_value d < 10
digit_below_10 d e = grind arith

digits_are_digits : (ds : List ℕ) → list_all is_ascii_digit ds ≡ true → AllDigits 10 ds
digits_are_digits [] e = tt
digits_are_digits (d ∷ ds) e = let p = both (is_ascii_digit d) _ e in (digit_below_10 d p.0, digits_are_digits ds p.1)

decimal_is_numeral : (text : List ℕ) → is_decimal text ≡ true → IsNumeral 10 text
decimal_is_numeral text e =
    let p = both (is_digits text) _ e in
    let q = both (nat_lt 0 (length text)) _ p.0 in
    (ltb-true _ _ q.0, digits_are_digits text q.1)

-- no digit is a plus
no_plus : (text : List ℕ) → is_decimal text ≡ true → without_leading_plus text ≡ text
no_plus [] e = refl
no_plus (d ∷ ds) e =
    let p = both (is_digits (d ∷ ds)) _ e in
    let q = both (nat_lt 0 (length (d ∷ ds))) _ p.0 in
    let r = both (is_ascii_digit d) _ q.1 in
    let plus : (d == 43) ≡ false = grind arith in
    ap (λ (b : Bool). drop (cond b 1 0) (d ∷ ds)) plus

-- what `parse` reads from decimal digits is their number
pub parsed_number : {E : Type 0} (text : List ℕ) (r : Result ℕ E) → is_decimal text ≡ true → ParsesUnsigned 64 10 text r → result_ok r ≡ number text
parsed_number {E} text r decimal parses = go r (subst (λ t. OkIff r (IsNumeral 10 t × (digits_value 10 t < 2 ^ 64)) (digits_value 10 t)) (no_plus text decimal) parses)
  where
    go : (o : Result ℕ E) → OkIff o (IsNumeral 10 text × (digits_value 10 text < 2 ^ 64)) (digits_value 10 text) → result_ok o ≡ number text
    go (Ok x) h = rw (decimal, lt-ltb _ _ h.0.1, h.1) refl
    go (Err e) h = bound (nat_lt (digits_value 10 text) (2 ^ 64)) refl
      where
        bound : (b : Bool) → nat_lt (digits_value 10 text) (2 ^ 64) ≡ b → None ≡ number text
        bound true below = absurd (h (decimal_is_numeral text decimal, ltb-true _ _ below))
        bound false above = rw (decimal, above) refl

-- a flag that reads as `true` was given
pub flag_is_set : (E : Type 0) (o : Option Text) (r : Option Bool) → (o ≡ None → r ≡ None)
    → ((t : Text) → o ≡ Some t → ReadsOne {T = Bool} {E = E} ParsesBool t r) → unwrap_or r false ≡ is_set o
flag_is_set E None r none some = ap (λ x. unwrap_or x false) (none refl)
flag_is_set E (Some t) r none some = go r (some t refl)
  where
    go : (x : Option Bool) → ReadsOne {T = Bool} {E = E} ParsesBool t x → unwrap_or x false ≡ bytes_eq t (codes "true")
    go (Some true) h = sym ((bytes_eq-Decides t (codes "true")).1 h)
    go (Some false) h = rw h refl
    go None h = other (bytes_eq t (codes "true")) refl
      where
        other : (b : Bool) → bytes_eq t (codes "true") ≡ b → false ≡ bytes_eq t (codes "true")
        other true e = absurd (h.1.0 ((bytes_eq-Decides t (codes "true")).0 e))
        other false e = sym e
