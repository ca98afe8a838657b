-- A word matches one row of the table at most.
use Rattle.std.proofs.Common.{◌≡◌, ℕ, ◌≤◌, Bool, true, false, eqb, not, ◌&&◌, List, [], ◌∷◌, length, refl, sym, ap, ◌∙◌, inl, inr, arith}
use Rattle.std.specs.Prelude.{bit_and, filter}
use Rattle.std.proofs.lemmas.Bool.{eqb-true, eq-eqb, cases_Bool}
use Rattle.std.proofs.lemmas.Nat.{and_assoc, and_comm}
use Rattle.rv_table.specs.Table.{OneRow, Pattern, Row, rows, mask_of, value_of, matches}
use Rattle.rv_table.proofs.Rows.{both_true}

-- two patterns differ in a bit that both fix
abbrev is_apart : Pattern → Pattern → Bool
is_apart p q = not (eqb (bit_and (value_of p) (mask_of q)) (bit_and (value_of q) (mask_of p)))

-- a pattern is apart from those of all these rows
abbrev is_apart_from : Pattern → List Row → Bool
is_apart_from p [] = true
is_apart_from p (r ∷ rs) = is_apart p r.pattern && is_apart_from p rs

-- each row is apart from those after it
abbrev are_apart : List Row → Bool
are_apart [] = true
are_apart (r ∷ rs) = is_apart_from r.pattern rs && are_apart rs

-- a word has no two patterns that are apart
not_both : (p q : Pattern) (w : ℕ) → is_apart p q ≡ true → matches p w ≡ true → matches q w ≡ false
not_both p q w apart has_p =
    elim (cases_Bool (matches q w)) [
      | inl has_q ↦
          let wp : bit_and w (mask_of p) ≡ value_of p = eqb-true (bit_and w (mask_of p)) (value_of p) has_p in
          let wq : bit_and w (mask_of q) ≡ value_of q = eqb-true (bit_and w (mask_of q)) (value_of q) has_q in
          let same : bit_and (value_of p) (mask_of q) ≡ bit_and (value_of q) (mask_of p) =
          ap (λ v. bit_and v (mask_of q)) (sym wp)
          ∙ (and_assoc (mask_of q) w (mask_of p)
          ∙ (ap (λ v. bit_and w v) (and_comm (mask_of p) (mask_of q))
          ∙ (sym (and_assoc (mask_of p) w (mask_of q))
          ∙ ap (λ v. bit_and v (mask_of p)) wq))) in
          let test = eq-eqb (bit_and (value_of p) (mask_of q)) (bit_and (value_of q) (mask_of p)) same in
          let e : not true ≡ true = rw test at apart in
          absurd cc
      | inr has_not ↦ has_not
    ]

-- a word with a pattern has none of the patterns that are apart from it
none_of : (p : Pattern) (w : ℕ) (rs : List Row) → is_apart_from p rs ≡ true → matches p w ≡ true
    → filter (λ r. matches r.pattern w) rs ≡ []
none_of p w [] apart has = refl
none_of p w (r ∷ rs) apart has =
    let parts = both_true (is_apart p r.pattern) (is_apart_from p rs) apart in
    rw (not_both p r.pattern w parts.0 has) (none_of p w rs parts.1 has)

-- of rows that are apart a word matches one at most
at_most_one : (w : ℕ) (rs : List Row) → are_apart rs ≡ true → length (filter (λ r. matches r.pattern w) rs) ≤ 1
at_most_one w [] apart = omega arith
at_most_one w (r ∷ rs) apart =
    let parts = both_true (is_apart_from r.pattern rs) (are_apart rs) apart in
    elim (cases_Bool (matches r.pattern w)) [
      | inl has ↦ rw (has, none_of r.pattern w rs parts.0 has) (omega arith)
      | inr has_not ↦ rw has_not (at_most_one w rs parts.1)
    ]

pub one_row : OneRow
one_row w = at_most_one w rows refl
