-- What a line without a refusal is.
use Rattle.std.proofs.Common.{◌≡◌, ◌≤◌, ℕ, List, ◌||◌, ◌&&◌, not, Bool, true, false, drop, Option, None, refl, arith}
use Rattle.std.proofs.lemmas.Bool.{or_parts}
use Rattle.std.proofs.lemmas.Bool.Decides.{nat_tests}
use Rattle.journal_text.specs.declared.refusal.JournalRefusal.{JournalRefusal}
use Rattle.journal_text.specs.Contents.{Contents}
use Rattle.journal_text.specs.Lines.{Parts, has_leading_zero, number, is_digits, is_sig, is_tick, is_data, is_end, is_form}
use Rattle.journal_text.specs.Refusals.{when, ◌orelse◌, parts_refusal, is_bad_number, is_bad_signal, is_out_of_order, is_after_eof, is_full}

-- no condition holds, and nothing is after it
pub when_none : (b : Bool) (r : JournalRefusal) (more : Option JournalRefusal) → (when b r orelse more) ≡ None
    → (b ≡ false) × (more ≡ None)
when_none b r more h = grind arith

-- a line after a journal is of one of the four forms, and nothing is bad in it
pub record IsGood (j : Contents) (p : Parts) : Type 0 where
  pub form : is_form p ≡ true
  pub number : is_bad_number p ≡ false
  pub signal : is_bad_signal p ≡ false
  pub order : is_out_of_order j p ≡ false
  pub input : is_after_eof j p ≡ false
  pub few : is_full j ≡ false

-- where there is no refusal, no condition of six holds
none_of : (a b c d e f : Bool) (q r s t u v : JournalRefusal)
    → ((when (not a) q orelse when b r orelse when c s orelse when d t orelse when e u orelse when f v) ≡ None)
    → (a ≡ true) × (b ≡ false) × (c ≡ false) × (d ≡ false) × (e ≡ false) × (f ≡ false)
none_of a b c d e f q r s t u v h = grind arith

pub good_parts : (j : Contents) (p : Parts) → parts_refusal j p ≡ None → IsGood j p
unfolding parts_refusal
good_parts j p h =
    let all = none_of _ _ _ _ _ _ _ _ _ _ _ _ h in
    record { form = all.0; number = all.1; signal = all.2; order = all.3; input = all.4; few = all.5 }

pub parts_none : (j : Contents) (p : Parts) → IsGood j p → parts_refusal j p ≡ None
unfolding parts_refusal
parts_none j p good = rw (good.form, good.number, good.signal, good.order, good.input, good.few) refl

-- the parts of a line of one of the four forms
abbrev pub is_event : List ℕ → Bool
is_event event = is_tick event || (is_end event || (is_sig event || is_data event))

pub form_parts : (p : Parts) → is_form p ≡ true
    → (is_digits p.n ≡ true) × (is_digits p.k ≡ true) × (is_event p.event ≡ true)
form_parts p h = all_of _ _ _ h
  where
    all_of : (a b c : Bool) → (a && (b && c)) ≡ true → (a ≡ true) × (b ≡ true) × (c ≡ true)
    all_of a b c h = grind arith

-- what the numbers of a place are
pub record AreNumbers (p : Parts) : Type 0 where
  pub n_plain : has_leading_zero p.n ≡ false
  pub k_plain : has_leading_zero p.k ≡ false
  pub sig_plain : is_sig p.event ≡ true → has_leading_zero (drop 4 p.event) ≡ false
  pub n : number p.n ≤ 1000000000
  pub k : number p.k ≤ 1000000

pub and_second : (a b : Bool) → (a && b) ≡ false → a ≡ true → b ≡ false
and_second a b h e = grind arith

pub are_numbers : (p : Parts) → is_bad_number p ≡ false → AreNumbers p
are_numbers p h = grind (arith, nat_tests, or_parts)
