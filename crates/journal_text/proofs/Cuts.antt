-- Where a text is cut into lines.
use Rattle.std.proofs.Common.{◌≡◌, ℕ, ◌+◌, ◌<◌, Bool, true, false, cond, eqb, not, Some, None, ◌-◌, List, [], ◌∷◌, ◌++◌, length, take, drop, ◌⊎◌, inr, refl, arith}
use Rattle.std.proofs.lemmas.Bool.Decides.{nat_tests}
use Rattle.std.proofs.lemmas.Grind.{common_steps}
use Rattle.std.proofs.lemmas.List.{take_rest}
use Rattle.std.specs.List.{position_or_len, position, before_first, after_first, list_all, flat_map}
use Rattle.std.proofs.lemmas.List.Sums.{prefix_len-le-length}
use Rattle.journal_text.specs.Lines.{Line, in_front, lines}

-- a byte is a line feed
abbrev pub is_feed : ℕ → Bool
is_feed b = eqb b 10

-- the cut of a text with one more byte in front, which is not the mark
cut_more : (p : ℕ → Bool) (b : ℕ) (bytes : List ℕ) → p b ≡ false
    → (before_first p (b ∷ bytes) ≡ b ∷ before_first p bytes) × (after_first p (b ∷ bytes) ≡ after_first p bytes)
cut_more p b bytes h = grind (arith, common_steps)

-- up to the first line feed stands a line
abbrev pub FoundAt : List ℕ → Type 0
FoundAt text =
    position_or_len is_feed text < length text
    → lines text ≡ record { text = before_first is_feed text; ended = true } ∷ lines (after_first is_feed text)

pub lines_found : (text : List ℕ) → FoundAt text
lines_found [] h = absurd (omega arith)
lines_found (b ∷ bytes) h = grind (arith, cut_more, lines_found bytes)

-- a text without a line feed is a line that has none
abbrev pub LastAt : List ℕ → Type 0
LastAt text = position_or_len is_feed text ≡ length text → 0 < length text → lines text ≡ record { text = text; ended = false } ∷ []

pub lines_last : (text : List ℕ) → LastAt text
lines_last [] h some = absurd (omega arith)
lines_last (b ∷ bytes) h some = grind (arith, common_steps, lines_last bytes)

-- what a position says
place_of : (text : List ℕ) (end : ℕ) → Some end ≡ position is_feed text
    → (end ≡ position_or_len is_feed text) × (end < length text)
place_of text end h = grind (arith, nat_tests)

pub cut_some : (text : List ℕ) (end : ℕ) → Some end ≡ position is_feed text
    → lines text ≡ record { text = take end text; ended = true } ∷ lines (take (length text - (end + 1)) (drop (end + 1) text))
cut_some text end h =
    let place = place_of text end h in
    let found = lines_found text (omega (arith, place.0, place.1)) in
    rw (take_rest text (end + 1), place.0) found

no_place : (text : List ℕ) → None ≡ position is_feed text → position_or_len is_feed text ≡ length text
no_place text h = grind (arith, nat_tests, prefix_len-le-length (λ b. not (is_feed b)) text)

pub cut_none : (text : List ℕ) → None ≡ position is_feed text → 0 < length text
    → lines text ≡ record { text = text; ended = false } ∷ []
cut_none text h some = lines_last text (no_place text h) some

-- a byte that is not this one
abbrev pub differs : ℕ → ℕ → Bool
differs c b = not (eqb b c)

-- a text is cut where the mark stands that does not stand before
abbrev pub CutHere : ℕ → List ℕ → List ℕ → Type 0
CutHere c a rest =
    list_all (differs c) a ≡ true
    → (before_first (λ b. eqb b c) (a ++ c ∷ rest) ≡ a) × (after_first (λ b. eqb b c) (a ++ c ∷ rest) ≡ rest)

pub cut_here : (c : ℕ) (a rest : List ℕ) → CutHere c a rest
cut_here c [] rest h = grind (arith, nat_tests)
cut_here c (b ∷ a) rest h = cut_step c b a rest (cut_here c a rest) h
  where
    cut_step : (c b : ℕ) (a rest : List ℕ) → CutHere c a rest → CutHere c (b ∷ a) rest
    cut_step c b a rest so_far h = grind (arith, cut_more)

-- a line stands before the rest of a text
pub lines_here : (a rest : List ℕ) → list_all (differs 10) a ≡ true
    → lines (a ++ 10 ∷ rest) ≡ record { text = a; ended = true } ∷ lines rest
lines_here [] rest h = refl
lines_here (b ∷ a) rest h = grind (arith, lines_here a rest)

-- the text of a line, with its line feed
abbrev pub line_text : Line → List ℕ
line_text line = line.text ++ cond line.ended (10 ∷ []) []

in_front_text : (b : ℕ) (all : List Line) → flat_map line_text (in_front b all) ≡ b ∷ flat_map line_text all
in_front_text b all = grind arith

-- the lines of a text are the text
pub flat_map-lines : (text : List ℕ) → flat_map line_text (lines text) ≡ text
flat_map-lines [] = refl
flat_map-lines (b ∷ bytes) = grind (arith, nat_tests, in_front_text, flat_map-lines bytes)

-- a cut text is what stands before the mark, the mark, and what stands after; or nothing stands after
abbrev pub IsCut : ℕ → List ℕ → Type 0
IsCut c text =
    (text ≡ before_first (λ b. eqb b c) text ++ c ∷ after_first (λ b. eqb b c) text)
    ⊎ (after_first (λ b. eqb b c) text ≡ [])

pub is_cut : (c : ℕ) (text : List ℕ) → IsCut c text
is_cut c [] = inr refl
is_cut c (b ∷ text) = grind (arith, nat_tests, cut_more, is_cut c text)
