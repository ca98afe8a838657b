-- The laws of journals and their texts.
use Rattle.std.specs.Prelude.{◌≡◌, ◌↔◌, ℕ, List, ◌∷◌, ◌++◌, None, IsTrue, codes}
use Rattle.journal_text.specs.Contents.{Contents}
use Rattle.journal_text.specs.Lines.{is_digits, is_hex, is_form, parts_of}
use Rattle.journal_text.specs.Spelling.{spell}
use Rattle.journal_text.specs.Refusals.{first_bad, entries_of}
use Rattle.journal_text.specs.Valid.{IsJournal}

-- an event in one of the four forms
pub data IsWrittenEvent (event : List ℕ) : Type 0 where
  sig : (digits : List ℕ) → IsTrue (is_digits digits) → event ≡ codes "sig " ++ digits → IsWrittenEvent event
  tick : event ≡ codes "tick" → IsWrittenEvent event
  bytes : (digits : List ℕ) → IsTrue (is_hex digits) → event ≡ codes "data " ++ digits → IsWrittenEvent event
  eof : event ≡ codes "eof" → IsWrittenEvent event

-- a line `N.K EVENT`
pub record IsWrittenLine (text : List ℕ) : Type 0 where
  pub n : List ℕ
  pub k : List ℕ
  pub event : List ℕ
  pub n_digits : IsTrue (is_digits n)
  pub k_digits : IsTrue (is_digits k)
  pub form : IsWrittenEvent event
  pub whole : text ≡ n ++ 46 ∷ k ++ 32 ∷ event

-- the test of a line's parts tells whether the line is of one of the four forms
abbrev pub FourForms : Type 0
FourForms = (text : List ℕ) → IsTrue (is_form (parts_of text)) ↔ IsWrittenLine text

-- bytes without a refusal are the text of a journal
abbrev pub Spelled : Type 0
Spelled = (bytes : List ℕ) → first_bad bytes ≡ None → IsJournal (entries_of bytes) × (bytes ≡ spell (entries_of bytes))

-- the text of a journal has no refusal, and it spells that journal
abbrev pub ReadAgain : Type 0
ReadAgain = (j : Contents) → IsJournal j → (first_bad (spell j) ≡ None) × (entries_of (spell j) ≡ j)

-- no two journals have one text
abbrev pub OneJournal : Type 0
OneJournal = (i j : Contents) → IsJournal i → IsJournal j → spell i ≡ spell j → i ≡ j
