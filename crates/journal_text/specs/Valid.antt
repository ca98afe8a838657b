-- Which contents are a journal.
use Rattle.std.specs.Prelude.{◌≡◌, ◌≤◌, ◌<◌, true, false, List, [], ◌∷◌, ◌++◌, length}
use Rattle.std.specs.List.{AllByRecursion}
use Rattle.thread_base.specs.Numbers.{IsInScope}
use Rattle.journal_text.specs.declared.entry.What.{What}
use Rattle.journal_text.specs.declared.entry.What.TheVariants.{Sig, Tick, Data, Eof}
use Rattle.journal_text.specs.declared.entry.Entry.{Entry}
use Rattle.journal_text.specs.Contents.{Contents, is_input, has_eof, is_before_last, total_len}
use Rattle.journal_text.specs.Spelling.{spell}

-- an event is within its limits; data have the bytes after those of the entries before
abbrev pub IsEvent : List Entry → What → Type 0
IsEvent before (Sig s) = IsInScope s
IsEvent before Tick = Unit {0}
IsEvent before (Data start len) = (start ≡ total_len before) × (1 ≤ len) × (len ≤ 4096)
IsEvent before Eof = Unit {0}

-- an entry may follow those before it: its numbers are within the limits, its place is not before that
-- of the last, and it brings no input after an end of input
pub record MayFollow (before : List Entry) (e : Entry) : Type 0 where
  pub n : e.place.n ≤ 1000000000
  pub k : e.place.k ≤ 1000000
  pub event : IsEvent before e.what
  pub order : is_before_last e.place before ≡ false
  pub input : is_input e.what ≡ true → has_eof before ≡ false

-- each entry may follow those before it
abbrev pub EachFollows : List Entry → List Entry → Type 0
EachFollows before [] = Unit {0}
EachFollows before (e ∷ es) = MayFollow before e × EachFollows (before ++ e ∷ []) es

-- the contents are a journal
pub record IsJournal (j : Contents) : Type 0 where
  pub each : EachFollows [] j.entries
  pub whole : length j.bytes ≡ total_len j.entries
  pub bytes : AllByRecursion (λ b. b < 256) j.bytes
  pub few : length j.entries ≤ 1000000
  pub short : length (spell j) ≤ 16777216
