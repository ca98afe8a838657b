-- The text of a journal (this project's own format, version 1).
use Rattle.std.specs.Prelude.{ℕ, ◌+◌, ◌/◌, ◌%◌, List, [], ◌∷◌, ◌++◌, codes, decimal, take, drop, nat_lt, if◌then◌else◌}
use Rattle.std.specs.List.{flat_map}
use Rattle.journal_text.specs.declared.entry.What.{What}
use Rattle.journal_text.specs.declared.entry.What.TheVariants.{Sig, Tick, Data, Eof}
use Rattle.journal_text.specs.declared.entry.Entry.{Entry}
use Rattle.journal_text.specs.Contents.{Contents}

-- the first line
abbrev pub header : List ℕ
header = codes "fsu-journal 1\n"

-- a digit in lower-case hexadecimal
abbrev pub hex_digit : ℕ → ℕ
hex_digit n = if nat_lt n 10 then 48 + n else 87 + n

-- bytes in lower-case hexadecimal
abbrev pub hex : List ℕ → List ℕ
hex bytes = flat_map (λ b. hex_digit (b / 16) ∷ hex_digit (b % 16) ∷ []) bytes

-- an event; an entry of data takes its part of the joined bytes
abbrev pub event_text : List ℕ → What → List ℕ
event_text bytes (Sig s) = codes "sig " ++ decimal s
event_text bytes Tick = codes "tick"
event_text bytes (Data start len) = codes "data " ++ hex (take len (drop start bytes))
event_text bytes Eof = codes "eof"

-- an entry `N.K EVENT`
abbrev pub entry_text : List ℕ → Entry → List ℕ
entry_text bytes e = decimal e.place.n ++ 46 ∷ decimal e.place.k ++ 32 ∷ event_text bytes e.what

-- the line of an entry, with its line feed
abbrev pub entry_line : List ℕ → Entry → List ℕ
entry_line bytes e = entry_text bytes e ++ 10 ∷ []

-- the text of a journal: the header, and then a line for each entry
abbrev pub spell : Contents → List ℕ
spell j = header ++ flat_map (entry_line j.bytes) j.entries
