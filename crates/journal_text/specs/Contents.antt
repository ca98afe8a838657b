-- What a journal holds.
use Rattle.std.specs.Prelude.{ℕ, ◌+◌, ◌-◌, ◌==◌, ◌&&◌, ◌||◌, Bool, true, false, List, [], ◌∷◌, length, Option, Some, None, nat_lt, slice_get, ◌≤◌}
use Rattle.std.specs.List.{list_any, AllByRecursion}
use Rattle.thread_base.specs.declared.Place.{Place}
use Rattle.journal_text.specs.declared.entry.What.{What}
use Rattle.journal_text.specs.declared.entry.What.TheVariants.{Sig, Tick, Data, Eof}
use Rattle.journal_text.specs.declared.entry.Entry.{Entry}

-- a journal as its list of entries and the joined bytes of its data
pub record Contents : Type 0 where
  pub entries : List Entry
  pub bytes : List ℕ

-- the journal without an entry
abbrev pub empty : Contents
empty = record { entries = []; bytes = [] }

-- an entry that brings input or ends it
abbrev pub is_input : What → Bool
is_input (Sig s) = false
is_input Tick = false
is_input (Data start len) = true
is_input Eof = true

-- an entry that ends the input
abbrev pub is_eof : What → Bool
is_eof (Sig s) = false
is_eof Tick = false
is_eof (Data start len) = false
is_eof Eof = true

-- one of the entries ends the input
abbrev pub has_eof : List Entry → Bool
has_eof entries = list_any (λ e. is_eof e.what) entries

-- a place comes before another (this project's order of places)
abbrev pub is_before : Place → Place → Bool
is_before p q = nat_lt p.n q.n || ((p.n == q.n) && nat_lt p.k q.k)

-- a place comes before that of an entry, if there is one
abbrev pub is_before_entry : Place → Option Entry → Bool
is_before_entry p None = false
is_before_entry p (Some e) = is_before p e.place

-- a place comes before that of the last entry
abbrev pub is_before_last : Place → List Entry → Bool
is_before_last p entries = is_before_entry p (slice_get entries (length entries - 1))

-- how many bytes an event brings
abbrev pub data_len : What → ℕ
data_len (Sig s) = 0
data_len Tick = 0
data_len (Data start len) = len
data_len Eof = 0

-- how many bytes the entries bring in all
abbrev pub total_len : List Entry → ℕ
total_len [] = 0
total_len (e ∷ es) = data_len e.what + total_len es

-- the bytes that an event names are among so many
abbrev pub IsInside : ℕ → What → Type 0
IsInside count (Sig s) = Unit {0}
IsInside count Tick = Unit {0}
IsInside count (Data start len) = start + len ≤ count
IsInside count Eof = Unit {0}

-- those of each entry are
abbrev pub AreInside : ℕ → List Entry → Type 0
AreInside count entries = AllByRecursion (λ e. IsInside count e.what) entries
