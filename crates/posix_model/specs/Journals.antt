-- Which entries of a journal are due, and which are next of their kind (the places are this project's own).
use Rattle.std.specs.Prelude.{ℕ, ◌+◌, ◌-◌, ◌==◌, Bool, true, false, if◌then◌else◌, nat_le, filter, List, [], ◌∷◌, length, drop, slice_get, Option, Some, None}
use Rattle.std.specs.List.{list_any, range_with_len}
use Rattle.journal_text.specs.declared.entry.Entry.{Entry}
use Rattle.journal_text.specs.declared.entry.What.{What}
use Rattle.journal_text.specs.declared.entry.What.TheVariants.{Sig, Tick, Data, Eof}

-- a kind of entries, which are taken in order: those of one signal, ticks, input
pub data Kind : Type 0 where
  OfSignal : (signal : ℕ) → Kind
  OfTicks : Kind
  OfInput : Kind

-- the kind of an entry
abbrev pub kind_of : What → Kind
kind_of (Sig s) = OfSignal s
kind_of Tick = OfTicks
kind_of (Data start len) = OfInput
kind_of Eof = OfInput

-- two kinds are the same
abbrev pub is_kind : Kind → Kind → Bool
is_kind (OfSignal s) (OfSignal r) = s == r
is_kind OfTicks OfTicks = true
is_kind OfInput OfInput = true
is_kind a b = false

-- how many entries of each kind were taken
abbrev pub Taken : Type 0
Taken = Kind → ℕ

-- none was taken
abbrev pub nothing_taken : Taken
nothing_taken kind = 0

-- more of a kind were taken
abbrev pub with_taken : Taken → Kind → ℕ → Taken
with_taken taken kind count k = if is_kind k kind then taken k + count else taken k

-- the numbers of the entries of a kind, from a number on
abbrev pub numbers_from : Kind → ℕ → List Entry → List ℕ
numbers_from kind n [] = []
numbers_from kind n (entry ∷ entries) = if is_kind kind (kind_of entry.what) then n ∷ numbers_from kind (n + 1) entries else numbers_from kind (n + 1) entries

-- the numbers of the entries of a kind that are not taken, in order; entries count from 1
abbrev pub left_of_kind : List Entry → Taken → Kind → List ℕ
left_of_kind entries taken kind = drop (taken kind) (numbers_from kind 1 entries)

-- the entry of a number
abbrev pub entry_at : List Entry → ℕ → Option Entry
entry_at entries number = if number == 0 then None else slice_get entries (number - 1)

-- an entry is not taken
abbrev pub is_left_as : List Entry → Taken → ℕ → Option Entry → Bool
is_left_as entries taken number None = false
is_left_as entries taken number (Some entry) = list_any (λ n. n == number) (left_of_kind entries taken (kind_of entry.what))

-- the numbers of all entries that are not taken, in order
unfoldable pub untaken : List Entry → Taken → List ℕ
untaken entries taken = filter (λ n. is_left_as entries taken n (entry_at entries n)) (range_with_len 1 (length entries))

-- the place of an entry is reached after so many instructions
abbrev pub is_reached_as : ℕ → Option Entry → Bool
is_reached_as instructions None = false
is_reached_as instructions (Some entry) = nat_le entry.place.n instructions

-- the numbers of the entries that are not taken and whose places are reached
unfoldable pub reached : List Entry → Taken → ℕ → List ℕ
reached entries taken instructions = filter (λ n. is_reached_as instructions (entry_at entries n)) (untaken entries taken)
