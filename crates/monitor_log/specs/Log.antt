-- What the monitor keeps while the kernel works (this project's own).
use Rattle.std.specs.Prelude.{ℕ, ◌-◌, Bool, nat_lt, if◌then◌else◌, List, [], ◌∷◌, Option, Some, None}
use Rattle.unix_process.specs.declared.Taken.{Taken}
use Rattle.unix_process.specs.Merging.{one_entry}

-- whether the kernel works, and the events logged meanwhile by first occurrence
pub record LogState : Type 0 where
  pub flag : Bool
  pub slots : List Taken

-- the first entry of the first event
abbrev pub one_of_first : List Taken → Option Taken
one_of_first [] = None
one_of_first (t ∷ ts) = Some (one_entry t.event t.first)

-- the list without that entry: the next one is the first event's first, or the event goes
abbrev pub left_after_one : ℕ → List Taken → List Taken
left_after_one next [] = []
left_after_one next (t ∷ ts) = if nat_lt 1 t.count then record t { first = next; count = t.count - 1 } ∷ ts else ts
