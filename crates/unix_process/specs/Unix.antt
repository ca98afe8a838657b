-- What the thread kernel knows of the Unix process that it runs in (this project's own).
use Rattle.std.specs.Prelude.{ℕ, ◌≤◌, Bool, List}
use Rattle.unix_process.specs.declared.Taken.{Taken}
use Rattle.unix_process.specs.declared.TheConstants.{INPUT_LIMIT}
use Rattle.unix_process.specs.Merging.{IsTally, IsCounted}

-- whether events are blocked, those that pend by first occurrence, and the bytes of input granted and consumed
pub record UnixState : Type 0 where
  pub blocked : Bool
  pub pending : List Taken
  pub granted : ℕ
  pub consumed : ℕ

-- each event pends once, with one entry at least; all that is consumed was granted, within the limit
pub record IsSound (u : UnixState) : Type 0 where
  pub once : IsTally u.pending
  pub counted : IsCounted u.pending
  pub within : u.granted ≤ INPUT_LIMIT
  pub covered : u.consumed ≤ u.granted
