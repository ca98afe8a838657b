-- Bytes in memory up to a limit (this project's own).
use Rattle.std.specs.Prelude.{ℕ, List, [], ◌++◌, ◌+◌, ◌-◌, ◌^◌, ◌==◌, Option, Some, None, if◌then◌else◌, length, take, min}

-- bytes up to a limit: those that were kept, how many may be kept in all, and how many came beyond that
pub record Store : Type 0 where
  pub bytes : List ℕ
  pub room : ℕ
  pub lost : ℕ

-- a store that has taken nothing yet
abbrev pub empty_store : ℕ → Store
empty_store room = record { bytes = []; room = room; lost = 0 }

-- the bytes that came, told as long as all of them were kept
abbrev pub told : Store → Option (List ℕ)
told s = if s.lost == 0 then Some s.bytes else None

-- the store after a piece: as much of it as there is room for is kept, and the rest is counted
unfoldable pub store_after : Store → List ℕ → Store
store_after s piece = record {
  bytes = s.bytes ++ take (s.room - length s.bytes) piece;
  room = s.room;
  lost = min (s.lost + (length piece - (s.room - length s.bytes))) (2 ^ 64 - 1);
}
