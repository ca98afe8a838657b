-- A stream over a writer that may tell what it holds (this project's own).
use Rattle.std.specs.Prelude.{◌≡◌, ◌++◌, ℕ, List, Option}
use Rattle.std.specs.Io.KnownBytes.{Appends}

-- what the writer tells that it holds, and how often a put has failed
pub record Stream : Type 0 where
  pub held : Option (List ℕ)
  pub faults : ℕ

-- where the writer told what it held, it holds a front of the piece after that
abbrev pub AppendsFront : Option (List ℕ) → Option (List ℕ) → List ℕ → Type 0
AppendsFront old new piece = (front rest : List ℕ) × (front ++ rest ≡ piece) × Appends old new front
