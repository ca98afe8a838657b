-- A sink in memory whose puts fail where a list says so (this project's own).
use Rattle.std.specs.Prelude.{ℕ, List, ◌+◌, ◌-◌, ◌^◌, ◌==◌, Option, Some, None, take, min}
use Rattle.std.specs.List.{find}
use Rattle.std.specs.Option.{option_map}
use Rattle.replay_io.specs.Numbering.{next_number}
use Rattle.replay_io.specs.Store.{Store, store_after}

-- a store under puts, some of which fail: `fails` has the number of each put that fails, from 1,
-- and how many bytes of its piece it takes before
pub record Script : Type 0 where
  pub store : Store
  pub puts : ℕ
  pub fails : List (ℕ × ℕ)
  pub faults : ℕ

-- how many bytes of its piece the put of a number takes before it fails, where it fails
unfoldable pub failing_put : List (ℕ × ℕ) → ℕ → Option ℕ
failing_put fails number = option_map (λ f. f.1) (find (λ f. f.0 == number) fails)

-- what a put takes of its piece
abbrev pub taken : Option ℕ → List ℕ → List ℕ
taken None piece = piece
taken (Some count) piece = take count piece

-- the count of faults after a put
abbrev pub faults_after : Option ℕ → ℕ → ℕ
faults_after None faults = faults
faults_after (Some count) faults = min (faults + 1) (2 ^ 64 - 1)

-- a scripted sink after its next put
abbrev pub script_after : Script → List ℕ → Script
script_after s piece =
    let failing = failing_put s.fails (next_number s.puts) in record s {
      store = store_after s.store (taken failing piece);
      puts = next_number s.puts;
      faults = faults_after failing s.faults;
    }
