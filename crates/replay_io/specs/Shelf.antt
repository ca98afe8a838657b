-- Files in memory whose loads fail where a list says so (this project's own).
use Rattle.std.specs.Prelude.{ℕ, List, ◌==◌, ◌&&◌, not, Bool, Option, is_some, reverse}
use Rattle.std.specs.List.{find, list_any}
use Rattle.std.specs.Option.{option_map}
use Rattle.std.specs.Str.{bytes_eq}
use Rattle.replay_io.specs.Names.{failures_after}
use Rattle.replay_io.specs.Numbering.{next_number}

-- files in memory: each name with its bytes, as they were added, the names whose load failed,
-- how many loads there were, and the numbers of the loads that fail, from 1
pub record Shelf : Type 0 where
  pub held : List (List ℕ × List ℕ)
  pub failed : List (List ℕ)
  pub loads : ℕ
  pub fails : List ℕ

-- what was added last under a name
unfoldable pub last_under : List (List ℕ × List ℕ) → List ℕ → Option (List ℕ)
last_under held name = option_map (λ e. e.1) (find (λ e. bytes_eq e.0 name) (reverse held))

-- whether the next load gives the bytes of a name, if memory lasts
abbrev pub is_loadable : Shelf → List ℕ → Bool
is_loadable s name = is_some (last_under s.held name) && not (list_any (λ n. n == next_number s.loads) s.fails)

-- the shelf after a load, which may have failed
abbrev pub shelf_after : Shelf → List ℕ → Bool → Shelf
shelf_after s name failed = record s {
  failed = failures_after s.failed name failed;
  loads = next_number s.loads;
}
