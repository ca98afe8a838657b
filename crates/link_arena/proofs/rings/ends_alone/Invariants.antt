use Rattle.std.proofs.Common.{◌≡◌, ◌<◌, ℕ, length}
use Rattle.link_arena.specs.Rings.{home_at, first_home}
use Rattle.link_arena.proofs.rings.ends_alone.Given as goal

abbrev pub invariant-loop-place : goal.invariant-loop-place
invariant-loop-place l = (length l.homes.items ≡ l.place) × ((x : ℕ) → x < l.place → home_at l.homes.items x ≡ first_home l.nodes x)
