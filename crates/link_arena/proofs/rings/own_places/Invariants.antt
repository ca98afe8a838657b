use Rattle.std.proofs.Common.{◌≡◌, ◌<◌, ℕ, length}
use Rattle.link_arena.specs.Rings.{kept_at}
use Rattle.link_arena.proofs.rings.own_places.Given as goal

abbrev pub invariant-loop-place : goal.invariant-loop-place
invariant-loop-place l = (length l.places.items ≡ l.place) × ((x : ℕ) → x < l.place → kept_at l.places.items x ≡ x)
