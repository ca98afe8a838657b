-- Total maps from numbers.
use Rattle.std.specs.Prelude.{ℕ, ◌==◌, if◌then◌else◌, List, ◌∷◌, slice_index_or}

-- the map after a change at one number
unfoldable pub put : {A : Type 0} → (ℕ → A) → ℕ → A → ℕ → A
put m t x u = if u == t then x else m u

-- the elements of a list by their numbers from 1 on, and nothing elsewhere
unfoldable pub numbered : {A : Type 0} → A → List A → ℕ → A
numbered none xs t = slice_index_or (none ∷ xs) t none
