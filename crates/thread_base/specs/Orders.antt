-- Lists of threads in which no thread stands twice.
use Rattle.std.specs.Prelude.{◌≡◌, ℕ, ◌==◌, ◌≤◌, Bool, true, false, not, List, [], ◌∷◌, filter}
use Rattle.std.specs.List.{list_any}

-- a list has no member
abbrev pub is_nil : {A : Type 0} → List A → Bool
is_nil [] = true
is_nil (x ∷ xs) = false

-- a thread stands in a list
abbrev pub is_in : ℕ → List ℕ → Bool
is_in t ts = list_any (λ u. t == u) ts

-- a list without a thread
abbrev pub without : ℕ → List ℕ → List ℕ
without t ts = filter (λ u. not (u == t)) ts

-- each member is a thread's number and stands once
abbrev pub IsOrder : List ℕ → Type 0
IsOrder [] = Unit {0}
IsOrder (t ∷ ts) = (1 ≤ t) × (t ≤ 64) × (is_in t ts ≡ false) × IsOrder ts
