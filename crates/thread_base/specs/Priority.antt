-- Whose priority counts for whom, and who comes first.
use Rattle.std.specs.Prelude.{ℕ, zero, suc, ◌≡◌, ◌≤◌, ◌==◌, Bool, false, ◌||◌, if◌then◌else◌, List, [], ◌∷◌, find, max, Option, Some, None}
use Rattle.std.specs.List.{range_with_len}

-- every thread's number
unfoldable pub tids : List ℕ
tids = range_with_len 1 64

-- the greatest key in a list
abbrev pub greatest : (ℕ → ℕ) → List ℕ → ℕ
greatest key [] = 0
greatest key (x ∷ xs) = max (key x) (greatest key xs)

-- the first among those of the greatest key (POSIX.1 scheduling: the head of the highest list)
abbrev pub first_greatest : (ℕ → ℕ) → List ℕ → Option ℕ
first_greatest key xs = find (λ x. key x == greatest key xs) xs

-- from a thread, edges lead to a thread in at most so many steps
unfoldable pub leads : (ℕ → Option ℕ) → ℕ → Option ℕ → ℕ → Bool
leads edge n None to = false
leads edge zero (Some from) to = from == to
leads edge (suc n) (Some from) to = from == to || leads edge n (edge from) to

-- the greatest own priority of the thread itself and of all threads from which edges lead to it
-- (POSIX.1 priority inheritance, along chains and circles of waits)
unfoldable pub effective : (ℕ → ℕ) → (ℕ → Option ℕ) → ℕ → ℕ
effective own edge t = greatest (λ u. if leads edge 64 (Some u) t then own u else 0) tids

-- a chain of edges leads from a thread to a thread; one of no edges leads to the thread itself
pub data Leads (edge : ℕ → Option ℕ) : ℕ → ℕ → Type 0 where
  here : {t : ℕ} → Leads edge t t
  along : {t u v : ℕ} → edge t ≡ Some u → Leads edge u v → Leads edge t v

-- each edge leads to a thread's number
abbrev pub AreWithin : (ℕ → Option ℕ) → Type 0
AreWithin edge = (t u : ℕ) → edge t ≡ Some u → (1 ≤ u) × (u ≤ 64)

-- a priority is the greatest own priority over the thread itself and every thread from which edges
-- lead to it (POSIX.1 priority inheritance, word for word)
pub record IsEffective (own : ℕ → ℕ) (edge : ℕ → Option ℕ) (t priority : ℕ) : Type 0 where
  pub lender : ℕ
  pub within : (1 ≤ lender) × (lender ≤ 64)
  pub leads : Leads edge lender t
  pub is : own lender ≡ priority
  pub none_above : (u : ℕ) → 1 ≤ u → u ≤ 64 → Leads edge u t → own u ≤ priority

-- effective priority is that greatest one, and no other number is
abbrev pub EffectiveIsGreatest : Type 0
EffectiveIsGreatest =
    (own : ℕ → ℕ) (edge : ℕ → Option ℕ) (t : ℕ) → AreWithin edge → 1 ≤ t → t ≤ 64 →
    IsEffective own edge t (effective own edge t) × ((p : ℕ) → IsEffective own edge t p → p ≡ effective own edge t)
