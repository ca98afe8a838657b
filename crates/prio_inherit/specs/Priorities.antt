-- When stored priorities are right, and what a walk along the edges does to them.
use Rattle.std.specs.Prelude.{◌≡◌, ◌≤◌, ◌-◌, ◌==◌, ◌⊎◌, ℕ, Bool, not, Option, Some, None}
use Rattle.std.specs.Int.{bit_at}
use Rattle.thread_base.specs.Numbers.{IsTid}
use Rattle.thread_base.specs.Maps.{put}
use Rattle.thread_base.specs.Priority.{effective, Leads}

-- each thread's stored priority is its effective one (POSIX.1 priority inheritance, along chains and circles of waits)
abbrev pub AreEffective : (ℕ → ℕ) → (ℕ → Option ℕ) → (ℕ → ℕ) → Type 0
AreEffective own edge prio = (t : ℕ) → IsTid t → prio t ≡ effective own edge t

-- a set of threads is a word in which bit t - 1 stands for thread t (this project's own)
abbrev pub has_thread : ℕ → ℕ → Bool
has_thread set t = bit_at set (t - 1) == 1

-- a set has exactly the threads whose priority is another than before (this project's own)
abbrev pub IsChanged : ℕ → (ℕ → ℕ) → (ℕ → ℕ) → Type 0
IsChanged set old new = (t : ℕ) → IsTid t → has_thread set t ≡ not (old t == new t)

-- priorities were effective before a thread's own one was raised or its edge was added (this project's own)
pub record WereEffectiveBeforeRaise (own : ℕ → ℕ) (edge : ℕ → Option ℕ) (prio : ℕ → ℕ) (t : ℕ) : Type 0 where
  pub own_before : ℕ
  pub edge_before : Option ℕ
  pub raised : own_before ≤ own t
  pub added : (edge_before ≡ edge t) ⊎ (edge_before ≡ None)
  pub effective : AreEffective (put own t own_before) (put edge t edge_before) prio

-- priorities were effective before a thread's own one was changed, or its edge to another thread (this project's own)
pub record WereEffectiveBeforeLower (own : ℕ → ℕ) (edge : ℕ → Option ℕ) (prio : ℕ → ℕ) (t : ℕ) (old : Option ℕ) : Type 0 where
  pub own_before : ℕ
  pub edge_before : Option ℕ
  pub removed : (edge_before ≡ edge t) ⊎ (edge_before ≡ old)
  pub effective : AreEffective (put own t own_before) (put edge t edge_before) prio

-- edges lead to a thread from one, if there is one (this project's own)
pub record Reaches (edge : ℕ → Option ℕ) (from : Option ℕ) (t : ℕ) : Type 0 where
  pub first : ℕ
  pub is : from ≡ Some first
  pub leads : Leads edge first t

-- a priority was handed on along edges, as long as it was greater (POSIX.1 priority inheritance, one step of it)
pub record Raised (edge : ℕ → Option ℕ) (old new : ℕ → ℕ) (from : Option ℕ) (p : ℕ) : Type 0 where
  pub never_lower : (t : ℕ) → old t ≤ new t
  pub in_order : (t u : ℕ) → IsTid t → edge t ≡ Some u → old t ≤ old u → new t ≤ new u
  pub target : (t : ℕ) → from ≡ Some t → p ≤ new t
  pub source : (t : ℕ) → IsTid t → (new t ≡ old t) ⊎ ((new t ≡ p) × Reaches edge from t)

-- every thread that edges reach has its own priority again, and the others have that or theirs (this project's own)
pub record GivenBack (own : ℕ → ℕ) (edge : ℕ → Option ℕ) (old new : ℕ → ℕ) (from : Option ℕ) : Type 0 where
  pub reached : (t : ℕ) → Reaches edge from t → new t ≡ own t
  pub others : (t : ℕ) → (new t ≡ own t) ⊎ (new t ≡ old t)
  pub range : (t : ℕ) → from ≡ Some t → IsTid t
