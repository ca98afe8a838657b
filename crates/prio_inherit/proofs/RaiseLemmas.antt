-- A priority that is handed on along edges: what holds on the way, and when the way has ended.
use Rattle.std.proofs.Common.{◌≡◌, ℕ, refl, inl, inr, ◌⊎◌, ◌≤◌, ◌<◌, ◌+◌, suc, zero, cond, ltb, arith, Option, Some, None}
use Rattle.std.proofs.lemmas.Bool.Decides.{nat_tests}
use Rattle.thread_base.specs.Numbers.{IsTid}
use Rattle.thread_base.specs.Maps.{put}
use Rattle.thread_base.specs.Priority.{here}
use Rattle.prio_inherit.specs.Priorities.{Reaches, Raised}
use Rattle.prio_inherit.proofs.ChainLemmas.{onward}

-- what holds of a priority p on its way from one thread, before the next
pub record Rising (edge : ℕ → Option ℕ) (old cur : ℕ → ℕ) (from at : Option ℕ) (p : ℕ) : Type 0 where
  pub never_lower : (t : ℕ) → old t ≤ cur t
  pub in_order : (t u : ℕ) → IsTid t → edge t ≡ Some u → old t ≤ old u → (cur t ≤ cur u) ⊎ ((at ≡ Some u) × (cur t ≤ p))
  pub target : (t : ℕ) → from ≡ Some t → (p ≤ cur t) ⊎ (at ≡ Some t)
  pub source : (t : ℕ) → IsTid t → (cur t ≡ old t) ⊎ ((cur t ≡ p) × Reaches edge from t)
  pub came : (t : ℕ) → at ≡ Some t → Reaches edge from t

pub rising_first : (edge : ℕ → Option ℕ) (old : ℕ → ℕ) (from : Option ℕ) (p : ℕ) → Rising edge old old from from p
rising_first edge old from p = record {
  never_lower = λ t. omega arith;
  in_order = λ t u range e le. inl le;
  target = λ t e. inr e;
  source = λ t range. inl refl;
  came = λ t e. record { first = t; is = e; leads = here };
}

module _ (edge : ℕ → Option ℕ) (old cur : ℕ → ℕ) (from : Option ℕ) (p : ℕ) where
  -- the way has ended where there is no next thread
  pub raised_end : Rising edge old cur from None p → Raised edge old cur from p
  raised_end r = grind arith

  -- or where the next has as much
  pub raised_stop : (t : ℕ) → p ≤ cur t → Rising edge old cur from (Some t) p → Raised edge old cur from p
  raised_stop t enough r = grind arith

  -- one thread further
  pub rising_on : (t : ℕ) → cur t < p → Rising edge old cur from (Some t) p → Rising edge old (put cur t p) from (edge t) p
  unfolding put
  rising_on t less r = record {
    never_lower = λ u. (let was = r.never_lower u in grind (arith, nat_tests));
    in_order = λ v u range e le. (let was = r.in_order v u range e le in grind (arith, nat_tests));
    target = λ u e. (let was = r.target u e in grind (arith, nat_tests));
    source = λ v range. (let was = r.source v range in let way = r.came t refl in grind (arith, nat_tests));
    came = λ u e. (let way = r.came t refl in record { first = way.first; is = way.is; leads = onward edge way.leads e });
  }

-- how many of the first threads have less than a priority
abbrev pub below : (ℕ → ℕ) → ℕ → ℕ → ℕ
below prio p zero = 0
below prio p (suc n) = cond (ltb (prio (suc n)) p) 1 0 + below prio p n

below_same : (prio : ℕ → ℕ) (t p n : ℕ) → n < t → below (put prio t p) p n ≡ below prio p n
unfolding put
below_same prio t p zero h = refl
below_same prio t p (suc n) h = grind (arith, nat_tests, below_same prio t p n)

below_less : (prio : ℕ → ℕ) (t p n : ℕ) → prio t < p → 1 ≤ t → t ≤ n → below (put prio t p) p n < below prio p n
unfolding put
below_less prio t p zero less low high = absurd (omega arith)
below_less prio t p (suc n) less low high =
    grind (arith, nat_tests, below_same prio t p n, below_less prio t p n less low)

-- and how many of all
unfoldable pub below_all : (ℕ → ℕ) → ℕ → ℕ
below_all prio p = below prio p 64

-- fewer, after one thread was given the priority
pub below_falls : (prio : ℕ → ℕ) (t p : ℕ) → prio t < p → IsTid t → below_all (put prio t p) p < below_all prio p
unfolding below_all
below_falls prio t p less range = below_less prio t p 64 less range.0 range.1
