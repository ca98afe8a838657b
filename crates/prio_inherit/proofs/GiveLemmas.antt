-- Giving threads their own priority again along the edges from one.
use Rattle.std.proofs.Common.{◌≡◌, ℕ, zero, suc, Bool, true, false, sym, subst, refl, inl, inr, ◌⊎◌, arith, Option, Some, None}
use Rattle.std.proofs.lemmas.Bool.{eqb-true}
use Rattle.std.proofs.lemmas.Bool.Decides.{nat_tests}
use Rattle.thread_base.specs.Numbers.{IsTid}
use Rattle.thread_base.specs.Maps.{put}
use Rattle.thread_base.specs.Priority.{leads, AreWithin}
use Rattle.thread_base.proofs.ReachLemmas.{counted, within_63}
use Rattle.prio_inherit.specs.Priorities.{GivenBack}

-- a thread is reached from the next within so many threads on the way
unfoldable pub ahead : (ℕ → Option ℕ) → ℕ → Option ℕ → ℕ → Bool
ahead edge zero at t = false
ahead edge (suc n) at t = leads edge n at t

-- what holds when so many threads of the way are left
pub record Giving (own : ℕ → ℕ) (edge : ℕ → Option ℕ) (old cur : ℕ → ℕ) (from at : Option ℕ) (left : ℕ) : Type 0 where
  pub others : (t : ℕ) → (cur t ≡ own t) ⊎ (cur t ≡ old t)
  pub reached : (t : ℕ) → leads edge 63 from t ≡ true → (cur t ≡ own t) ⊎ (ahead edge left at t ≡ true)
  pub range : (t : ℕ) → from ≡ Some t → IsTid t ⊎ ((at ≡ Some t) × (left ≡ 64))

pub giving_first : (own : ℕ → ℕ) (edge : ℕ → Option ℕ) (old : ℕ → ℕ) (from : Option ℕ) → Giving own edge old old from from 64
unfolding ahead
giving_first own edge old from = record {
  others = λ t. inr refl;
  reached = λ t h. inr h;
  range = λ t e. inr (e, refl);
}

here_or_on : (edge : ℕ → Option ℕ) (n t u : ℕ) → ahead edge (suc n) (Some t) u ≡ true → (t ≡ u) ⊎ (ahead edge n (edge t) u ≡ true)
unfolding ahead leads
here_or_on edge zero t u h = inl (eqb-true t u h)
here_or_on edge (suc n) t u h = grind (arith, nat_tests)

none_ahead : (edge : ℕ → Option ℕ) (n t : ℕ) → ahead edge n None t ≡ true → ⊥
unfolding ahead leads
none_ahead edge n t h = grind arith

module _ (own : ℕ → ℕ) (edge : ℕ → Option ℕ) (old cur : ℕ → ℕ) (from : Option ℕ) where
  pub giving_on : (t left less : ℕ) → IsTid t → left ≡ suc less → Giving own edge old cur from (Some t) left → Giving own edge old (put cur t (own t)) from (edge t) less
  unfolding put
  giving_on t left less within count g = record {
    others = λ u. (let was = g.others u in grind (arith, nat_tests));
    reached = λ u h. (let was = g.reached u h in let on = here_or_on edge less t u in grind (arith, nat_tests));
    range = λ u e. (let was = g.range u e in grind arith);
  }

  module _ (at : Option ℕ) (left : ℕ) (inside : AreWithin edge) (over : (t : ℕ) → ahead edge left at t ≡ true → ⊥)
      (begun : (t : ℕ) → at ≡ Some t → left ≡ 64 → ⊥) (g : Giving own edge old cur from at left) where
    in_range : (t : ℕ) → from ≡ Some t → IsTid t
    in_range t e = let range = g.range t e in let none = begun t in grind arith

    given : GivenBack own edge old cur from
    given = record {
      reached = λ t way. (
          let within = in_range way.first way.is in
          let steps = counted edge way.leads in
          let by = within_63 edge inside steps.0 way.first t within.0 within.1 steps.1 in
          let reached = g.reached t (subst (λ o. leads edge 63 o t ≡ true) (sym way.is) by) in
          let none = over t in
          grind arith);
      others = g.others;
      range = in_range;
    }

  -- the way has ended where there is no next thread
  pub given_end : (left : ℕ) → AreWithin edge → Giving own edge old cur from None left → GivenBack own edge old cur from
  given_end left inside g = given None left inside (none_ahead edge left) (λ t e. absurd (cc)) g

  -- or where nothing of it is left
  pub given_all : (at : Option ℕ) (left : ℕ) → left ≡ 0 → AreWithin edge → Giving own edge old cur from at left → GivenBack own edge old cur from
  unfolding ahead
  given_all at left none inside g = given at left inside (λ t h. grind arith) (λ t e full. omega (arith, full)) g
