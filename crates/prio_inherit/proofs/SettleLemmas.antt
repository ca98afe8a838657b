-- Raising along the edge of each thread in turn.
use Rattle.std.proofs.Common.{◌≡◌, ℕ, ◌∙◌, sym, subst, refl, inl, inr, ◌≤◌, ◌<◌, ◌+◌, arith, Option, Some}
use Rattle.thread_base.specs.Numbers.{IsTid}
use Rattle.thread_base.specs.Priority.{Leads, here, along, AreWithin}
use Rattle.prio_inherit.specs.Priorities.{AreEffective, Raised}
use Rattle.prio_inherit.proofs.ChainLemmas.{IsLent, lent_on, effective_of_right}

-- what holds when the edges of the first threads were followed
pub record Settling (edge : ℕ → Option ℕ) (old cur : ℕ → ℕ) (n : ℕ) : Type 0 where
  pub never_lower : (t : ℕ) → old t ≤ cur t
  pub in_order : (t u : ℕ) → IsTid t → t ≤ n → edge t ≡ Some u → cur t ≤ cur u
  pub lent : (t : ℕ) → IsTid t → IsLent old edge t (cur t)

pub settling_first : (edge : ℕ → Option ℕ) (old : ℕ → ℕ) → Settling edge old old 0
settling_first edge old = record {
  never_lower = λ t. omega arith;
  in_order = λ t u range le e. absurd (omega arith);
  lent = λ t range. record { lender = t; within = range; leads = here; is = refl };
}

module _ (edge : ℕ → Option ℕ) (old cur new : ℕ → ℕ) (n p : ℕ) (from : Option ℕ) (low : n < 64)
    (priority : p ≡ cur (n + 1)) (first : from ≡ edge (n + 1)) (r : Raised edge cur new from p) (so : Settling edge old cur n) where
  -- the thread itself stays as it was
  same : new (n + 1) ≡ p
  same = let source = r.source (n + 1) (omega arith, omega arith) in grind arith

  order : (t u : ℕ) → IsTid t → t ≤ n + 1 → edge t ≡ Some u → new t ≤ new u
  order t u range le e =
      let own = same in
      let much = r.target u in
      let more = r.in_order t u range e in
      let was = so.in_order t u range in
      grind arith

  lent_to : (t : ℕ) → IsTid t → IsLent old edge t (new t)
  lent_to t range =
      elim (r.source t range) [
        | inl was ↦ subst (λ x. IsLent old edge t x) (sym was) (so.lent t range)
        | inr top ↦ (
            let mine : IsLent old edge (n + 1) p = subst (λ x. IsLent old edge (n + 1) x) (sym priority) (so.lent (n + 1) (omega arith, omega arith)) in
            let way : Leads edge (n + 1) t = along (sym first ∙ top.1.is) top.1.leads in
            subst (λ x. IsLent old edge t x) (sym top.0) (lent_on old edge (n + 1) t p mine way))
      ]

  pub settling_on : Settling edge old new (n + 1)
  settling_on = record {
    never_lower = λ t. (let a = so.never_lower t in let b = r.never_lower t in omega (arith, a, b));
    in_order = order;
    lent = lent_to;
  }

pub settled : (edge : ℕ → Option ℕ) (old cur : ℕ → ℕ) (n : ℕ) → AreWithin edge → 64 ≤ n → Settling edge old cur n → AreEffective old edge cur
settled edge old cur n inside high so =
    effective_of_right old edge cur inside
    (record {
      own_below = λ t range. so.never_lower t;
      in_order = λ t u range e. so.in_order t u range (let le = range.1 in omega arith) e;
      lent = so.lent;
    })
