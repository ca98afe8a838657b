-- Chains of edges; effective priorities told by what holds of each edge.
use Rattle.std.proofs.Common.{◌≡◌, ℕ, sym, subst, refl, ◌≤◌, arith, Option, Some, None}
use Rattle.thread_base.specs.Numbers.{IsTid}
use Rattle.thread_base.specs.Priority.{effective, Leads, here, along, AreWithin, IsEffective}
use Rattle.thread_base.proofs.ReachLemmas.{effective_is, effective_alone}
use Rattle.prio_inherit.specs.Priorities.{AreEffective}

-- a thread has the own priority of one from which edges lead to it
pub record IsLent (own : ℕ → ℕ) (edge : ℕ → Option ℕ) (t p : ℕ) : Type 0 where
  pub lender : ℕ
  pub within : IsTid lender
  pub leads : Leads edge lender t
  pub is : own lender ≡ p

-- priorities are effective, said of each thread and each edge alone
pub record IsRight (own : ℕ → ℕ) (edge : ℕ → Option ℕ) (prio : ℕ → ℕ) : Type 0 where
  pub own_below : (t : ℕ) → IsTid t → own t ≤ prio t
  pub in_order : (t u : ℕ) → IsTid t → edge t ≡ Some u → prio t ≤ prio u
  pub lent : (t : ℕ) → IsTid t → IsLent own edge t (prio t)

-- chains after one another
module _ (edge : ℕ → Option ℕ) where
  pub joined : {t u v : ℕ} → Leads edge t u → Leads edge u v → Leads edge t v
  joined here way = way
  joined (along e rest) way = along e (joined rest way)

  pub onward : {t u v : ℕ} → Leads edge t u → edge u ≡ Some v → Leads edge t v
  onward way e = joined way (along e here)

  -- priorities that rise along each edge rise along chains
  pub up_along : (prio : ℕ → ℕ) → AreWithin edge → ((t u : ℕ) → IsTid t → edge t ≡ Some u → prio t ≤ prio u)
      → {t u : ℕ} → IsTid t → Leads edge t u → prio t ≤ prio u
  up_along prio inside order {t} range here = omega arith
  up_along prio inside order {t} range (along {u = v} e rest) =
      let first = order t v range e in
      let behind = up_along prio inside order (inside t v e) rest in
      omega (arith, first, behind)

-- what is lent to a thread is lent along its chains too
pub lent_on : (own : ℕ → ℕ) (edge : ℕ → Option ℕ) (t u p : ℕ) → IsLent own edge t p → Leads edge t u → IsLent own edge u p
lent_on own edge t u p l way = record { lender = l.lender; within = l.within; leads = joined edge l.leads way; is = l.is }

pub effective_of_right : (own : ℕ → ℕ) (edge : ℕ → Option ℕ) (prio : ℕ → ℕ) → AreWithin edge → IsRight own edge prio → AreEffective own edge prio
effective_of_right own edge prio inside right = λ t range.
    let l = right.lent t range in
    let is : IsEffective own edge t (prio t) = record {
      lender = l.lender;
      within = l.within;
      leads = l.leads;
      is = l.is;
      none_above = λ u low high way. (
          let first = right.own_below u (low, high) in
          let up = up_along edge prio inside right.in_order (low, high) way in
          omega (arith, first, up));
    } in
    effective_alone own edge t (prio t) (effective own edge t) is (effective_is own edge t inside range.0 range.1)

pub right_of_effective : (own : ℕ → ℕ) (edge : ℕ → Option ℕ) (prio : ℕ → ℕ) → AreWithin edge → AreEffective own edge prio → IsRight own edge prio
right_of_effective own edge prio inside right =
    let is : (t : ℕ) → IsTid t → IsEffective own edge t (prio t) =
    λ t range. subst (λ p. IsEffective own edge t p) (sym (right t range)) (effective_is own edge t inside range.0 range.1) in
    record {
      own_below = λ t range. (is t range).none_above t range.0 range.1 here;
      in_order = λ t u range e. (
          let it = is t range in
          let above = (is u (inside t u e)).none_above it.lender it.within.0 it.within.1 (onward edge it.leads e) in
          let same = it.is in
          omega (arith, above, same));
      lent = λ t range. (let it = is t range in record { lender = it.lender; within = it.within; leads = it.leads; is = it.is });
    }

-- with no edge, each has its own
pub effective_unlinked : (own : ℕ → ℕ) → AreEffective own (λ _. None) own
effective_unlinked own =
    effective_of_right own (λ _. None) own
    (λ t u e. absurd (let h : None ≡ Some u = e in cc))
    (record {
      own_below = λ t range. omega arith;
      in_order = λ t u range e. absurd (let h : None ≡ Some u = e in cc);
      lent = λ t range. record { lender = t; within = range; leads = here; is = refl };
    })
