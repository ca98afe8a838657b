-- Priorities are effective again after a change of one thread.
use Rattle.std.proofs.Common.{◌≡◌, ◌≢◌, ℕ, ◌∙◌, sym, ap, subst, refl, inl, inr, ◌⊎◌, ◌≤◌, arith, Option, Some, None}
use Rattle.std.proofs.lemmas.Bool.{cases_eq}
use Rattle.std.proofs.lemmas.Bool.Decides.{nat_tests}
use Rattle.thread_base.specs.Numbers.{IsTid}
use Rattle.thread_base.specs.Maps.{put}
use Rattle.thread_base.specs.Priority.{Leads, here, along, AreWithin}
use Rattle.thread_base.proofs.MapLemmas.{put_same, put_other}
use Rattle.prio_inherit.specs.Priorities.{AreEffective, Reaches, Raised, GivenBack}
use Rattle.prio_inherit.proofs.TableLemmas.{within_put}
use Rattle.prio_inherit.proofs.ChainLemmas.{IsLent, IsRight, up_along, lent_on, effective_of_right, right_of_effective}

-- a thread t, its own priority and its edge before the change, and the priorities that were effective then
module _ (own : ℕ → ℕ) (edge : ℕ → Option ℕ) (prio : ℕ → ℕ) (t own_before : ℕ) (edge_before : Option ℕ)
    (inside : AreWithin edge) (within : IsTid t) where
  -- a chain of before is one of now where edges were only added
  added_step : (edge_before ≡ edge t) ⊎ (edge_before ≡ None) → (u w : ℕ) → put edge t edge_before u ≡ Some w → edge u ≡ Some w
  unfolding put
  added_step added u w e = grind (arith, nat_tests)

  added_chain : (edge_before ≡ edge t) ⊎ (edge_before ≡ None) → {u v : ℕ} → Leads (put edge t edge_before) u v → Leads edge u v
  added_chain added here = here
  added_chain added {u} (along {u = w} e rest) = along (added_step added u w e) (added_chain added rest)

  -- a chain of before is one of now that does not begin at t, or edges reach its end from t or from where t's edge led
  kept_chain : (old : Option ℕ) → (edge_before ≡ edge t) ⊎ (edge_before ≡ old) → {u v : ℕ} → Leads (put edge t edge_before) u v
      → (Reaches edge (Some t) v ⊎ Reaches edge old v) ⊎ ((u ≢ t) × Leads edge u v)
  kept_chain old removed {u} here =
      elim (cases_eq u t) [
        | inl same ↦ inl (inl (record { first = t; is = refl; leads = subst (λ x. Leads edge t x) (sym same) here }))
        | inr other ↦ inr (other, here)
      ]
  kept_chain old removed {u} {v} (along {u = w} e rest) =
      elim (kept_chain old removed rest) [
        | inl reached ↦ inl reached
        | inr way ↦ elim (cases_eq u t) [
          | inl same ↦
              (let first : edge_before ≡ Some w = sym (put_same edge t edge_before) ∙ ap (put edge t edge_before) (sym same) ∙ e in
              elim removed [
                | inl kept ↦ inl (inl (record { first = t; is = refl; leads = along (sym kept ∙ first) way.1 }))
                | inr gone ↦ inl (inr (record { first = w; is = sym gone ∙ first; leads = way.1 }))
              ])
          | inr other ↦ inr (other, along (sym (put_other edge t edge_before u other) ∙ e) way.1)
        ]
      ]

  module _ (raised : own_before ≤ own t) (added : (edge_before ≡ edge t) ⊎ (edge_before ≡ None))
      (right : AreEffective (put own t own_before) (put edge t edge_before) prio) (mid new : ℕ → ℕ) (p q : ℕ) (to : Option ℕ)
      (own_is : p ≡ own t) (mid_is : q ≡ mid t) (to_is : to ≡ edge t)
      (first : Raised edge prio mid (Some t) p) (second : Raised edge mid new to q) where
    was : IsRight (put own t own_before) (put edge t edge_before) prio
    was =
        let range : (u : ℕ) → edge_before ≡ Some u → IsTid u = λ u e. (let of_t = inside t u in grind arith) in
        right_of_effective (put own t own_before) (put edge t edge_before) prio (within_put edge t edge_before inside range) right

    stays : new t ≡ mid t
    stays = let source = second.source t within in grind arith

    own_below : (u : ℕ) → IsTid u → own u ≤ new u
    unfolding put
    own_below u range =
        let top = first.target t refl in
        let low = was.own_below u range in
        let up = first.never_lower u in
        let more = second.never_lower u in
        let same = stays in
        grind (arith, nat_tests)

    in_order : (u v : ℕ) → IsTid u → edge u ≡ Some v → new u ≤ new v
    unfolding put
    in_order u v range e =
        let low = was.in_order u v range in
        let up = first.in_order u v range e in
        let more = second.in_order u v range e in
        let much = second.target v in
        let same = stays in
        grind (arith, nat_tests)

    -- a priority that did not change is still lent
    lent_still : (u : ℕ) → IsTid u → new u ≡ prio u → IsLent own edge u (new u)
    unfolding put
    lent_still u range same =
        let l = was.lent u range in
        let own_is = l.is in
        let way = added_chain added l.leads in
        let low = own_below l.lender l.within in
        let up = up_along edge new inside in_order l.within way in
        record { lender = l.lender; within = l.within; leads = way; is = grind (arith, nat_tests) }

    lent_first : (u : ℕ) → IsTid u → new u ≡ mid u → IsLent own edge u (new u)
    lent_first u range same =
        elim (first.source u range) [
          | inl is ↦ lent_still u range (same ∙ is)
          | inr top ↦
              (let start : t ≡ top.1.first = (let e = top.1.is in cc) in
              record {
                lender = t;
                within = within;
                leads = subst (λ x. Leads edge x u) (sym start) top.1.leads;
                is = sym own_is ∙ sym top.0 ∙ sym same;
              })
        ]

    lent : (u : ℕ) → IsTid u → IsLent own edge u (new u)
    lent u range =
        elim (second.source u range) [
          | inl is ↦ lent_first u range is
          | inr top ↦
              (let mine = lent_first t within stays in
              let way : Leads edge t u = along (sym to_is ∙ top.1.is) top.1.leads in
              subst (λ x. IsLent own edge u x) (stays ∙ sym mid_is ∙ sym top.0) (lent_on own edge t u (new t) mine way))
        ]

    pub risen : AreEffective own edge new
    risen = effective_of_right own edge new inside (record { own_below = own_below; in_order = in_order; lent = lent })

  module _ (old : Option ℕ) (removed : (edge_before ≡ edge t) ⊎ (edge_before ≡ old))
      (right : AreEffective (put own t own_before) (put edge t edge_before) prio) (mid low new : ℕ → ℕ)
      (first : GivenBack own edge prio mid (Some t)) (second : GivenBack own edge mid low old) (effective : AreEffective low edge new) where
    then_was : IsRight (put own t own_before) (put edge t edge_before) prio
    then_was =
        let range : (u : ℕ) → edge_before ≡ Some u → IsTid u =
        λ u e. (let of_t = inside t u in let of_old = second.range u in grind arith) in
        right_of_effective (put own t own_before) (put edge t edge_before) prio (within_put edge t edge_before inside range) right

    own_again : (u : ℕ) → Reaches edge (Some t) u ⊎ Reaches edge old u → low u ≡ own u
    own_again u way =
        let from_t = first.reached u in
        let from_old = second.reached u in
        let either = second.others u in
        grind arith

    own_or_before : (u : ℕ) → (low u ≡ own u) ⊎ (low u ≡ prio u)
    own_or_before u = let once = first.others u in let twice = second.others u in grind arith

    low_below : (u : ℕ) → IsTid u → own u ≤ low u
    unfolding put
    low_below u range =
        let mine = own_again t (inl (record { first = t; is = refl; leads = here })) in
        let either = own_or_before u in
        let under = then_was.own_below u range in
        grind (arith, nat_tests)

    by_own : (u : ℕ) → IsTid u → low u ≡ own u → IsLent own edge u (low u)
    by_own u range is = record { lender = u; within = range; leads = here; is = sym is }

    low_lent : (u : ℕ) → IsTid u → IsLent own edge u (low u)
    low_lent u range =
        elim (own_or_before u) [
          | inl is ↦ by_own u range is
          | inr was ↦
              (let l = then_was.lent u range in
              elim (kept_chain old removed l.leads) [
                | inl reached ↦ by_own u range (own_again u reached)
                | inr way ↦ record {
                  lender = l.lender;
                  within = l.within;
                  leads = way.1;
                  is = sym (put_other own t own_before l.lender way.0) ∙ l.is ∙ sym was;
                }
              ])
        ]

    pub fallen : AreEffective own edge new
    fallen =
        let high = right_of_effective low edge new inside effective in
        effective_of_right own edge new inside
        (record {
          own_below = λ u range. (let a = low_below u range in let b = high.own_below u range in omega (arith, a, b));
          in_order = high.in_order;
          lent = λ u range. (
              let l = high.lent u range in
              subst (λ x. IsLent own edge u x) l.is (lent_on own edge l.lender u (low l.lender) (low_lent l.lender l.within) l.leads));
        })
