-- What edges lead to at all they lead to within 63 steps; and effective priority by that.
use Rattle.std.proofs.Common.{◌≡◌, ◌∙◌, ℕ, zero, suc, Bool, true, false, not, refl, sym, subst, inl, inr, ◌⊎◌, eqb, arith, List, [], ◌∷◌, ◌||◌, ◌-◌, ◌≤◌, ◌<◌, length, Option, Some, None}
use Rattle.std.specs.Prelude.{◌&&◌, if◌then◌else◌}
use Rattle.std.specs.List.{range_with_len}
use Rattle.std.proofs.lemmas.Bool.{cases_Bool, eqb-true, eq-eqb, and_parts, and_from, not-true, or_cases, or_left, or_right}
use Rattle.thread_base.specs.Orders.{is_in, IsOrder}
use Rattle.thread_base.specs.Priority.{tids, greatest, leads, effective, Leads, here, along, AreWithin, IsEffective, EffectiveIsGreatest}
use Rattle.thread_base.proofs.OrderLemmas.{room}
use Rattle.thread_base.proofs.PriorityLemmas.{greatest_above, greatest_at}
use Rattle.thread_base.proofs.SearchLemmas.{in_tids, tids_in}

-- a way of at most so many steps on which no thread of a list stands
abbrev pub passes_by : (ℕ → Option ℕ) → List ℕ → ℕ → Option ℕ → ℕ → Bool
passes_by edge seen n None t = false
passes_by edge seen zero (Some from) t = not (is_in from seen) && eqb from t
passes_by edge seen (suc n) (Some from) t = not (is_in from seen) && (eqb from t || passes_by edge seen n (edge from) t)

-- every way passes by an empty list
any_way : (edge : ℕ → Option ℕ) (n : ℕ) (o : Option ℕ) (t : ℕ) → leads edge n o t ≡ true → passes_by edge [] n o t ≡ true
unfolding leads
any_way edge n None t h = h
any_way edge zero (Some from) t h = h
any_way edge (suc n) (Some from) t h =
    elim (or_cases (eqb from t) (leads edge n (edge from) t) h) [
      | inl there ↦ or_left (eqb from t) _ there
      | inr on ↦ or_right (eqb from t) _ (any_way edge n (edge from) t on)
    ]

module _ (edge : ℕ → Option ℕ) (t : ℕ) where
  arrived : (n u : ℕ) → eqb u t ≡ true → leads edge n (Some u) t ≡ true
  unfolding leads
  arrived zero u h = h
  arrived (suc n) u h = or_left (eqb u t) (leads edge n (edge u) t) h

  one_further : (n k u : ℕ) → n ≡ suc k → leads edge k (edge u) t ≡ true → leads edge n (Some u) t ≡ true
  unfolding leads
  one_further n k u e h = rw e (or_right (eqb u t) (leads edge k (edge u) t) h)

  -- a way that comes by u can begin at u, and is no longer for it
  shortened : (u : ℕ) (seen : List ℕ) (n : ℕ) (o : Option ℕ) → passes_by edge seen n o t ≡ true
      → (passes_by edge (u ∷ seen) n o t ≡ true) ⊎ ((m : ℕ) × (m ≤ n) × (passes_by edge seen m (Some u) t ≡ true))
  shortened u seen n None h = inl h
  shortened u seen zero (Some from) h =
      elim (cases_Bool (eqb from u)) [
        | inl is ↦ inr (0, omega arith, subst (λ x. passes_by edge seen 0 (Some x) t ≡ true) (eqb-true from u is) h)
        | inr apart ↦ inl (rw apart h)
      ]
  shortened u seen (suc n) (Some from) h =
      elim (cases_Bool (eqb from u)) [
        | inl is ↦ inr (suc n, omega arith, subst (λ x. passes_by edge seen (suc n) (Some x) t ≡ true) (eqb-true from u is) h)
        | inr apart ↦
            (let parts = and_parts (not (is_in from seen)) (eqb from t || passes_by edge seen n (edge from) t) h in
            let fresh : not (is_in from (u ∷ seen)) ≡ true = rw apart parts.0 in
            elim (or_cases (eqb from t) (passes_by edge seen n (edge from) t) parts.1) [
              | inl there ↦ inl (and_from (not (is_in from (u ∷ seen))) _ fresh (or_left (eqb from t) (passes_by edge (u ∷ seen) n (edge from) t) there))
              | inr on ↦ elim (shortened u seen n (edge from) on) [
                | inl by ↦ inl (and_from (not (is_in from (u ∷ seen))) _ fresh (or_right (eqb from t) (passes_by edge (u ∷ seen) n (edge from) t) by))
                | inr short ↦ inr (short.0, (let less = short.1 in omega arith), short.2)
              ]
            ])
      ]

  first_unseen : (seen : List ℕ) (n u : ℕ) → passes_by edge seen n (Some u) t ≡ true → is_in u seen ≡ false
  first_unseen seen zero u h = not-true (is_in u seen) (and_parts (not (is_in u seen)) (eqb u t) h).0
  first_unseen seen (suc n) u h = not-true (is_in u seen) (and_parts (not (is_in u seen)) (eqb u t || passes_by edge seen n (edge u) t) h).0

  module _ (inside : AreWithin edge) where
    -- the way goes on after u, which is seen from now on
    behind : (n u : ℕ) (seen : List ℕ) → IsOrder (u ∷ seen) → (o : Option ℕ) → edge u ≡ o → passes_by edge (u ∷ seen) n o t ≡ true
        → ((v : ℕ) → 1 ≤ v → v ≤ 64 → passes_by edge (u ∷ seen) n (Some v) t ≡ true → leads edge (63 - length (u ∷ seen)) (Some v) t ≡ true)
        → leads edge (63 - length seen) (Some u) t ≡ true
    behind n u seen order None e h on = absurd (let f : false ≡ true = h in cc)
    behind n u seen order (Some v) e h on =
        let range = inside u v e in
        let free : is_in v (u ∷ seen) ≡ false = first_unseen (u ∷ seen) n v h in
        let long = room (u ∷ seen) v order range.0 range.1 free in
        let rest : leads edge (63 - length (u ∷ seen)) (edge u) t ≡ true = subst (λ o. leads edge (63 - length (u ∷ seen)) o t ≡ true) (sym e) (on v range.0 range.1 h) in
        one_further (63 - length seen) (63 - length (u ∷ seen)) u (omega arith) rest

    -- by the number of steps; the threads seen so far are apart, so there are 64 at most
    walk : (most n u : ℕ) (seen : List ℕ) → n < most → IsOrder seen → 1 ≤ u → u ≤ 64 → passes_by edge seen n (Some u) t ≡ true
        → leads edge (63 - length seen) (Some u) t ≡ true
    walk zero n u seen less order low high h = absurd (omega arith)
    walk (suc most) zero u seen less order low high h = arrived (63 - length seen) u (and_parts (not (is_in u seen)) (eqb u t) h).1
    walk (suc most) (suc n) u seen less order low high h =
        let parts = and_parts (not (is_in u seen)) (eqb u t || passes_by edge seen n (edge u) t) h in
        let more : IsOrder (u ∷ seen) = (low, high, not-true (is_in u seen) parts.0, order) in
        elim (or_cases (eqb u t) (passes_by edge seen n (edge u) t) parts.1) [
          | inl there ↦ arrived (63 - length seen) u there
          | inr on ↦ elim (shortened u seen n (edge u) on) [
            | inl by ↦ behind n u seen more (edge u) refl by (λ v low' high' by'. walk most n v (u ∷ seen) (omega arith) more low' high' by')
            | inr short ↦ (let le = short.1 in walk most short.0 u seen (omega arith) order low high short.2)
          ]
        ]

-- however long a way, 63 steps are enough
pub within_63 : (edge : ℕ → Option ℕ) → AreWithin edge → (n u t : ℕ) → 1 ≤ u → u ≤ 64 → leads edge n (Some u) t ≡ true → leads edge 63 (Some u) t ≡ true
within_63 edge inside n u t low high h = walk edge t inside (suc n) n u [] (omega arith) tt low high (any_way edge n (Some u) t h)

-- a way of so many steps is one of more steps too
longer : (edge : ℕ → Option ℕ) (n : ℕ) (o : Option ℕ) (t : ℕ) → leads edge n o t ≡ true → leads edge (suc n) o t ≡ true
unfolding leads
longer edge n None t h = h
longer edge zero (Some u) t h = or_left (eqb u t) (leads edge 0 (edge u) t) h
longer edge (suc n) (Some u) t h =
    elim (or_cases (eqb u t) (leads edge n (edge u) t) h) [
      | inl there ↦ or_left (eqb u t) (leads edge (suc n) (edge u) t) there
      | inr on ↦ or_right (eqb u t) (leads edge (suc n) (edge u) t) (longer edge n (edge u) t on)
    ]

-- a chain of edges has a number of steps
pub counted : (edge : ℕ → Option ℕ) {u t : ℕ} → Leads edge u t → (n : ℕ) × (leads edge n (Some u) t ≡ true)
counted edge {u} here = (0, arrived edge u 0 u (eq-eqb u u refl))
counted edge {u} {t} (along {u = v} e l) =
    let rest = counted edge l in
    (suc rest.0, one_further edge t (suc rest.0) rest.0 u refl (subst (λ o. leads edge rest.0 o t ≡ true) (sym e) rest.1))

chained : (edge : ℕ → Option ℕ) (n u t : ℕ) (o : Option ℕ) → edge u ≡ o → leads edge n o t ≡ true → ((v : ℕ) → leads edge n (Some v) t ≡ true → Leads edge v t) → Leads edge u t
unfolding leads
chained edge n u t None e h on = absurd (let f : false ≡ true = h in cc)
chained edge n u t (Some v) e h on = along e (on v h)

-- what is reached by steps is reached by a chain of edges
pub related : (edge : ℕ → Option ℕ) (n u t : ℕ) → leads edge n (Some u) t ≡ true → Leads edge u t
unfolding leads
related edge zero u t h = subst (λ x. Leads edge u x) (eqb-true u t h) here
related edge (suc n) u t h =
    elim (or_cases (eqb u t) (leads edge n (edge u) t) h) [
      | inl there ↦ subst (λ x. Leads edge u x) (eqb-true u t there) here
      | inr on ↦ chained edge n u t (edge u) refl on (λ v way. related edge n v t way)
    ]

-- the priority that a thread lends
abbrev lent : (ℕ → ℕ) → (ℕ → Option ℕ) → ℕ → ℕ → ℕ
lent own edge t u = if leads edge 64 (Some u) t then own u else 0

module _ (own : ℕ → ℕ) (edge : ℕ → Option ℕ) (t : ℕ) (inside : AreWithin edge) (low : 1 ≤ t) (high : t ≤ 64) where
  lends : (u : ℕ) → leads edge 64 (Some u) t ≡ true → lent own edge t u ≡ own u
  lends u h = rw h refl

  below : (u : ℕ) → 1 ≤ u → u ≤ 64 → Leads edge u t → own u ≤ effective own edge t
  unfolding effective
  below u from to way =
      let steps = counted edge way in
      let reached = longer edge 63 (Some u) t (within_63 edge inside steps.0 u t from to steps.1) in
      let same = lends u reached in
      let le = greatest_above (lent own edge t) tids u (in_tids u from to) in
      omega (arith, same, le)

  -- the greatest is lent by a thread from which edges lead, the thread itself at least
  lent_by : (a : ℕ) → 1 ≤ a → a ≤ 64 → lent own edge t a ≡ effective own edge t → IsEffective own edge t (effective own edge t)
  lent_by a from to same =
      elim (cases_Bool (leads edge 64 (Some a) t)) [
        | inl way ↦ record { lender = a; within = (from, to); leads = related edge 64 a t way; is = sym (lends a way) ∙ same; none_above = below }
        | inr none ↦
            (let nothing : 0 ≡ effective own edge t = rw none at same in
            let mine = below t low high here in
            record { lender = t; within = (low, high); leads = here; is = omega (arith, nothing, mine); none_above = below })
      ]

greatest_in_tids : (key : ℕ → ℕ) → (a : ℕ) × (is_in a tids ≡ true) × (key a ≡ greatest key tids)
unfolding tids
greatest_in_tids key = greatest_at key 1 (range_with_len 2 63)

-- the definition of effective priority is the greatest over all chains of edges
pub effective_is : (own : ℕ → ℕ) (edge : ℕ → Option ℕ) (t : ℕ) → AreWithin edge → 1 ≤ t → t ≤ 64 → IsEffective own edge t (effective own edge t)
unfolding effective
effective_is own edge t inside low high =
    let top = greatest_in_tids (lent own edge t) in
    let range = tids_in top.0 top.1 in
    lent_by own edge t inside low high top.0 range.0 range.1 top.2

-- and no other number is
pub effective_alone : (own : ℕ → ℕ) (edge : ℕ → Option ℕ) (t p q : ℕ) → IsEffective own edge t p → IsEffective own edge t q → p ≡ q
effective_alone own edge t p q a b =
    let up = a.none_above b.lender b.within.0 b.within.1 b.leads in
    let down = b.none_above a.lender a.within.0 a.within.1 a.leads in
    let x = a.is in
    let y = b.is in
    omega (arith, up, down, x, y)

pub effective_is_greatest : EffectiveIsGreatest
effective_is_greatest own edge t inside low high =
    let is = effective_is own edge t inside low high in
    (is, λ p other. effective_alone own edge t p (effective own edge t) other is)
