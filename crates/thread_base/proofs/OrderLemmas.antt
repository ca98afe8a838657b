-- Lists of threads after a push or a removal, and how long they are.
use Rattle.std.proofs.Common.{◌≡◌, ◌≢◌, ℕ, Bool, true, false, cond, refl, sym, ap, subst, ◌∙◌, inl, inr, eqb, arith, List, [], ◌∷◌, ◌++◌, ◌<◌, ◌≤◌, length, ◌||◌, filter}
use Rattle.std.proofs.lemmas.Bool.{eq-eqb, ne_eqb, eqb-true, eqb-false, cases_eq, cases_Bool, or_parts, or_from, or_right}
use Rattle.std.proofs.lemmas.List.Folds.{list_any-append}
use Rattle.std.proofs.lemmas.Map.Steps.{length-le_from_distinct_below}
use Rattle.std.specs.List.{IsDistinct, AllByRecursion}
use Rattle.thread_base.specs.Orders.{is_in, without, IsOrder}

eqb_comm : (a b : ℕ) → eqb a b ≡ false → eqb b a ≡ false
eqb_comm a b h = ne_eqb b a (λ e. eqb-false a b h (sym e))

pub IsOrder-push : (ts : List ℕ) (t : ℕ) → IsOrder ts → 1 ≤ t → t ≤ 64 → is_in t ts ≡ false → IsOrder (ts ++ t ∷ [])
IsOrder-push [] t h a b n = (a, b, refl, tt)
IsOrder-push (u ∷ us) t h a b n =
    let apart = or_parts (eqb t u) (is_in t us) n in (
      h.0,
      h.1,
      list_any-append (λ v. eqb u v) us (t ∷ []) ∙ or_from (is_in u us) (eqb u t || false) h.2 (or_from (eqb u t) false (eqb_comm t u apart.0) refl),
      IsOrder-push us t h.3 a b apart.1,
    )

not_in_filter : (u : ℕ) (p : ℕ → Bool) (ts : List ℕ) → is_in u ts ≡ false → is_in u (filter p ts) ≡ false
not_in_filter u p [] h = refl
not_in_filter u p (v ∷ vs) h =
    let apart = or_parts (eqb u v) (is_in u vs) h in
    elim (p v) as (λ b. is_in u (cond b (v ∷ filter p vs) (filter p vs)) ≡ false) [
      | true ↦ or_from (eqb u v) (is_in u (filter p vs)) apart.0 (not_in_filter u p vs apart.1)
      | false ↦ not_in_filter u p vs apart.1
    ]

pub IsOrder-filter : (p : ℕ → Bool) (ts : List ℕ) → IsOrder ts → IsOrder (filter p ts)
IsOrder-filter p [] h = tt
IsOrder-filter p (u ∷ us) h =
    elim (p u) as (λ b. IsOrder (cond b (u ∷ filter p us) (filter p us))) [
      | true ↦ (h.0, h.1, not_in_filter u p us h.2, IsOrder-filter p us h.3)
      | false ↦ IsOrder-filter p us h.3
    ]

pub not_in-without : (t : ℕ) (ts : List ℕ) → is_in t (without t ts) ≡ false
not_in-without t [] = refl
not_in-without t (u ∷ us) =
    elim (cases_Bool (eqb u t)) [
      | inl is ↦ rw is (not_in-without t us)
      | inr un ↦ rw un (or_from (eqb t u) (is_in t (without t us)) (eqb_comm u t un) (not_in-without t us))
    ]

apart : (t : ℕ) (ts : List ℕ) → is_in t ts ≡ false → AllByRecursion (λ u. eqb t u ≡ false) ts
apart t [] h = tt
apart t (u ∷ us) h = let a = or_parts (eqb t u) (is_in t us) h in (a.0, apart t us a.1)

distinct : (ts : List ℕ) → IsOrder ts → IsDistinct eqb ts
unfolding IsDistinct
distinct [] h = tt
distinct (t ∷ ts) h = (apart t ts h.2, distinct ts h.3)

pub within : (ts : List ℕ) (q : ℕ) → IsOrder ts → is_in q ts ≡ true → (1 ≤ q) × (q ≤ 64)
within [] q h e = let x : false ≡ true = e in cc
within (t ∷ ts) q h e =
    elim (cases_Bool (eqb q t)) [
      | inl is ↦ let same = eqb-true q t is in (omega arith, omega arith)
      | inr un ↦ within ts q h.3 (rw un at e)
    ]

zero_out : (ts : List ℕ) → IsOrder ts → is_in 0 ts ≡ false
zero_out ts h =
    elim (cases_Bool (is_in 0 ts)) [
      | inl is ↦ absurd (let w = within ts 0 h is in omega arith)
      | inr un ↦ un
    ]

-- with a thread that is not in it, it has at most 64
pub room : (ts : List ℕ) (t : ℕ) → IsOrder ts → 1 ≤ t → t ≤ 64 → is_in t ts ≡ false → length ts < 64
unfolding IsDistinct
room ts t h a b n =
    let more : IsOrder (t ∷ ts) = (a, b, n, h) in
    let all = length-le_from_distinct_below (0 ∷ t ∷ ts) 65 (apart 0 (t ∷ ts) (zero_out (t ∷ ts) more), distinct (t ∷ ts) more) (λ q e. below q e) in
    omega arith
  where
    below : (q : ℕ) → is_in q (0 ∷ t ∷ ts) ≡ true → q < 65
    below q e =
        elim (cases_Bool (eqb q 0)) [
          | inl is ↦ let same = eqb-true q 0 is in omega arith
          | inr un ↦ let w = within (t ∷ ts) q (a, b, n, h) (rw un at e) in omega arith
        ]

-- another thread stays where one is taken out
pub is_in-without : (t u : ℕ) (ts : List ℕ) → u ≢ t → is_in u (without t ts) ≡ is_in u ts
is_in-without t u [] n = refl
is_in-without t u (v ∷ vs) n =
    elim (cases_Bool (eqb v t)) [
      | inl same ↦
          (let e = eqb-true v t same in
          let no_match : eqb u v ≡ false = ne_eqb u v (λ f. n (f ∙ e)) in
          rw same (is_in-without t u vs n ∙ sym (ap (λ b. b || is_in u vs) no_match)))
      | inr other ↦ rw other (ap (λ b. eqb u v || b) (is_in-without t u vs n))
    ]

-- to take out a thread that is not there changes nothing
pub without_absent : (t : ℕ) (ts : List ℕ) → is_in t ts ≡ false → without t ts ≡ ts
without_absent t [] h = refl
without_absent t (u ∷ us) h =
    let a = or_parts (eqb t u) (is_in t us) h in
    rw (eqb_comm t u a.0) (ap (λ vs. u ∷ vs) (without_absent t us a.1))

or_nothing : (a : Bool) → a || (false || false) ≡ a
or_nothing a = grind arith

-- a thread that is put after a list is in it
pub is_in-pushed : (t : ℕ) (ts : List ℕ) → is_in t (ts ++ t ∷ []) ≡ true
is_in-pushed t ts =
    list_any-append (λ v. eqb t v) ts (t ∷ [])
    ∙ or_right (is_in t ts) (eqb t t || false) (ap (λ b. b || false) (eq-eqb t t refl))

-- and another is in it where it was
pub is_in-push : (t u : ℕ) (ts : List ℕ) → u ≢ t → is_in u (ts ++ t ∷ []) ≡ is_in u ts
is_in-push t u ts n =
    list_any-append (λ v. eqb u v) ts (t ∷ [])
    ∙ ap (λ b. is_in u ts || (b || false)) (ne_eqb u t n)
    ∙ or_nothing (is_in u ts)

-- a move to the end changes no membership
pub is_in-to_end : (t u : ℕ) (ts : List ℕ) → is_in t ts ≡ true → is_in u (without t ts ++ t ∷ []) ≡ is_in u ts
is_in-to_end t u ts h =
    elim (cases_eq u t) [
      | inl same ↦
          (let here : is_in t (without t ts ++ t ∷ []) ≡ is_in t ts = is_in-pushed t (without t ts) ∙ sym h in
          subst (λ v. is_in v (without t ts ++ t ∷ []) ≡ is_in v ts) (sym same) here)
      | inr other ↦ is_in-push t u (without t ts) other ∙ is_in-without t u ts other
    ]
