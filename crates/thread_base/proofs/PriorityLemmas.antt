-- The first of the greatest, as a loop from the front finds it.
use Rattle.std.proofs.Common.{◌≡◌, ℕ, true, false, cond, refl, sym, ap, ◌∙◌, inl, inr, ltb, eqb, arith, List, [], ◌∷◌, ◌++◌, ◌<◌, ◌≤◌, max, Option, Some, None, find}
use Rattle.thread_base.specs.Orders.{is_in}
use Rattle.std.proofs.lemmas.Bool.{eq-eqb, eqb-true, ne_eqb, cases_lt, cases_Bool, or_left, or_right, lt-ltb, le-ltb}
use Rattle.std.proofs.lemmas.List.Folds.{find-append}
use Rattle.std.specs.Option.{option_or}
use Rattle.thread_base.proofs.SearchLemmas.{find_member}
use Rattle.thread_base.specs.Priority.{greatest, first_greatest}

abbrev pub better : (ℕ → ℕ) → Option ℕ → ℕ → Option ℕ
better p None x = Some x
better p (Some b) x = cond (ltb (p b) (p x)) (Some x) (Some b)

module _ (p : ℕ → ℕ) where
  greatest_push : (xs : List ℕ) (x : ℕ) → greatest p (xs ++ x ∷ []) ≡ max (greatest p xs) (p x)
  greatest_push [] x = omega arith
  greatest_push (y ∷ ys) x = rw (greatest_push ys x) (omega arith)

  none_above : (xs : List ℕ) (n : ℕ) → greatest p xs < n → find (λ y. eqb (p y) n) xs ≡ None
  none_above [] n h = refl
  none_above (y ∷ ys) n h = rw (ne_eqb (p y) n (λ e. omega arith)) (none_above ys n (omega arith))

  attained : (y : ℕ) (ys : List ℕ) → (a : ℕ) × (first_greatest p (y ∷ ys) ≡ Some a) × (p a ≡ greatest p (y ∷ ys))
  attained y [] = (y, rw (eq-eqb (p y) (max (p y) 0) (omega arith)) refl, omega arith)
  attained y (z ∷ zs) =
      elim (cases_lt (p y) (greatest p (z ∷ zs))) [
        | inl lt ↦
            let more = attained z zs in
            let top : greatest p (y ∷ z ∷ zs) ≡ greatest p (z ∷ zs) = omega arith in
            (more.0, ap (λ n. find (λ w. eqb (p w) n) (y ∷ z ∷ zs)) top ∙ rw (ne_eqb (p y) (greatest p (z ∷ zs)) (λ e. omega arith)) more.1, more.2 ∙ sym top)
        | inr ge ↦
            let top : p y ≡ greatest p (y ∷ z ∷ zs) = omega arith in
            (y, rw (eq-eqb (p y) (greatest p (y ∷ z ∷ zs)) top) refl, top)
      ]

  pub first_push : (xs : List ℕ) (x : ℕ) → first_greatest p (xs ++ x ∷ []) ≡ better p (first_greatest p xs) x
  first_push [] x = rw (eq-eqb (p x) (max (p x) 0) (omega arith)) refl
  first_push (y ∷ ys) x =
      let front = attained y ys in
      let whole = greatest_push (y ∷ ys) x in
      elim (cases_lt (greatest p (y ∷ ys)) (p x)) [
        | inl lt ↦
            let top : greatest p ((y ∷ ys) ++ x ∷ []) ≡ p x = omega (arith, whole) in
            let test : ltb (p front.0) (p x) ≡ true = lt-ltb (p front.0) (p x) (omega arith) in
            ap (λ n. find (λ z. eqb (p z) n) ((y ∷ ys) ++ x ∷ [])) top
            ∙ find-append (λ z. eqb (p z) (p x)) (y ∷ ys) (x ∷ [])
            ∙ ap (λ o. option_or o (find (λ z. eqb (p z) (p x)) (x ∷ []))) (none_above (y ∷ ys) (p x) lt)
            ∙ rw (eq-eqb (p x) (p x) refl) refl
            ∙ sym (ap (λ o. better p o x) front.1 ∙ ap (λ b. cond b (Some x) (Some front.0)) test)
        | inr ge ↦
            let top : greatest p ((y ∷ ys) ++ x ∷ []) ≡ greatest p (y ∷ ys) = omega (arith, whole) in
            let test : ltb (p front.0) (p x) ≡ false = le-ltb (p front.0) (p x) (omega arith) in
            ap (λ n. find (λ z. eqb (p z) n) ((y ∷ ys) ++ x ∷ [])) top
            ∙ find-append (λ z. eqb (p z) (greatest p (y ∷ ys))) (y ∷ ys) (x ∷ [])
            ∙ ap (λ o. option_or o (find (λ z. eqb (p z) (greatest p (y ∷ ys))) (x ∷ []))) front.1
            ∙ sym (ap (λ o. better p o x) front.1 ∙ ap (λ b. cond b (Some x) (Some front.0)) test)
      ]

-- keys that agree on the list have one first of the greatest
module _ (p q : ℕ → ℕ) where
  greatest_agree : (xs : List ℕ) → ((x : ℕ) → is_in x xs ≡ true → p x ≡ q x) → greatest p xs ≡ greatest q xs
  greatest_agree [] h = refl
  greatest_agree (x ∷ xs) h = λ i. max (h x (or_left (eqb x x) (is_in x xs) (eq-eqb x x refl)) i) (greatest_agree xs (λ y e. h y (or_right (eqb y x) (is_in y xs) e)) i)

  find_agree : (n : ℕ) (xs : List ℕ) → ((x : ℕ) → is_in x xs ≡ true → p x ≡ q x) → find (λ x. eqb (p x) n) xs ≡ find (λ x. eqb (q x) n) xs
  find_agree n [] h = refl
  find_agree n (x ∷ xs) h = λ i. cond (eqb (h x (or_left (eqb x x) (is_in x xs) (eq-eqb x x refl)) i) n) (Some x) (find_agree n xs (λ y e. h y (or_right (eqb y x) (is_in y xs) e)) i)

  pub first_agree : (xs : List ℕ) → ((x : ℕ) → is_in x xs ≡ true → p x ≡ q x) → first_greatest p xs ≡ first_greatest q xs
  first_agree xs h = ap (λ n. find (λ x. eqb (p x) n) xs) (greatest_agree xs h) ∙ find_agree (greatest q xs) xs h

-- the first of the greatest is in the list
pub first_in : (p : ℕ → ℕ) (xs : List ℕ) (x : ℕ) → first_greatest p xs ≡ Some x → is_in x xs ≡ true
first_in p xs x e = find_member (λ y. eqb (p y) (greatest p xs)) xs x e

-- of one thread alone, it is the first
pub first_of_one : (p : ℕ → ℕ) (x : ℕ) → first_greatest p (x ∷ []) ≡ Some x
first_of_one p x = rw (eq-eqb (p x) (max (p x) 0) (omega arith)) refl

-- no member has a greater key than the greatest
pub greatest_above : (p : ℕ → ℕ) (xs : List ℕ) (x : ℕ) → is_in x xs ≡ true → p x ≤ greatest p xs
greatest_above p [] x h = let e : false ≡ true = h in cc
greatest_above p (y ∷ ys) x h =
    elim (cases_Bool (eqb x y)) [
      | inl same ↦ (let e : p x ≡ p y = ap p (eqb-true x y same) in omega (arith, e))
      | inr other ↦ (let rest = greatest_above p ys x (rw other at h) in omega (arith, rest))
    ]

-- of a list with a member, some member has the greatest key
pub greatest_at : (p : ℕ → ℕ) (y : ℕ) (ys : List ℕ) → (a : ℕ) × (is_in a (y ∷ ys) ≡ true) × (p a ≡ greatest p (y ∷ ys))
greatest_at p y ys = let a = attained p y ys in (a.0, first_in p (y ∷ ys) a.0 a.1, a.2)

-- of a list with a member there is a first of the greatest
pub first_some : (p : ℕ → ℕ) (y : ℕ) (ys : List ℕ) → (a : ℕ) × (first_greatest p (y ∷ ys) ≡ Some a)
first_some p y ys = let a = attained p y ys in (a.0, a.1)
