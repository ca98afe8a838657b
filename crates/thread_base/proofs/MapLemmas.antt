-- Total maps: reads after writes, and writes after writes.
use Rattle.std.proofs.Common.{◌≡◌, ◌≢◌, ℕ, refl, sym, ap, ◌∙◌, subst, inl, inr, arith, List, ◌∷◌, ◌+◌, ◌<◌, suc, zero, get_or, set, length, replicate, length-set, get_or-set_same, get_or-set_other}
use Rattle.std.proofs.lemmas.List.{get_or_default}
use Rattle.std.proofs.lemmas.Bool.{eq-eqb, ne_eqb, cases_eq}
use Rattle.thread_base.specs.Maps.{put, numbered}

pub put_same : {A : Type 0} (m : ℕ → A) (t : ℕ) (x : A) → put m t x t ≡ x
unfolding put
put_same m t x = rw (eq-eqb t t refl) refl

pub put_other : {A : Type 0} (m : ℕ → A) (t : ℕ) (x : A) (u : ℕ) → u ≢ t → put m t x u ≡ m u
unfolding put
put_other m t x u h = rw (ne_eqb u t h) refl

-- two maps are one where they agree at the place of a change and elsewhere
pub put_is : {A : Type 0} (m n : ℕ → A) (t : ℕ) (x : A) → n t ≡ x → ((u : ℕ) → u ≢ t → n u ≡ m u) → n ≡ put m t x
put_is m n t x here there =
    λ i u. (elim (cases_eq u t) as (λ _. n u ≡ put m t x u) [
      | inl e ↦ subst (λ v. n v ≡ put m t x v) (sym e) (here ∙ sym (put_same m t x))
      | inr e ↦ there u e ∙ sym (put_other m t x u e)
    ]) i

pub put-put : {A : Type 0} (m : ℕ → A) (t : ℕ) (x y : A) → put (put m t x) t y ≡ put m t y
put-put m t x y = sym (put_is (put m t x) (put m t y) t y (put_same m t y) (λ u h. put_other m t y u h ∙ sym (put_other m t x u h)))

pub put_got : {A : Type 0} (m : ℕ → A) (t : ℕ) → put m t (m t) ≡ m
put_got m t = sym (put_is m m t (m t) refl (λ u h. refl))

pub put_comm : {A : Type 0} (m : ℕ → A) (t u : ℕ) (x y : A) → t ≢ u → put (put m t x) u y ≡ put (put m u y) t x
put_comm m t u x y h =
    sym (put_is (put m t x) (put (put m u y) t x) u y
    (put_other (put m u y) t x u (λ e. h (sym e)) ∙ put_same m u y)
    (λ v k. elim (cases_eq v t) as (λ _. put (put m u y) t x v ≡ put m t x v) [
      | inl e ↦ subst (λ w. put (put m u y) t x w ≡ put m t x w) (sym e) (put_same (put m u y) t x ∙ sym (put_same m t x))
      | inr e ↦ put_other (put m u y) t x v e ∙ put_other m u y v k ∙ sym (put_other m t x v e)
    ]))

-- what is read of a map after a change
pub at_same : {A B : Type 0} (f : B → A) (m : ℕ → B) (t u : ℕ) (x : B) → u ≡ t → f (put m t x u) ≡ f x
at_same f m t u x e = ap (λ v. f (put m t x v)) e ∙ ap f (put_same m t x)

pub at_other : {A B : Type 0} (f : B → A) (m : ℕ → B) (t u : ℕ) (x : B) → u ≢ t → f (put m t x u) ≡ f (m u)
at_other f m t u x ne = ap f (put_other m t x u ne)

-- what a change leaves stays everywhere
pub kept : {A B : Type 0} (f : B → A) (m : ℕ → B) (t u : ℕ) (x : B) → f x ≡ f (m t) → f (put m t x u) ≡ f (m u)
kept f m t u x e =
    elim (cases_eq u t) [
      | inl same ↦ at_same f m t u x same ∙ e ∙ ap (λ v. f (m v)) (sym same)
      | inr other ↦ at_other f m t u x other
    ]

-- a reading of a map that changed is the reading, changed
pub map_put : {A B : Type 0} (f : A → B) (m : ℕ → A) (t : ℕ) (x : A) → (λ u. f (put m t x u)) ≡ put (λ u. f (m u)) t (f x)
map_put {B = B} f m t x =
    put_is {A = B} (λ u. f (m u)) (λ u. f (put m t x u)) t (f x) (ap f (put_same m t x)) (λ u ne. ap f (put_other m t x u ne))

pub numbered_get : {A : Type 0} (none d : A) (xs : List A) (i t : ℕ) → i + 1 ≡ t → i < length xs → get_or xs i d ≡ numbered none xs t
unfolding numbered
numbered_get none d xs i t e h =
    get_or_default xs i d none h ∙ (let p : suc i ≡ t = omega arith in ap (λ k. get_or (none ∷ xs) k none) p)

pub numbered_read : {A : Type 0} (none x : A) (xs : List A) (i t : ℕ) → x ≡ get_or xs i x → i + 1 ≡ t → i < length xs → x ≡ numbered none xs t
numbered_read none x xs i t r e h = r ∙ numbered_get none x xs i t e h

set_elsewhere : {A : Type 0} (none : A) (xs : List A) (i : ℕ) (x : A) (u : ℕ) → u ≢ i + 1 → numbered none (set xs i x) u ≡ numbered none xs u
unfolding numbered
set_elsewhere none xs i x zero ne = refl
set_elsewhere none xs i x (suc k) ne = let ki : k ≢ i = omega arith in get_or-set_other xs i k x none ki

pub numbered_set : {A : Type 0} (none : A) (xs : List A) (i t : ℕ) (x : A) → i + 1 ≡ t → i < length xs → numbered none (set xs i x) ≡ put (numbered none xs) t x
numbered_set none xs i t x e h =
    put_is (numbered none xs) (numbered none (set xs i x)) t x
    (sym (numbered_get none none (set xs i x) i t e (omega (arith, length-set xs i x))) ∙ get_or-set_same xs i x none h)
    (λ u ne. set_elsewhere none xs i x u (omega arith))

blank : {A : Type 0} (none : A) (n t : ℕ) → get_or (none ∷ replicate n none) t none ≡ none
blank none n zero = refl
blank none zero (suc t) = refl
blank none (suc n) (suc t) = blank none n t

pub numbered_blank : {A : Type 0} (none : A) (n : ℕ) → numbered none (replicate n none) ≡ (λ t. none)
unfolding numbered
numbered_blank none n = λ i t. blank none n t i

-- what two maps make together, after a change of either
pub first_put : {A B C : Type 0} (f : A → B → C) (m : ℕ → A) (n : ℕ → B) (t : ℕ) (x : A) → (λ u. f (put m t x u) (n u)) ≡ put (λ u. f (m u) (n u)) t (f x (n t))
first_put {C = C} f m n t x =
    put_is {A = C} (λ u. f (m u) (n u)) (λ u. f (put m t x u) (n u)) t (f x (n t))
    (ap (λ y. f y (n t)) (put_same m t x))
    (λ u ne. ap (λ y. f y (n u)) (put_other m t x u ne))

pub second_put : {A B C : Type 0} (f : A → B → C) (m : ℕ → A) (n : ℕ → B) (t : ℕ) (x : B) → (λ u. f (m u) (put n t x u)) ≡ put (λ u. f (m u) (n u)) t (f (m t) x)
second_put {C = C} f m n t x =
    put_is {A = C} (λ u. f (m u) (n u)) (λ u. f (m u) (put n t x u)) t (f (m t) x)
    (ap (λ y. f (m t) y) (put_same n t x))
    (λ u ne. ap (λ y. f (m u) y) (put_other n t x u ne))

pub both_put : {A B C : Type 0} (f : A → B → C) (m : ℕ → A) (n : ℕ → B) (t : ℕ) (x : A) (y : B) → (λ u. f (put m t x u) (put n t y u)) ≡ put (λ u. f (m u) (n u)) t (f x y)
both_put {C = C} f m n t x y =
    put_is {A = C} (λ u. f (m u) (n u)) (λ u. f (put m t x u) (put n t y u)) t (f x y)
    (λ i. f (put_same m t x i) (put_same n t y i))
    (λ u ne. λ i. f (put_other m t x u ne i) (put_other n t y u ne i))
