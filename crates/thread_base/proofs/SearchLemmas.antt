-- The first number of a range that passes a test, and whether one passes.
use Rattle.std.proofs.Common.{◌≡◌, ◌≢◌, ℕ, zero, suc, ◌+◌, ◌-◌, ◌<◌, ◌≤◌, Bool, true, false, inl, inr, refl, ap, subst, ◌∙◌, arith, eqb, List, [], ◌∷◌, find, Option, Some, None}
use Rattle.std.proofs.lemmas.Bool.{cases_eq, cases_Bool, eq-eqb, eqb-true, or_left, or_right, or_parts}
use Rattle.std.specs.List.{range_with_len, list_any}
use Rattle.thread_base.specs.Orders.{is_in}
use Rattle.thread_base.specs.Priority.{tids}

-- where one number alone passes and stands in the range, it is found
pub find_only : (test : ℕ → Bool) (first count x : ℕ) → test x ≡ true → ((u : ℕ) → u ≢ x → test u ≡ false) → first ≤ x → x < first + count
    → find test (range_with_len first count) ≡ Some x
find_only test first zero x passes others low high = absurd (omega arith)
find_only test first (suc count) x passes others low high =
    elim (cases_eq first x) [
      | inl same ↦ (let here : test first ≡ true = ap test same ∙ passes in rw here (ap Some same))
      | inr other ↦ (let skip : test first ≡ false = others first other in rw skip (find_only test (first + 1) count x passes others (omega arith) (omega arith)))
    ]

-- a number of the range that passes while no lower number does is found
pub find_first : (test : ℕ → Bool) (first count x : ℕ) → test x ≡ true → ((u : ℕ) → u < x → test u ≡ false) → first ≤ x → x < first + count
    → find test (range_with_len first count) ≡ Some x
find_first test first zero x passes others low high = absurd (omega arith)
find_first test first (suc count) x passes others low high =
    elim (cases_eq first x) [
      | inl same ↦ (let here : test first ≡ true = ap test same ∙ passes in rw here (ap Some same))
      | inr other ↦ (let skip : test first ≡ false = others first (omega arith) in rw skip (find_first test (first + 1) count x passes others (omega arith) (omega arith)))
    ]

-- where none passes, none is found
pub find_nowhere : (test : ℕ → Bool) (first count : ℕ) → ((u : ℕ) → test u ≡ false) → find test (range_with_len first count) ≡ None
find_nowhere test first zero none = refl
find_nowhere test first (suc count) none = rw (none first) (find_nowhere test (first + 1) count none)

-- a number that is found passes
pub find_passes : (test : ℕ → Bool) (xs : List ℕ) (x : ℕ) → find test xs ≡ Some x → test x ≡ true
find_passes test [] x e = let h : None ≡ Some x = e in cc
find_passes test (y ∷ ys) x e =
    elim (cases_Bool (test y)) [
      | inl h ↦ (let f : Some y ≡ Some x = rw h at e in let same : y ≡ x = cc in subst (λ z. test z ≡ true) same h)
      | inr h ↦ find_passes test ys x (rw h at e)
    ]

-- and is a member
pub find_member : (test : ℕ → Bool) (xs : List ℕ) (x : ℕ) → find test xs ≡ Some x → is_in x xs ≡ true
find_member test [] x e = let h : None ≡ Some x = e in cc
find_member test (y ∷ ys) x e =
    elim (cases_Bool (test y)) [
      | inl h ↦ (let f : Some y ≡ Some x = rw h at e in let same : x ≡ y = cc in or_left (eqb x y) (is_in x ys) (eq-eqb x y same))
      | inr h ↦ or_right (eqb x y) (is_in x ys) (find_member test ys x (rw h at e))
    ]

-- where nothing is found, no member passes
pub find_none : (test : ℕ → Bool) (xs : List ℕ) (x : ℕ) → find test xs ≡ None → is_in x xs ≡ true → test x ≡ false
find_none test [] x h e = let f : false ≡ true = e in cc
find_none test (y ∷ ys) x h e =
    elim (cases_Bool (test y)) [
      | inl passes ↦ (let f : Some y ≡ None = rw passes at h in cc)
      | inr fails ↦ elim (cases_Bool (eqb x y)) [
        | inl same ↦ ap test (eqb-true x y same) ∙ fails
        | inr other ↦ find_none test ys x (rw fails at h) (rw other at e)
      ]
    ]

-- where none passes of which one is a member, that does not pass
pub any_none : (test : ℕ → Bool) (xs : List ℕ) (x : ℕ) → list_any test xs ≡ false → is_in x xs ≡ true → test x ≡ false
any_none test [] x h e = let f : false ≡ true = e in cc
any_none test (y ∷ ys) x h e =
    let both = or_parts (test y) (list_any test ys) h in
    elim (cases_Bool (eqb x y)) [
      | inl same ↦ ap test (eqb-true x y same) ∙ both.0
      | inr other ↦ any_none test ys x both.1 (rw other at e)
    ]

-- where no member passes, none does
pub none_any : (test : ℕ → Bool) (xs : List ℕ) → ((x : ℕ) → is_in x xs ≡ true → test x ≡ false) → list_any test xs ≡ false
none_any test [] h = refl
none_any test (y ∷ ys) h =
    rw (h y (or_left (eqb y y) (is_in y ys) (eq-eqb y y refl))) (none_any test ys (λ x e. h x (or_right (eqb x y) (is_in x ys) e)))

-- a member that passes
pub any_some : (test : ℕ → Bool) (xs : List ℕ) (x : ℕ) → is_in x xs ≡ true → test x ≡ true → list_any test xs ≡ true
any_some test [] x e h = let f : false ≡ true = e in cc
any_some test (y ∷ ys) x e h =
    elim (cases_Bool (eqb x y)) [
      | inl same ↦ or_left (test y) (list_any test ys) (subst (λ z. test z ≡ true) (eqb-true x y same) h)
      | inr other ↦ or_right (test y) (list_any test ys) (any_some test ys x (rw other at e) h)
    ]

pub in_range : (first count u : ℕ) → first ≤ u → u < first + count → is_in u (range_with_len first count) ≡ true
in_range first zero u low high = absurd (omega arith)
in_range first (suc count) u low high =
    elim (cases_eq u first) [
      | inl same ↦ or_left (eqb u first) (is_in u (range_with_len (first + 1) count)) (eq-eqb u first same)
      | inr other ↦ or_right (eqb u first) (is_in u (range_with_len (first + 1) count)) (in_range (first + 1) count u (omega arith) (omega arith))
    ]

pub range_in : (first count u : ℕ) → is_in u (range_with_len first count) ≡ true → (first ≤ u) × (u < first + count)
range_in first zero u e = absurd (let f : false ≡ true = e in cc)
range_in first (suc count) u e =
    elim (cases_Bool (eqb u first)) [
      | inl same ↦ (let s = eqb-true u first same in (omega (arith, s), omega (arith, s)))
      | inr other ↦ (let rest = range_in (first + 1) count u (rw other at e) in (omega (arith, rest.0), omega (arith, rest.1)))
    ]

-- no lower number of a range passes than the one that is found
pub find_lowest : (test : ℕ → Bool) (first count x u : ℕ) → find test (range_with_len first count) ≡ Some x → first ≤ u → u < x → test u ≡ false
find_lowest test first zero x u e low high = let h : None ≡ Some x = e in cc
find_lowest test first (suc count) x u e low high =
    elim (cases_Bool (test first)) [
      | inl passes ↦ absurd (let f : Some first ≡ Some x = rw passes at e in let same : first ≡ x = cc in omega (arith, same))
      | inr fails ↦ elim (cases_eq u first) [
        | inl same ↦ ap test same ∙ fails
        | inr other ↦ find_lowest test (first + 1) count x u (rw fails at e) (omega arith) high
      ]
    ]

-- the threads' numbers are those from 1 to 64
pub in_tids : (u : ℕ) → 1 ≤ u → u ≤ 64 → is_in u tids ≡ true
unfolding tids
in_tids u low high = in_range 1 64 u low (omega arith)

pub tids_in : (u : ℕ) → is_in u tids ≡ true → (1 ≤ u) × (u ≤ 64)
unfolding tids
tids_in u e = let r = range_in 1 64 u e in (r.0, omega (arith, r.1))

-- the first thread from a number on that passes, as a loop over the numbers finds it
unfoldable pub found_from : (ℕ → Bool) → ℕ → Option ℕ
found_from test n = find test (range_with_len n (65 - n))

one_less : (n : ℕ) → n < 65 → 65 - n ≡ suc (65 - (n + 1))
one_less n h = omega arith

pub found_from_one : (test : ℕ → Bool) → find test tids ≡ found_from test 1
unfolding tids found_from
found_from_one test = refl

pub found_here : (test : ℕ → Bool) (n : ℕ) → n < 65 → test n ≡ true → found_from test n ≡ Some n
unfolding found_from
found_here test n h passes = rw (one_less n h) (rw passes refl)

pub found_later : (test : ℕ → Bool) (n : ℕ) → n < 65 → test n ≡ false → found_from test n ≡ found_from test (n + 1)
unfolding found_from
found_later test n h fails = rw (one_less n h) (rw fails refl)

pub found_no_more : (test : ℕ → Bool) (n : ℕ) → 65 ≤ n → found_from test n ≡ None
unfolding found_from
found_no_more test n h = let e : 65 - n ≡ 0 = omega arith in rw e refl
