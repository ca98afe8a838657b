-- The ring of one head: its places, and what a change of one node makes of its neighbours.
use Rattle.std.proofs.Common.{◌≡◌, ◌≢◌, ◌∙◌, refl, sym, ap, subst, arith, inl, inr, ℕ, ◌<◌, ◌≤◌, ◌||◌, ◌==◌, if◌then◌else◌, nat_lt, true, false, List, [], ◌∷◌, ◌++◌, Some, None, length, eqb, suc, zero}
use Rattle.std.proofs.lemmas.Bool.{eq-eqb, ne_eqb, eqb-true, cases_eq, cases_Bool, or_parts}
use Rattle.std.proofs.lemmas.Bool.Decides.{nat_tests}
use Rattle.thread_base.specs.Orders.{is_in, without}
use Rattle.thread_base.proofs.OrderLemmas.{without_absent, not_in-without, is_in-without}
use Rattle.link_arena.specs.Chains.{StandsOnce, with_before, after_in, first_of}
use Rattle.link_arena.specs.Rings.{place_after, place_before, kept_at, walked}

-- a list with a node right before another, or after all
abbrev pub placed : ℕ → ℕ → List ℕ → List ℕ
placed m a [] = m ∷ []
placed m a (x ∷ xs) = if x == a then m ∷ x ∷ xs else x ∷ placed m a xs

-- the place before one of the ring
pub ahead_in : (e q x : ℕ) (xs : List ℕ) → is_in (place_before e q x xs) (q ∷ xs) ≡ true
ahead_in e q x [] = grind (arith, nat_tests)
ahead_in e q x (y ∷ ys) =
    let more = ahead_in e y x ys in
    grind (arith, nat_tests)

-- the place after one of the ring
pub behind_in : (e q x : ℕ) (xs : List ℕ) → is_in (place_after e q x xs) (e ∷ xs) ≡ true
behind_in e q x [] = grind (arith, nat_tests)
behind_in e q x (y ∷ ys) =
    let more = behind_in e y x ys in
    grind (arith, nat_tests)

-- what stands after each place once m stands before a
pub behind_placed : (e q x m a : ℕ) (xs : List ℕ) → StandsOnce (q ∷ xs) → is_in m (q ∷ xs) ≡ false
    → place_after e q x (placed m a xs) ≡ (if x == m then (if is_in a xs then a else e) else (if x == place_before e q a xs then m else place_after e q x xs))
behind_placed e q x m a [] once new = grind (arith, nat_tests)
behind_placed e q x m a (y ∷ ys) once new =
    let more = behind_placed e y x m a ys once.1 (or_parts (eqb m q) (is_in m (y ∷ ys)) new).1 in
    let before = ahead_in e y a ys in
    grind (arith, nat_tests)

-- what stands before each place once m stands before a
pub ahead_placed : (e q x m a : ℕ) (xs : List ℕ) → StandsOnce (q ∷ xs) → is_in m (q ∷ xs) ≡ false → is_in e xs ≡ false → is_in a (e ∷ xs) ≡ true → is_in x (e ∷ xs) || x == m ≡ true → m ≢ e
    → place_before e q x (placed m a xs) ≡ (if x == m then place_before e q a xs else (if x == a then m else place_before e q x xs))
ahead_placed e q x m a [] once new end at here ne = grind (arith, nat_tests)
ahead_placed e q x m a (y ∷ ys) once new end at here ne =
    let more = ahead_placed e y x m a ys once.1 (or_parts (eqb m q) (is_in m (y ∷ ys)) new).1 (or_parts (eqb e y) (is_in e ys) end).1 in
    grind (arith, nat_tests)

-- who stands in the list once m is put there
pub in_placed : (x m a : ℕ) (xs : List ℕ) → is_in x (placed m a xs) ≡ (x == m) || is_in x xs
in_placed x m a [] = grind (arith, nat_tests)
in_placed x m a (y ∷ ys) =
    let more = in_placed x m a ys in
    grind (arith, nat_tests)

pub once_placed : (m a : ℕ) (xs : List ℕ) → StandsOnce xs → is_in m xs ≡ false → StandsOnce (placed m a xs)
once_placed m a [] once new = (refl, tt)
once_placed m a (y ∷ ys) once new =
    elim (cases_Bool (eqb y a)) [
      | inl is ↦ rw is (new, once)
      | inr un ↦ rw un ((
        (let more = in_placed y m a ys in let old = once.0 in grind (arith, nat_tests)),
        once_placed m a ys once.1 (or_parts (eqb m y) (is_in m ys) new).1,
      ))
    ]

skip_behind : (e q x n : ℕ) (ys : List ℕ) → x ≢ n → place_after e q x ys ≡ (if x == q then place_after e n n ys else place_after e n x ys)
skip_behind e q x n [] ne = grind (arith, nat_tests)
skip_behind e q x n (z ∷ zs) ne = grind (arith, nat_tests)

skip_ahead : (e q x n : ℕ) (ys : List ℕ) → is_in x (e ∷ ys) ≡ true → place_before e q x ys ≡ (if x == place_after e n n ys then q else place_before e n x ys)
skip_ahead e q x n [] here = grind (arith, nat_tests)
skip_ahead e q x n (z ∷ zs) here = grind (arith, nat_tests)

none_left : (n y : ℕ) (ys : List ℕ) → is_in y ys ≡ false → eqb y n ≡ true → without n ys ≡ ys
none_left n y ys out same = without_absent n ys (subst (λ u. is_in u ys ≡ false) (eqb-true y n same) out)

-- what stands after each other place without n
pub behind_without : (e q x n : ℕ) (xs : List ℕ) → StandsOnce (q ∷ xs) → is_in n xs ≡ true → x ≢ n
    → place_after e q x (without n xs) ≡ (if x == place_before e q n xs then place_after e q n xs else place_after e q x xs)
behind_without e q x n [] once here ne = grind (arith, nat_tests)
behind_without e q x n (y ∷ ys) once here ne =
    elim (cases_Bool (eqb y n)) [
      | inl is ↦ rw is (
          let same = eqb-true y n is in
          let skip = skip_behind e q x n ys ne in
          ap (place_after e q x) (none_left n y ys once.1.0 is) ∙ grind (arith, nat_tests))
      | inr un ↦ rw un (
          let more = behind_without e y x n ys once.1 in
          let before = ahead_in e y n ys in
          grind (arith, nat_tests))
    ]

-- what stands before each other place without n
pub ahead_without : (e q x n : ℕ) (xs : List ℕ) → StandsOnce (q ∷ xs) → is_in n xs ≡ true → x ≢ n → is_in e xs ≡ false → is_in x (e ∷ xs) ≡ true
    → place_before e q x (without n xs) ≡ (if x == place_after e q n xs then place_before e q n xs else place_before e q x xs)
ahead_without e q x n [] once here ne end at = grind (arith, nat_tests)
ahead_without e q x n (y ∷ ys) once here ne end at =
    elim (cases_Bool (eqb y n)) [
      | inl is ↦ rw is (
          let same = eqb-true y n is in
          let skip = skip_ahead e q x n ys in
          ap (place_before e q x) (none_left n y ys once.1.0 is) ∙ grind (arith, nat_tests))
      | inr un ↦ rw un (
          let more = ahead_without e y x n ys once.1 in
          let after = behind_in e y n ys in
          grind (arith, nat_tests))
    ]

not_left : (n u : ℕ) (xs : List ℕ) → is_in u xs ≡ false → is_in u (without n xs) ≡ false
not_left n u xs out =
    elim (cases_eq u n) [
      | inl same ↦ subst (λ v. is_in v (without n xs) ≡ false) (sym same) (not_in-without n xs)
      | inr other ↦ is_in-without n u xs other ∙ out
    ]

pub once_without : (n : ℕ) (xs : List ℕ) → StandsOnce xs → StandsOnce (without n xs)
once_without n [] once = tt
once_without n (y ∷ ys) once =
    elim (cases_Bool (eqb y n)) [
      | inl is ↦ rw is (once_without n ys once.1)
      | inr un ↦ rw un (not_left n y ys once.0, once_without n ys once.1)
    ]

-- a node that stands before one of the list
pub placed_inside : (m a : ℕ) (xs : List ℕ) → is_in a xs ≡ true → with_before m a xs ≡ placed m a xs
placed_inside m a [] here = let e : false ≡ true = here in cc
placed_inside m a (y ∷ ys) here =
    let more = placed_inside m a ys in
    grind (arith, nat_tests)

-- nothing stands before one that is not there
pub none_before : (m a : ℕ) (xs : List ℕ) → is_in a xs ≡ false → with_before m a xs ≡ xs
none_before m a [] out = refl
none_before m a (y ∷ ys) out =
    let more = none_before m a ys in
    grind (arith, nat_tests)

-- a node that stands before the end
pub placed_last : (m a : ℕ) (xs : List ℕ) → is_in a xs ≡ false → placed m a xs ≡ xs ++ m ∷ []
placed_last m a [] out = refl
placed_last m a (y ∷ ys) out =
    let more = placed_last m a ys in
    grind (arith, nat_tests)

-- the place after one of the list, where each node is below the end
pub first_node : (e q nodes : ℕ) (xs : List ℕ) → nodes ≤ e → ((u : ℕ) → is_in u xs ≡ true → u < nodes)
    → (if nat_lt (place_after e q q xs) nodes then Some (place_after e q q xs) else None) ≡ first_of xs
first_node e q nodes [] end below = grind (arith, nat_tests)
first_node e q nodes (y ∷ ys) end below =
    let low = below y in
    grind (arith, nat_tests)

pub next_node : (e q x nodes : ℕ) (xs : List ℕ) → nodes ≤ e → x ≢ q → ((u : ℕ) → is_in u xs ≡ true → u < nodes)
    → (if nat_lt (place_after e q x xs) nodes then Some (place_after e q x xs) else None) ≡ after_in x xs
next_node e q x nodes [] end ne below = grind (arith, nat_tests)
next_node e q x nodes (y ∷ ys) end ne below =
    elim (cases_eq y x) [
      | inl same ↦
          (let first = first_node e y nodes ys end (λ u h. below u (grind (arith, nat_tests))) in
          let low : eqb x q ≡ false = ne_eqb x q ne in
          let is : eqb y x ≡ true = eq-eqb y x same in
          rw low (rw is (subst (λ u. (if nat_lt (place_after e y u ys) nodes then Some (place_after e y u ys) else None) ≡ first_of ys) same first)))
      | inr other ↦
          (let more = next_node e y x nodes ys end (λ f. other (sym f)) (λ u h. below u (grind (arith, nat_tests))) in
          let low : eqb x q ≡ false = ne_eqb x q ne in
          let is : eqb y x ≡ false = ne_eqb y x other in
          rw low (rw is more))
    ]

-- the nodes are found from their end on
pub walk_is : (next : List ℕ) (nodes most e q : ℕ) (xs : List ℕ) → nodes ≤ e → ((u : ℕ) → is_in u xs ≡ true → u < nodes) → length xs ≤ most → StandsOnce (q ∷ xs)
    → ((x : ℕ) → is_in x (q ∷ xs) ≡ true → kept_at next x ≡ place_after e q x xs) → walked next nodes most q ≡ xs
walk_is next nodes zero e q [] end below room once is = refl
walk_is next nodes (suc most) e q [] end below room once is =
    let at = is q in
    grind (arith, nat_tests)
walk_is next nodes zero e q (y ∷ ys) end below room once is = absurd (let f : suc (length ys) ≤ 0 = room in omega arith)
walk_is next nodes (suc most) e q (y ∷ ys) end below room once is =
    let self : eqb q q ≡ true = eq-eqb q q refl in
    let at : kept_at next q ≡ y = is q (grind (arith, nat_tests)) ∙ (rw self refl) in
    let low : nat_lt y nodes ≡ true = (let l = below y in grind (arith, nat_tests)) in
    let rest = walk_is next nodes most e y ys end (λ u h. below u (grind (arith, nat_tests))) (let f : suc (length ys) ≤ suc most = room in omega arith) once.1 (λ x h. further x h) in
    rw at (rw low (ap (λ zs. y ∷ zs) rest))
  where
    further : (x : ℕ) → is_in x (y ∷ ys) ≡ true → kept_at next x ≡ place_after e y x ys
    further x h =
        let one = is x in
        let out = once.0 in
        grind (arith, nat_tests)
