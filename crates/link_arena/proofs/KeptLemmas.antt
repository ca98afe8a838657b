-- What is kept for the nodes of stacks, after a change of one stack.
use Rattle.std.proofs.Common.{◌≡◌, ◌≢◌, ◌∙◌, refl, sym, ap, arith, inl, inr, ℕ, ◌-◌, ◌<◌, true, false, List, [], ◌∷◌, ◌++◌, Some, None, length, set, take, get_or, length-set, length-append, get_or-set_same, get_or-set_other, eqb, slice_get}
use Rattle.std.proofs.lemmas.Bool.{eq-eqb, ne_eqb, cases_eq, cases_Bool, or_left, or_right, or_parts}
use Rattle.std.proofs.lemmas.List.{take_at, get_or_push}
use Rattle.std.proofs.lemmas.Option.{slice_get-get_or}
use Rattle.thread_base.specs.Maps.{put}
use Rattle.thread_base.specs.Orders.{is_in}
use Rattle.thread_base.proofs.MapLemmas.{put_is, put_same, put_other, map_put}
use Rattle.link_arena.specs.Chains.{first_of}
use Rattle.link_arena.specs.Stacking.{rest_of, there, stacked, HavePlaces}

module _ {A : Type 0} where
  read_place : (kept : List A) (n : ℕ) (d : A) → n < length kept → slice_get kept n ≡ Some (get_or kept n d)
  read_place kept n d low = slice_get-get_or kept n d low

  -- each node of a stack has its place
  pub stacked_length : (kept : List A) (ns : List ℕ) (d : A) → ((n : ℕ) → is_in n ns ≡ true → n < length kept) → length (stacked kept ns) ≡ length ns
  stacked_length kept [] d low = refl
  stacked_length kept (n ∷ ns) d low =
      let more = stacked_length kept ns d (λ m is. low m (or_right (eqb m n) (is_in m ns) is)) in
      let one = read_place kept n d (low n (or_left (eqb n n) (is_in n ns) (eq-eqb n n refl))) in
      let parts = length-append (stacked kept ns) (there (slice_get kept n)) in
      let last = ap (λ o. length (there o)) one in
      omega arith

  -- a write of the place of another node changes nothing
  pub stacked_set : (kept : List A) (ns : List ℕ) (i : ℕ) (x d : A) → ((n : ℕ) → is_in n ns ≡ true → n < length kept) → is_in i ns ≡ false → stacked (set kept i x) ns ≡ stacked kept ns
  stacked_set kept [] i x d low out = refl
  stacked_set kept (n ∷ ns) i x d low out =
      let apart = or_parts (eqb i n) (is_in i ns) out in
      let more = stacked_set kept ns i x d (λ m is. low m (or_right (eqb m n) (is_in m ns) is)) apart.1 in
      let within = low n (or_left (eqb n n) (is_in n ns) (eq-eqb n n refl)) in
      let ne : n ≢ i = λ e. let f : true ≡ false = sym (eq-eqb i n (sym e)) ∙ apart.0 in let g : ⊥ = cc in g in
      let same : slice_get (set kept i x) n ≡ slice_get kept n =
      read_place (set kept i x) n d (omega (arith, length-set kept i x)) ∙ ap Some (get_or-set_other kept i n x d ne) ∙ sym (read_place kept n d within) in
      (λ j. more j ++ there (same j))

  stacked_push : (kept : List A) (ns : List ℕ) (i : ℕ) (x : A) → ((n : ℕ) → is_in n ns ≡ true → n < length kept) → is_in i ns ≡ false → i < length kept → stacked (set kept i x) (i ∷ ns) ≡ stacked kept ns ++ x ∷ []
  stacked_push kept ns i x low out within =
      let here : slice_get (set kept i x) i ≡ Some x = read_place (set kept i x) i x (omega (arith, length-set kept i x)) ∙ ap Some (get_or-set_same kept i x x within) in
      (λ j. stacked_set kept ns i x x low out j ++ there (here j))

  last_pushed : (xs : List A) (x : A) → slice_get (xs ++ x ∷ []) (length (xs ++ x ∷ []) - 1) ≡ Some x
  last_pushed xs x =
      let count = length-append xs (x ∷ []) in
      let last : length (xs ++ x ∷ []) - 1 ≡ length xs = omega arith in
      ap (slice_get (xs ++ x ∷ [])) last ∙ slice_get-get_or (xs ++ x ∷ []) (length xs) x (omega arith) ∙ ap Some (get_or_push xs x x (length xs) refl)

  front_pushed : (xs : List A) (x : A) → take (length (xs ++ x ∷ []) - 1) (xs ++ x ∷ []) ≡ xs
  front_pushed xs x =
      let count = length-append xs (x ∷ []) in
      take_at xs (x ∷ []) (length (xs ++ x ∷ []) - 1) (omega arith)

  -- the last of what is stacked is kept for the top, and what is before it for the rest
  pub stacked_last : (kept : List A) (ns : List ℕ) (n : ℕ) (d : A) → first_of ns ≡ Some n → n < length kept → slice_get (stacked kept ns) (length (stacked kept ns) - 1) ≡ Some (get_or kept n d)
  stacked_last kept [] n d e low = absurd (let f : None ≡ Some n = e in cc)
  stacked_last kept (m ∷ ms) n d e low =
      let same : m ≡ n = (let f : Some m ≡ Some n = e in cc) in
      let is : stacked kept (m ∷ ms) ≡ stacked kept ms ++ get_or kept n d ∷ [] = ap (λ k. stacked kept ms ++ there (slice_get kept k)) same ∙ ap (λ o. stacked kept ms ++ there o) (read_place kept n d low) in
      ap (λ xs. slice_get xs (length xs - 1)) is ∙ last_pushed (stacked kept ms) (get_or kept n d)

  pub stacked_rest : (kept : List A) (ns : List ℕ) (n : ℕ) (d : A) → first_of ns ≡ Some n → n < length kept → stacked kept (rest_of ns) ≡ take (length (stacked kept ns) - 1) (stacked kept ns)
  stacked_rest kept [] n d e low = absurd (let f : None ≡ Some n = e in cc)
  stacked_rest kept (m ∷ ms) n d e low =
      let same : m ≡ n = (let f : Some m ≡ Some n = e in cc) in
      let is : stacked kept (m ∷ ms) ≡ stacked kept ms ++ get_or kept n d ∷ [] = ap (λ k. stacked kept ms ++ there (slice_get kept k)) same ∙ ap (λ o. stacked kept ms ++ there o) (read_place kept n d low) in
      sym (ap (λ xs. take (length xs - 1) xs) is ∙ front_pushed (stacked kept ms) (get_or kept n d))

  pub stacked_none : (kept : List A) (ns : List ℕ) → first_of ns ≡ None → ns ≡ []
  stacked_none kept [] e = refl
  stacked_none kept (n ∷ ns) e = absurd (let f : Some n ≡ None = e in cc)

  module _ (kept : List A) (stacks stacks' : ℕ → List ℕ) (have : HavePlaces kept stacks) (t : ℕ) where
    low_in : (u n : ℕ) → is_in n (stacks u) ≡ true → n < length kept
    low_in u n is = let b = have.below u n is in omega (arith, have.places)

    pub depth_is : (d : A) → length (stacked kept (stacks t)) ≡ length (stacks t)
    depth_is d = stacked_length kept (stacks t) d (low_in t)

    -- after a push of a node that was on no stack
    module _ (n : ℕ) (x : A) (low : n < 2048) (fresh : (u : ℕ) → is_in n (stacks u) ≡ false) (pushes : stacks' ≡ put stacks t (n ∷ stacks t)) where
      pub kept_push : (λ u. stacked (set kept n x) (stacks' u)) ≡ put (λ u. stacked kept (stacks u)) t (stacked kept (stacks t) ++ x ∷ [])
      kept_push =
          put_is (λ u. stacked kept (stacks u)) (λ u. stacked (set kept n x) (stacks' u)) t (stacked kept (stacks t) ++ x ∷ [])
          (ap (λ s. stacked (set kept n x) (s t)) pushes ∙ ap (stacked (set kept n x)) (put_same stacks t (n ∷ stacks t)) ∙ stacked_push kept (stacks t) n x (low_in t) (fresh t) (omega (arith, have.places)))
          (λ u ne. ap (λ s. stacked (set kept n x) (s u)) pushes ∙ ap (stacked (set kept n x)) (put_other stacks t (n ∷ stacks t) u ne) ∙ stacked_set kept (stacks u) n x x (low_in u) (fresh u))

      pub push_places : HavePlaces (set kept n x) stacks'
      push_places = record {
        places = length-set kept n x ∙ have.places;
        below = λ u m is. elim (cases_eq u t) [
          | inl same ↦
              (let at : is_in m (n ∷ stacks t) ≡ true = sym (ap (λ s. is_in m (s u)) pushes ∙ ap (λ v. is_in m (put stacks t (n ∷ stacks t) v)) same ∙ ap (is_in m) (put_same stacks t (n ∷ stacks t))) ∙ is in
              elim (cases_Bool (eqb m n)) [
                | inl y ↦ (let e = Rattle.std.proofs.lemmas.Bool.eqb-true m n y in omega arith)
                | inr other ↦ have.below t m (rw other at at)
              ])
          | inr ne ↦ have.below u m (sym (ap (λ s. is_in m (s u)) pushes ∙ ap (is_in m) (put_other stacks t (n ∷ stacks t) u ne)) ∙ is)
        ];
      }

    -- after a change of one stack that brings no node
    module _ (ns : List ℕ) (changes : stacks' ≡ put stacks t ns) (fewer : (n : ℕ) → is_in n ns ≡ true → is_in n (stacks t) ≡ true) where
      pub kept_change : (λ u. stacked kept (stacks' u)) ≡ put (λ u. stacked kept (stacks u)) t (stacked kept ns)
      kept_change = ap (λ s u. stacked kept (s u)) changes ∙ map_put (stacked kept) stacks t ns

      pub change_places : HavePlaces kept stacks'
      change_places = record {
        places = have.places;
        below = λ u m is. elim (cases_eq u t) [
          | inl same ↦ have.below t m (fewer m (sym (ap (λ s. is_in m (s u)) changes ∙ ap (λ v. is_in m (put stacks t ns v)) same ∙ ap (is_in m) (put_same stacks t ns)) ∙ is))
          | inr ne ↦ have.below u m (sym (ap (λ s. is_in m (s u)) changes ∙ ap (is_in m) (put_other stacks t ns u ne)) ∙ is)
        ];
      }

pub rest_in : (ns : List ℕ) (n : ℕ) → is_in n (rest_of ns) ≡ true → is_in n ns ≡ true
rest_in [] n e = e
rest_in (m ∷ ms) n e = or_right (eqb n m) (is_in n ms) e

pub none_in : (ns : List ℕ) (n : ℕ) → is_in n [] ≡ true → is_in n ns ≡ true
none_in ns n e = absurd (let f : false ≡ true = e in cc)

-- what is before the last where nothing is stacked, and what a last one says
pub stacked_rest_none : {A : Type 0} (kept : List A) (ns : List ℕ) → first_of ns ≡ None → stacked kept (rest_of ns) ≡ take (length (stacked kept ns) - 1) (stacked kept ns)
stacked_rest_none kept [] e = refl
stacked_rest_none kept (n ∷ ns) e = absurd (let f : Some n ≡ None = e in cc)

pub has_last : {A : Type 0} (xs : List A) (x : A) → slice_get xs (length xs - 1) ≡ Some x → xs ≡ [] → ⊥
has_last [] x e empty = let f : None ≡ Some x = e in cc
has_last (y ∷ ys) x e empty = let f : y ∷ ys ≡ [] = empty in cc

pub no_last : {A : Type 0} (kept : List A) (ns : List ℕ) → first_of ns ≡ None → stacked kept ns ≡ []
no_last kept ns e = ap (stacked kept) (stacked_none kept ns e)
