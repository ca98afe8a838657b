-- To take a node out of its ring leaves the rings linked.
use Rattle.std.proofs.Common.{◌≡◌, ◌≢◌, ◌∙◌, refl, sym, ap, subst, arith, inl, inr, ℕ, ◌+◌, ◌<◌, ◌||◌, ◌==◌, if◌then◌else◌, true, false, List, ◌∷◌, Option, Some, None, length, eqb, set, length-set}
use Rattle.std.proofs.lemmas.Bool.{eq-eqb, ne_eqb, cases_eq}
use Rattle.std.proofs.lemmas.Bool.Decides.{nat_tests}
use Rattle.thread_base.specs.Orders.{is_in, without}
use Rattle.thread_base.proofs.OrderLemmas.{not_in-without, is_in-without}
use Rattle.link_arena.specs.Chains.{StandsOnce, list_of}
use Rattle.link_arena.specs.Rings.{kept_at, home_at, is_for, ring, place_after, place_before, AreLinked}
use Rattle.link_arena.proofs.RingLemmas.{behind_without, ahead_without, once_without}
use Rattle.link_arena.proofs.LinkLemmas.{read_set, if_same, if_other, within, in_ring, before_home, after_home, stands_in}

module _ (nodes : ℕ) (lists : List (List ℕ)) (next previous : List ℕ) (homes : List (Option ℕ)) (are : AreLinked nodes lists next previous homes)
    (n h : ℕ) (low : n < nodes) (at : home_at homes n ≡ Some h)
    (lists' : List (List ℕ)) (count : length lists' ≡ length lists) (here : list_of lists' h ≡ without n (list_of lists h))
    (there : (k : ℕ) → k ≢ h → list_of lists' k ≡ list_of lists k) where
  abbrev p : ℕ
  p = kept_at previous n

  abbrev s : ℕ
  s = kept_at next n

  abbrev next' : List ℕ
  next' = set next p s

  abbrev previous' : List ℕ
  previous' = set previous s p

  abbrev homes' : List (Option ℕ)
  homes' = set homes n None

  p_home : home_at homes p ≡ Some h
  p_home = before_home nodes lists next previous homes are n h at

  s_home : home_at homes s ≡ Some h
  s_home = after_home nodes lists next previous homes are n h at

  new_home : (x : ℕ) → home_at homes' x ≡ (if x == n then None else home_at homes x)
  new_home x = read_set homes n None None x (omega (arith, are.same, are.places))

  new_next : (x : ℕ) → kept_at next' x ≡ (if x == p then s else kept_at next x)
  new_next x = read_set next p s 0 x (within nodes lists next previous homes are p h p_home)

  new_previous : (x : ℕ) → kept_at previous' x ≡ (if x == s then p else kept_at previous x)
  new_previous x = let place = within nodes lists next previous homes are s h s_home in read_set previous s p 0 x (omega (arith, are.same))

  one_head : (j k : ℕ) → Some j ≡ Some k → k ≡ j
  one_head j k e = cc

  moved : (x : ℕ) → x ≢ n → home_at homes' x ≡ home_at homes x
  moved x ne = new_home x ∙ if_other x n None (home_at homes x) ne

  gone : (x : ℕ) → x ≡ n → home_at homes' x ≡ None
  gone x e = new_home x ∙ if_same x n None (home_at homes x) e

  still : (x k : ℕ) → home_at homes' x ≡ Some k → x ≢ n
  still x k e same = let f : None ≡ Some k = sym (gone x same) ∙ e in cc

  was : (x k : ℕ) → home_at homes' x ≡ Some k → home_at homes x ≡ Some k
  was x k e = sym (moved x (still x k e)) ∙ e

  apart : (x y k : ℕ) → home_at homes x ≡ Some k → home_at homes y ≡ Some h → k ≢ h → x ≢ y
  apart x y k e f ne same = ne (one_head h k (sym f ∙ ap (home_at homes) (sym same) ∙ e))

  old_ring : StandsOnce (ring nodes lists h)
  old_ring = are.once h (are.heads n h at)

  n_in : is_in n (list_of lists h) ≡ true
  n_in = stands_in nodes lists next previous homes are n h low ∙ ap (λ o. is_for o h) at ∙ eq-eqb h h refl

  here_stands : (x : ℕ) → is_in x (ring nodes lists' h) ≡ is_for (home_at homes' x) h
  here_stands x =
      elim (cases_eq x n) [
        | inl same ↦
            (let end : eqb x (nodes + h) ≡ false = ne_eqb x (nodes + h) (λ e. absurd (omega arith)) in
            let out : is_in x (list_of lists' h) ≡ false = ap (is_in x) here ∙ subst (λ y. is_in y (without n (list_of lists h)) ≡ false) (sym same) (not_in-without n (list_of lists h)) in
            ap (λ b. b || is_in x (list_of lists' h)) end ∙ out ∙ sym (ap (λ o. is_for o h) (gone x same)))
        | inr other ↦
            ap (λ b. (x == nodes + h) || b) (ap (is_in x) here ∙ is_in-without n x (list_of lists h) other)
            ∙ are.stands x h (are.heads n h at)
            ∙ sym (ap (λ o. is_for o h) (moved x other))
      ]

  there_stands : (x k : ℕ) → k < length lists → k ≢ h → is_in x (ring nodes lists' k) ≡ is_for (home_at homes' x) k
  there_stands x k l ne =
      let stays : is_in x (ring nodes lists' k) ≡ is_in x (ring nodes lists k) = ap (λ ns. (x == nodes + k) || is_in x ns) (there k ne) in
      stays ∙ are.stands x k l
      ∙ elim (cases_eq x n) as (λ _. is_for (home_at homes x) k ≡ is_for (home_at homes' x) k) [
        | inl same ↦ ap (λ y. is_for (home_at homes y) k) same ∙ ap (λ o. is_for o k) at ∙ ne_eqb h k (λ e. ne (sym e)) ∙ sym (ap (λ o. is_for o k) (gone x same))
        | inr other ↦ sym (ap (λ o. is_for o k) (moved x other))
      ]

  here_after : (x : ℕ) → x ≢ n → home_at homes x ≡ Some h → kept_at next' x ≡ place_after (nodes + h) (nodes + h) x (list_of lists' h)
  here_after x ne home =
      let reads = new_next x in
      let left = ap (place_after (nodes + h) (nodes + h) x) here ∙ behind_without (nodes + h) (nodes + h) x n (list_of lists h) old_ring n_in ne in
      let n_after = are.after n h at in
      let n_before = are.before n h at in
      let x_after = are.after x h home in
      grind (arith, nat_tests)

  here_before : (x : ℕ) → x ≢ n → home_at homes x ≡ Some h → kept_at previous' x ≡ place_before (nodes + h) (nodes + h) x (list_of lists' h)
  here_before x ne home =
      let reads = new_previous x in
      let left = ap (place_before (nodes + h) (nodes + h) x) here ∙ ahead_without (nodes + h) (nodes + h) x n (list_of lists h) old_ring n_in ne old_ring.0 (in_ring nodes lists next previous homes are x h home) in
      let n_after = are.after n h at in
      let n_before = are.before n h at in
      let x_before = are.before x h home in
      grind (arith, nat_tests)

  there_after : (x k : ℕ) → k ≢ h → home_at homes x ≡ Some k → kept_at next' x ≡ place_after (nodes + k) (nodes + k) x (list_of lists' k)
  there_after x k ne home =
      new_next x
      ∙ if_other x p s (kept_at next x) (apart x p k home p_home ne)
      ∙ are.after x k home
      ∙ sym (ap (place_after (nodes + k) (nodes + k) x) (there k ne))

  there_before : (x k : ℕ) → k ≢ h → home_at homes x ≡ Some k → kept_at previous' x ≡ place_before (nodes + k) (nodes + k) x (list_of lists' k)
  there_before x k ne home =
      new_previous x
      ∙ if_other x s p (kept_at previous x) (apart x s k home s_home ne)
      ∙ are.before x k home
      ∙ sym (ap (place_before (nodes + k) (nodes + k) x) (there k ne))

  new_once : (k : ℕ) → k < length lists → StandsOnce (ring nodes lists' k)
  new_once k l =
      elim (cases_eq k h) [
        | inl same ↦ subst (λ j. StandsOnce (ring nodes lists' j)) (sym same) (
          (ap (is_in (nodes + h)) here ∙ is_in-without n (nodes + h) (list_of lists h) (λ e. absurd (omega arith)) ∙ old_ring.0),
          subst StandsOnce (sym here) (once_without n (list_of lists h) old_ring.1),
        )
        | inr other ↦ subst (λ ns. StandsOnce ((nodes + k) ∷ ns)) (sym (there k other)) (are.once k l)
      ]

  pub unlinked_are : AreLinked nodes lists' next' previous' homes'
  unlinked_are = record {
    places = omega (arith, are.places, count, length-set next p s);
    same = (omega (arith, are.same, length-set next p s, length-set previous s p), omega (arith, are.same, length-set next p s, length-set homes n None));
    small = omega (arith, are.small, length-set next p s);
    heads = λ x k e. (let l = are.heads x k (was x k e) in omega (arith, count));
    stands = λ x k l. elim (cases_eq k h) [
      | inl same ↦ subst (λ j. is_in x (ring nodes lists' j) ≡ is_for (home_at homes' x) j) (sym same) (here_stands x)
      | inr other ↦ there_stands x k (omega (arith, count)) other
    ];
    once = λ k l. new_once k (omega (arith, count));
    after = λ x k e. elim (cases_eq k h) [
      | inl is ↦ subst (λ j. kept_at next' x ≡ place_after (nodes + j) (nodes + j) x (list_of lists' j)) (sym is) (here_after x (still x k e) (subst (λ j. home_at homes x ≡ Some j) is (was x k e)))
      | inr un ↦ there_after x k un (was x k e)
    ];
    before = λ x k e. elim (cases_eq k h) [
      | inl is ↦ subst (λ j. kept_at previous' x ≡ place_before (nodes + j) (nodes + j) x (list_of lists' j)) (sym is) (here_before x (still x k e) (subst (λ j. home_at homes x ≡ Some j) is (was x k e)))
      | inr un ↦ there_before x k un (was x k e)
    ];
  }
