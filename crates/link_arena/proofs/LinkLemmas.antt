-- What is read of linked rings, and that a change of one node leaves them linked.
use Rattle.std.proofs.Common.{◌≡◌, ◌≢◌, ◌∙◌, refl, sym, ap, subst, arith, inl, inr, ℕ, ◌+◌, ◌-◌, ◌<◌, ◌≤◌, ◌||◌, ◌==◌, if◌then◌else◌, nat_lt, true, false, List, [], ◌∷◌, ◌++◌, Option, Some, None, length, eqb, suc, zero, get_or, set, length-set, get_or-set_same, get_or-set_other}
use Rattle.std.specs.List.{IsDistinct, AllByRecursion}
use Rattle.std.proofs.lemmas.Bool.{eq-eqb, ne_eqb, eqb-true, cases_eq, cases_lt, cases_Bool, or_parts, or_right}
use Rattle.std.proofs.lemmas.Bool.Decides.{nat_tests}
use Rattle.std.proofs.lemmas.List.{get_or_past, get_or_append_left, get_or_push}
use Rattle.std.proofs.lemmas.List.FromFn.{fill_by_all}
use Rattle.std.proofs.lemmas.Map.Steps.{length-le_from_distinct_below}
use Rattle.thread_base.specs.Orders.{is_in}
use Rattle.link_arena.specs.Chains.{StandsOnce, AreApart, list_of, head_in, next_in, first_of, after_in, one_more}
use Rattle.link_arena.specs.Rings.{kept_at, home_at, is_for, ring, place_after, place_before, walked, shown, AreLinked}
use Rattle.link_arena.proofs.RingLemmas.{placed, behind_placed, ahead_placed, in_placed, once_placed, first_node, next_node, walk_is, ahead_in, behind_in}

for_is : (o : Option ℕ) (h : ℕ) → is_for o h ≡ true → o ≡ Some h
for_is None h e = let f : false ≡ true = e in cc
for_is (Some g) h e = ap Some (eqb-true g h e)

pub not_for : (o : Option ℕ) (h : ℕ) → (o ≡ Some h → ⊥) → is_for o h ≡ false
not_for o h differs =
    elim (cases_Bool (is_for o h)) [
      | inl is ↦ absurd (differs (for_is o h is))
      | inr un ↦ un
    ]

pub read_set : {A : Type 0} (xs : List A) (i : ℕ) (v d : A) (j : ℕ) → i < length xs → get_or (set xs i v) j d ≡ (if j == i then v else get_or xs j d)
read_set xs i v d j low =
    elim (cases_eq j i) [
      | inl same ↦ rw (eq-eqb j i same) (ap (λ k. get_or (set xs i v) k d) same ∙ get_or-set_same xs i v d low)
      | inr other ↦ rw (ne_eqb j i other) (get_or-set_other xs i j v d other)
    ]

pub if_same : {A : Type 0} (x m : ℕ) (u v : A) → x ≡ m → (if x == m then u else v) ≡ u
if_same x m u v e = rw (eq-eqb x m e) refl

pub if_other : {A : Type 0} (x m : ℕ) (u v : A) → x ≢ m → (if x == m then u else v) ≡ v
if_other x m u v e = rw (ne_eqb x m e) refl

one_less : (k h : ℕ) → (suc k == suc h) ≡ (k == h)
one_less k h = grind (arith, nat_tests)

-- one more place that is as it should be
pub each_more : {A : Type 0} (d : A) (f : ℕ → A) (xs : List A) (y : A) (i : ℕ) → length xs ≡ i → y ≡ f i → ((x : ℕ) → x < i → get_or xs x d ≡ f x) → (x : ℕ) → x < i + 1 → get_or (xs ++ y ∷ []) x d ≡ f x
each_more d f xs y i count is old x low =
    elim (cases_lt x i) [
      | inl less ↦ get_or_append_left xs (y ∷ []) d x (omega arith) ∙ old x less
      | inr past ↦ (let last : x ≡ i = omega arith in get_or_push xs y d x (omega arith) ∙ is ∙ ap f (sym last))
    ]

-- the head is found by the list that has the node
find : (lists : List (List ℕ)) (x : ℕ) (o : Option ℕ) → ((h : ℕ) → is_in x (list_of lists h) ≡ is_for o h) → head_in lists x ≡ o
find [] x None is = refl
find [] x (Some k) is = absurd (let f : false ≡ true = is k ∙ eq-eqb k k refl in cc)
find (l ∷ ls) x None is = rw (is 0) (ap one_more (find ls x None (λ h. is (suc h))))
find (l ∷ ls) x (Some zero) is = rw (is 0) refl
find (l ∷ ls) x (Some (suc k)) is = let f : is_in x l ≡ false = is 0 ∙ ne_eqb (suc k) 0 (λ e. absurd (omega arith)) in rw f (ap one_more (find ls x (Some k) (λ h. is (suc h) ∙ one_less k h)))

next_found : (lists : List (List ℕ)) (x h : ℕ) → ((k : ℕ) → is_in x (list_of lists k) ≡ is_for (Some h) k) → next_in lists x ≡ after_in x (list_of lists h)
next_found [] x h is = absurd (let f : false ≡ true = is h ∙ eq-eqb h h refl in cc)
next_found (l ∷ ls) x zero is = rw (is 0) refl
next_found (l ∷ ls) x (suc h) is = let f : is_in x l ≡ false = is 0 ∙ ne_eqb (suc h) 0 (λ e. absurd (omega arith)) in rw f (next_found ls x h (λ k. is (suc k) ∙ one_less h k))

next_none : (lists : List (List ℕ)) (x : ℕ) → ((k : ℕ) → is_in x (list_of lists k) ≡ false) → next_in lists x ≡ None
next_none [] x is = refl
next_none (l ∷ ls) x is = rw (is 0) (next_none ls x (λ k. is (suc k)))

others : (x : ℕ) (xs : List ℕ) → is_in x xs ≡ false → AllByRecursion (λ u. eqb x u ≡ false) xs
others x [] out = tt
others x (y ∷ ys) out = let a = or_parts (eqb x y) (is_in x ys) out in (a.0, others x ys a.1)

distinct : (xs : List ℕ) → StandsOnce xs → IsDistinct eqb xs
unfolding IsDistinct
distinct [] once = tt
distinct (x ∷ xs) once = (others x xs once.0, distinct xs once.1)

pub has_list : (lists : List (List ℕ)) (x h : ℕ) → is_in x (list_of lists h) ≡ true → h < length lists
has_list lists x h at =
    elim (cases_lt h (length lists)) [
      | inl low ↦ low
      | inr past ↦ absurd (let f : is_in x [] ≡ true = subst (λ ns. is_in x ns ≡ true) (get_or_past lists h [] past) at in let g : false ≡ true = f in cc)
    ]

module _ (nodes : ℕ) (lists : List (List ℕ)) (next previous : List ℕ) (homes : List (Option ℕ)) (are : AreLinked nodes lists next previous homes) where
  pub in_ring : (x h : ℕ) → home_at homes x ≡ Some h → is_in x (ring nodes lists h) ≡ true
  in_ring x h e = are.stands x h (are.heads x h e) ∙ ap (λ o. is_for o h) e ∙ eq-eqb h h refl

  pub home_is : (x h : ℕ) → h < length lists → is_in x (ring nodes lists h) ≡ true → home_at homes x ≡ Some h
  home_is x h low at = for_is (home_at homes x) h (sym (are.stands x h low) ∙ at)

  pub end_home : (h : ℕ) → h < length lists → home_at homes (nodes + h) ≡ Some h
  end_home h low = home_is (nodes + h) h low (grind (arith, nat_tests))

  pub within : (x h : ℕ) → home_at homes x ≡ Some h → x < length next
  within x h e =
      elim (cases_lt x (length next)) [
        | inl low ↦ low
        | inr past ↦ absurd (let f : None ≡ Some h = sym (get_or_past homes x None (omega (arith, are.same))) ∙ e in cc)
      ]

  pub node_home : (x h : ℕ) → is_in x (list_of lists h) ≡ true → home_at homes x ≡ Some h
  node_home x h at = home_is x h (has_list lists x h at) (or_right (eqb x (nodes + h)) (is_in x (list_of lists h)) at)

  -- no end stands in a list
  pub below : (h x : ℕ) → is_in x (list_of lists h) ≡ true → x < nodes
  below h x at =
      elim (cases_lt x nodes) [
        | inl low ↦ low
        | inr past ↦
            (let home = node_home x h at in
            let place = within x h home in
            let low : x - nodes < length lists = omega (arith, are.places) in
            let is : nodes + (x - nodes) ≡ x = omega arith in
            let own : home_at homes x ≡ Some (x - nodes) = subst (λ y. home_at homes y ≡ Some (x - nodes)) is (end_home (x - nodes) low) in
            let same : h ≡ x - nodes = (let f : Some h ≡ Some (x - nodes) = sym home ∙ own in cc) in
            let end : x ≡ nodes + h = omega arith in
            let out : is_in x (list_of lists h) ≡ false = subst (λ y. is_in y (list_of lists h) ≡ false) (sym end) (are.once h (has_list lists x h at)).0 in
            absurd (let f : true ≡ false = sym at ∙ out in cc))
      ]

  pub apart_of : AreApart (record { nodes = nodes; lists = lists })
  apart_of = record {
    once = λ h. elim (cases_lt h (length lists)) [
      | inl low ↦ (are.once h low).1
      | inr past ↦ subst StandsOnce (sym (get_or_past lists h [] past)) tt
    ];
    one = λ g h x at there. (let f : Some g ≡ Some h = sym (node_home x g at) ∙ node_home x h there in cc);
    below = below;
  }

  pub fits : (h : ℕ) → length (list_of lists h) ≤ nodes
  fits h = length-le_from_distinct_below (list_of lists h) nodes (distinct (list_of lists h) (apart_of.once h)) (below h)

  -- in which list a node stands
  pub stands_in : (x h : ℕ) → x < nodes → is_in x (list_of lists h) ≡ is_for (home_at homes x) h
  stands_in x h low =
      elim (cases_lt h (length lists)) [
        | inl there ↦ ap (λ b. b || is_in x (list_of lists h)) (sym (ne_eqb x (nodes + h) (λ e. absurd (omega arith)))) ∙ are.stands x h there
        | inr past ↦
            ap (is_in x) (get_or_past lists h [] past)
            ∙ sym (not_for (home_at homes x) h (λ e. absurd (let l = are.heads x h e in omega arith)))
      ]

  pub head_is : (x : ℕ) → x < nodes → head_in lists x ≡ home_at homes x
  head_is x low = find lists x (home_at homes x) (λ h. stands_in x h low)

  pub next_is : (x h : ℕ) → x < nodes → home_at homes x ≡ Some h → (if nat_lt (kept_at next x) nodes then Some (kept_at next x) else None) ≡ next_in lists x
  next_is x h low home =
      ap (λ y. if nat_lt y nodes then Some y else None) (are.after x h home)
      ∙ next_node (nodes + h) (nodes + h) x nodes (list_of lists h) (omega arith) (λ e. absurd (omega arith)) (below h)
      ∙ sym (next_found lists x h (λ k. stands_in x k low ∙ ap (λ o. is_for o k) home))

  pub next_is_none : (x : ℕ) → x < nodes → home_at homes x ≡ None → None ≡ next_in lists x
  next_is_none x low home = sym (next_none lists x (λ k. stands_in x k low ∙ ap (λ o. is_for o k) home))

  pub first_is : (h : ℕ) → h < length lists → (if nat_lt (kept_at next (nodes + h)) nodes then Some (kept_at next (nodes + h)) else None) ≡ first_of (list_of lists h)
  first_is h low =
      ap (λ y. if nat_lt y nodes then Some y else None) (are.after (nodes + h) h (end_home h low))
      ∙ first_node (nodes + h) (nodes + h) nodes (list_of lists h) (omega arith) (below h)

  pub shown_is : (heads : ℕ) → length lists ≡ heads → shown nodes heads next ≡ record { nodes = nodes; lists = lists }
  unfolding shown
  shown_is heads count =
      ap (λ ls. record { nodes = nodes; lists = ls }) (sym (fill_by_all (λ h. walked next nodes nodes (nodes + h)) lists heads [] count
      (λ h low. sym (walk_is next nodes nodes (nodes + h) (nodes + h) (list_of lists h) (omega arith) (below h) (fits h) (are.once h (omega arith))
      (λ x at. are.after x h (home_is x h (omega arith) at))))))

  pub before_home : (a h : ℕ) → home_at homes a ≡ Some h → home_at homes (kept_at previous a) ≡ Some h
  before_home a h at =
      home_is (kept_at previous a) h (are.heads a h at)
      (subst (λ p. is_in p (ring nodes lists h) ≡ true) (sym (are.before a h at)) (ahead_in (nodes + h) (nodes + h) a (list_of lists h)))

  pub after_home : (a h : ℕ) → home_at homes a ≡ Some h → home_at homes (kept_at next a) ≡ Some h
  after_home a h at =
      home_is (kept_at next a) h (are.heads a h at)
      (subst (λ p. is_in p (ring nodes lists h) ≡ true) (sym (are.after a h at)) (behind_in (nodes + h) (nodes + h) a (list_of lists h)))

  -- a node that stood in no ring is put before a place
  module _ (m a h : ℕ) (free : home_at homes m ≡ None) (low : m < nodes) (at : home_at homes a ≡ Some h)
      (lists' : List (List ℕ)) (count : length lists' ≡ length lists) (here : list_of lists' h ≡ placed m a (list_of lists h))
      (there : (k : ℕ) → k ≢ h → list_of lists' k ≡ list_of lists k) where
    abbrev p : ℕ
    p = kept_at previous a

    abbrev next' : List ℕ
    next' = set (set next p m) m a

    abbrev previous' : List ℕ
    previous' = set (set previous a m) m p

    abbrev homes' : List (Option ℕ)
    homes' = set homes m (home_at homes a)

    new_home : (x : ℕ) → home_at homes' x ≡ (if x == m then Some h else home_at homes x)
    new_home x = read_set homes m (home_at homes a) None x (omega (arith, are.same, are.places)) ∙ ap (λ o. if x == m then o else home_at homes x) at

    new_next : (x : ℕ) → kept_at next' x ≡ (if x == m then a else (if x == p then m else kept_at next x))
    new_next x =
        read_set (set next p m) m a 0 x (omega (arith, length-set next p m, are.places))
        ∙ ap (λ y. if x == m then a else y) (read_set next p m 0 x (within p h (before_home a h at)))

    new_previous : (x : ℕ) → kept_at previous' x ≡ (if x == m then p else (if x == a then m else kept_at previous x))
    new_previous x =
        let place = within a h at in
        read_set (set previous a m) m p 0 x (omega (arith, length-set previous a m, are.places, are.same))
        ∙ ap (λ y. if x == m then p else y) (read_set previous a m 0 x (omega (arith, are.same)))

    not_in : (k : ℕ) → k < length lists → is_in m (ring nodes lists k) ≡ false
    not_in k l = are.stands m k l ∙ ap (λ o. is_for o k) free

    same_head : (k : ℕ) → Some h ≡ Some k → k ≡ h
    same_head k e = cc

    home_of_m : (x : ℕ) → x ≡ m → home_at homes' x ≡ Some h
    home_of_m x e = new_home x ∙ if_same x m (Some h) (home_at homes x) e

    home_of_other : (x : ℕ) → x ≢ m → home_at homes' x ≡ home_at homes x
    home_of_other x e = new_home x ∙ if_other x m (Some h) (home_at homes x) e

    here_stands : (x : ℕ) → is_in x (ring nodes lists' h) ≡ is_for (home_at homes' x) h
    here_stands x =
        let old = are.stands x h (are.heads a h at) in
        let placed_in : is_in x (list_of lists' h) ≡ (x == m) || is_in x (list_of lists h) = ap (is_in x) here ∙ in_placed x m a (list_of lists h) in
        elim (cases_eq x m) [
          | inl same ↦
              (let is = eq-eqb x m same in
              let new : is_in x (ring nodes lists' h) ≡ true = ap (λ b. (x == nodes + h) || b) placed_in ∙ grind (arith, nat_tests) in
              new ∙ sym (ap (λ o. is_for o h) (home_of_m x same) ∙ eq-eqb h h refl))
          | inr other ↦
              (let un = ne_eqb x m other in
              let stays : is_in x (ring nodes lists' h) ≡ is_in x (ring nodes lists h) = ap (λ b. (x == nodes + h) || b) placed_in ∙ grind (arith, nat_tests) in
              stays ∙ old ∙ sym (ap (λ o. is_for o h) (home_of_other x other)))
        ]

    there_stands : (x k : ℕ) → k < length lists → k ≢ h → is_in x (ring nodes lists' k) ≡ is_for (home_at homes' x) k
    there_stands x k l ne =
        let old = are.stands x k l in
        let stays : is_in x (ring nodes lists' k) ≡ is_in x (ring nodes lists k) = ap (λ ns. (x == nodes + k) || is_in x ns) (there k ne) in
        elim (cases_eq x m) [
          | inl same ↦
              (let out : is_in x (ring nodes lists k) ≡ false = subst (λ y. is_in y (ring nodes lists k) ≡ false) (sym same) (not_in k l) in
              stays ∙ out ∙ sym (ap (λ o. is_for o k) (home_of_m x same) ∙ ne_eqb h k (λ e. ne (sym e))))
          | inr other ↦ stays ∙ old ∙ sym (ap (λ o. is_for o k) (home_of_other x other))
        ]

    moved_home : (x k : ℕ) → x ≢ m → home_at homes' x ≡ Some k → home_at homes x ≡ Some k
    moved_home x k ne e = sym (home_of_other x ne) ∙ e

    own_home : (x k : ℕ) → x ≡ m → home_at homes' x ≡ Some k → k ≡ h
    own_home x k is e = same_head k (sym (home_of_m x is) ∙ e)

    apart : (x y k : ℕ) → home_at homes x ≡ Some k → home_at homes y ≡ Some h → k ≢ h → x ≢ y
    apart x y k e f ne same = ne (same_head k (sym f ∙ ap (home_at homes) (sym same) ∙ e))

    placed_ring : StandsOnce (ring nodes lists h)
    placed_ring = are.once h (are.heads a h at)

    here_after : (x : ℕ) → (x ≢ m → home_at homes x ≡ Some h) → kept_at next' x ≡ place_after (nodes + h) (nodes + h) x (list_of lists' h)
    here_after x home =
        let placed_behind = ap (place_after (nodes + h) (nodes + h) x) here ∙ behind_placed (nodes + h) (nodes + h) x m a (list_of lists h) placed_ring (not_in h (are.heads a h at)) in
        let old_before = are.before a h at in
        let a_in = in_ring a h at in
        let reads = new_next x in
        elim (cases_eq x m) [
          | inl same ↦
              (let is = eq-eqb x m same in
              grind (arith, nat_tests))
          | inr other ↦
              (let un = ne_eqb x m other in
              let old_after = are.after x h (home other) in
              grind (arith, nat_tests))
        ]

    here_before : (x : ℕ) → (x ≢ m → home_at homes x ≡ Some h) → kept_at previous' x ≡ place_before (nodes + h) (nodes + h) x (list_of lists' h)
    here_before x home =
        let reads = new_previous x in
        let in_it : is_in x ((nodes + h) ∷ list_of lists h) || x == m ≡ true = (
        elim (cases_eq x m) [
          | inl same ↦ or_right (is_in x (ring nodes lists h)) (x == m) (eq-eqb x m same)
          | inr other ↦ (let there = in_ring x h (home other) in grind (arith, nat_tests))
        ]) in
        let placed_ahead = ap (place_before (nodes + h) (nodes + h) x) here ∙ ahead_placed (nodes + h) (nodes + h) x m a (list_of lists h) placed_ring (not_in h (are.heads a h at)) placed_ring.0 (in_ring a h at) in_it (λ e. absurd (omega arith)) in
        let a_before = are.before a h at in
        elim (cases_eq x m) [
          | inl same ↦
              (let is = eq-eqb x m same in
              grind (arith, nat_tests))
          | inr other ↦
              (let un = ne_eqb x m other in
              let old_before = are.before x h (home other) in
              grind (arith, nat_tests))
        ]

    there_after : (x k : ℕ) → k ≢ h → x ≢ m → home_at homes x ≡ Some k → kept_at next' x ≡ place_after (nodes + k) (nodes + k) x (list_of lists' k)
    there_after x k ne other home =
        new_next x
        ∙ if_other x m a (if x == p then m else kept_at next x) other
        ∙ if_other x p m (kept_at next x) (apart x p k home (before_home a h at) ne)
        ∙ are.after x k home
        ∙ sym (ap (place_after (nodes + k) (nodes + k) x) (there k ne))

    there_before : (x k : ℕ) → k ≢ h → x ≢ m → home_at homes x ≡ Some k → kept_at previous' x ≡ place_before (nodes + k) (nodes + k) x (list_of lists' k)
    there_before x k ne other home =
        new_previous x
        ∙ if_other x m p (if x == a then m else kept_at previous x) other
        ∙ if_other x a m (kept_at previous x) (apart x a k home at ne)
        ∙ are.before x k home
        ∙ sym (ap (place_before (nodes + k) (nodes + k) x) (there k ne))

    new_once : (k : ℕ) → k < length lists → StandsOnce (ring nodes lists' k)
    new_once k l =
        elim (cases_eq k h) [
          | inl same ↦ subst (λ j. StandsOnce (ring nodes lists' j)) (sym same) (
            (ap (is_in (nodes + h)) here ∙ in_placed (nodes + h) m a (list_of lists h) ∙ rw (ne_eqb (nodes + h) m (λ e. absurd (omega arith))) placed_ring.0),
            subst StandsOnce (sym here) (once_placed m a (list_of lists h) placed_ring.1 (or_parts (eqb m (nodes + h)) (is_in m (list_of lists h)) (not_in h (are.heads a h at))).1),
          )
          | inr other ↦ subst (λ ns. StandsOnce ((nodes + k) ∷ ns)) (sym (there k other)) (are.once k l)
        ]

    pub linked : AreLinked nodes lists' next' previous' homes'
    linked = record {
      places = omega (arith, are.places, count, length-set (set next p m) m a, length-set next p m);
      same = (omega (arith, are.same, length-set (set next p m) m a, length-set next p m, length-set (set previous a m) m p, length-set previous a m), omega (arith, are.same, length-set (set next p m) m a, length-set next p m, length-set homes m (home_at homes a)));
      small = omega (arith, are.small, length-set (set next p m) m a, length-set next p m);
      heads = λ x k e. elim (cases_eq x m) as (λ _. k < length lists') [
        | inl same ↦ (let is = own_home x k same e in let l = are.heads a h at in omega (arith, count))
        | inr other ↦ (let l = are.heads x k (moved_home x k other e) in omega (arith, count))
      ];
      stands = λ x k l. elim (cases_eq k h) [
        | inl same ↦ subst (λ j. is_in x (ring nodes lists' j) ≡ is_for (home_at homes' x) j) (sym same) (here_stands x)
        | inr other ↦ there_stands x k (omega (arith, count)) other
      ];
      once = λ k l. new_once k (omega (arith, count));
      after = λ x k e. elim (cases_eq x m) [
        | inl same ↦ subst (λ j. kept_at next' x ≡ place_after (nodes + j) (nodes + j) x (list_of lists' j)) (sym (own_home x k same e)) (here_after x (λ ne. absurd (ne same)))
        | inr other ↦ elim (cases_eq k h) [
          | inl is ↦ subst (λ j. kept_at next' x ≡ place_after (nodes + j) (nodes + j) x (list_of lists' j)) (sym is) (here_after x (λ ne. subst (λ j. home_at homes x ≡ Some j) is (moved_home x k other e)))
          | inr un ↦ there_after x k un other (moved_home x k other e)
        ]
      ];
      before = λ x k e. elim (cases_eq x m) [
        | inl same ↦ subst (λ j. kept_at previous' x ≡ place_before (nodes + j) (nodes + j) x (list_of lists' j)) (sym (own_home x k same e)) (here_before x (λ ne. absurd (ne same)))
        | inr other ↦ elim (cases_eq k h) [
          | inl is ↦ subst (λ j. kept_at previous' x ≡ place_before (nodes + j) (nodes + j) x (list_of lists' j)) (sym is) (here_before x (λ ne. subst (λ j. home_at homes x ≡ Some j) is (moved_home x k other e)))
          | inr un ↦ there_before x k un other (moved_home x k other e)
        ]
      ];
    }
