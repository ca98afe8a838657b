-- The stacks after a node moved from one list to the front of another.
use Rattle.std.proofs.Common.{◌≡◌, ◌≢◌, ◌∙◌, refl, sym, ap, subst, arith, inl, inr, ℕ, ◌+◌, ◌-◌, ◌*◌, ◌/◌, ◌<◌, ◌≤◌, ◌==◌, if◌then◌else◌, min, true, false, List, [], ◌∷◌, ◌++◌, Option, Some, None, IfSome, length, suc, zero, set, drop, replicate, get_or, length-set, length-append, get_or-set_same, get_or-set_other}
use Rattle.std.proofs.lemmas.Bool.{eq-eqb, ne_eqb, cases_eq, cases_lt, cases_Bool, lt-ltb, le-ltb}
use Rattle.std.proofs.lemmas.List.{length-replicate, get_or-replicate}
use Rattle.thread_base.specs.Maps.{put}
use Rattle.thread_base.specs.Orders.{is_in, without}
use Rattle.thread_base.proofs.MapLemmas.{put_is}
use Rattle.thread_base.proofs.OrderLemmas.{not_in-without, without_absent, is_in-push}
use Rattle.link_arena.specs.Chains.{NodeLists, AreApart, StandsOnce, list_of, head_in, first_of, pushed, inserted, unlinked, with_before}
use Rattle.link_arena.specs.Stacking.{moved, rest_of, stack_at, AreStacks}
use Rattle.link_arena.proofs.RingLemmas.{none_before}
use Rattle.link_arena.proofs.ListLemmas.{no_nodes, list_pushed, list_unlinked, list_inserted, has_none, first_is_in}

pub shape : (ns : List ℕ) (n : ℕ) → first_of ns ≡ Some n → ns ≡ n ∷ rest_of ns
shape [] n e = absurd (let f : None ≡ Some n = e in cc)
shape (m ∷ ms) n e = let same : m ≡ n = (let f : Some m ≡ Some n = e in cc) in ap (λ k. k ∷ ms) same

-- a node before the first of a list is in front of it
pub front_lists : (links : NodeLists) (head node at h : ℕ) → AreApart links → first_of (list_of links.lists head) ≡ Some at
    → list_of (inserted node at links).lists h ≡ (if h == head then node ∷ list_of links.lists head else list_of links.lists h)
front_lists links head node at h apart first =
    list_inserted links.lists node at h
    ∙ (elim (cases_eq h head) [
      | inl same ↦ rw (eq-eqb h head same) (ap (λ k. with_before node at (list_of links.lists k)) same ∙ before (list_of links.lists head) (shape (list_of links.lists head) at first))
      | inr other ↦ rw (ne_eqb h head other) (none_before node at (list_of links.lists h) (out other))
    ])
  where
    before : (ns : List ℕ) → ns ≡ at ∷ rest_of ns → with_before node at ns ≡ node ∷ ns
    before ns e = ap (with_before node at) e ∙ (rw (eq-eqb at at refl) refl) ∙ ap (λ ms. node ∷ ms) (sym e)

    out : h ≢ head → is_in at (list_of links.lists h) ≡ false
    out other =
        elim (cases_Bool (is_in at (list_of links.lists h))) [
          | inl there ↦ absurd (other (apart.one h head at there (first_is_in (list_of links.lists head) at first)))
          | inr absent ↦ absent
        ]

-- a list that lost its first node, beside the others
pub left_lists : (links : NodeLists) (from node h : ℕ) → AreApart links → first_of (list_of links.lists from) ≡ Some node
    → list_of (unlinked node links).lists h ≡ (if h == from then rest_of (list_of links.lists from) else list_of links.lists h)
left_lists links from node h apart first =
    list_unlinked links.lists node h
    ∙ (elim (cases_eq h from) [
      | inl same ↦ rw (eq-eqb h from same) (ap (λ k. without node (list_of links.lists k)) same ∙ after (list_of links.lists from) (shape (list_of links.lists from) node first) (apart.once from))
      | inr other ↦ rw (ne_eqb h from other) (without_absent node (list_of links.lists h) (out other))
    ])
  where
    after : (ns : List ℕ) → ns ≡ node ∷ rest_of ns → StandsOnce ns → without node ns ≡ rest_of ns
    after ns e once =
        let once' : StandsOnce (node ∷ rest_of ns) = subst StandsOnce e once in
        ap (without node) e ∙ (rw (eq-eqb node node refl) (without_absent node (rest_of ns) once'.0))

    out : h ≢ from → is_in node (list_of links.lists h) ≡ false
    out other =
        elim (cases_Bool (is_in node (list_of links.lists h))) [
          | inl there ↦ absurd (other (apart.one h from node there (first_is_in (list_of links.lists from) node first)))
          | inr absent ↦ absent
        ]

-- both together
pub both_lists : (links : NodeLists) (lists'' : List (List ℕ)) (from to node : ℕ) → from ≢ to → AreApart links → first_of (list_of links.lists from) ≡ Some node
    → ((h : ℕ) → list_of lists'' h ≡ (if h == to then node ∷ list_of (unlinked node links).lists to else list_of (unlinked node links).lists h))
    → (h : ℕ) → list_of lists'' h ≡ moved links.lists from to node h
both_lists links lists'' from to node two apart first puts h =
    let other : (if to == from then rest_of (list_of links.lists from) else list_of links.lists to) ≡ list_of links.lists to = rw (ne_eqb to from (λ e. two (sym e))) refl in
    let back = left_lists links from node to apart first ∙ other in
    puts h ∙ (λ i. if h == to then node ∷ back i else left_lists links from node h apart first i)

pub unlinked_free : (links : NodeLists) (node : ℕ) → head_in (unlinked node links).lists node ≡ None
unlinked_free links node = has_none (unlinked node links).lists node (λ h. ap (is_in node) (list_unlinked links.lists node h) ∙ not_in-without node (list_of links.lists h))

module _ (lists lists' : List (List ℕ)) (from to n : ℕ) (two : from ≢ to) (moves : (h : ℕ) → list_of lists' h ≡ moved lists from to n h) where
  at_to : list_of lists' to ≡ n ∷ list_of lists to
  at_to = moves to ∙ (rw (eq-eqb to to refl) refl)

  at_from : list_of lists' from ≡ rest_of (list_of lists from)
  at_from = moves from ∙ (rw (ne_eqb from to two) (rw (eq-eqb from from refl) refl))

  at_other : (h : ℕ) → h ≢ to → h ≢ from → list_of lists' h ≡ list_of lists h
  at_other h a b = moves h ∙ (rw (ne_eqb h to a) (rw (ne_eqb h from b) refl))

stack_in : (lists : List (List ℕ)) (t : ℕ) → t < 65 → stack_at lists t ≡ list_of lists t
unfolding stack_at
stack_in lists t low = rw (lt-ltb t 65 low) refl

stack_out : (lists : List (List ℕ)) (t : ℕ) → 65 ≤ t → stack_at lists t ≡ []
unfolding stack_at
stack_out lists t high = rw (le-ltb t 65 high) refl

pub stack_is : (lists : List (List ℕ)) (t : ℕ) → t ≤ 64 → stack_at lists t ≡ list_of lists t
stack_is lists t low = stack_in lists t (omega arith)

-- one stack changed
stacks_put : (lists lists' : List (List ℕ)) (t : ℕ) (ns : List ℕ) → t ≤ 64 → list_of lists' t ≡ ns → ((u : ℕ) → u ≤ 64 → u ≢ t → list_of lists' u ≡ list_of lists u) → stack_at lists' ≡ put (stack_at lists) t ns
stacks_put lists lists' t ns low here there =
    put_is (stack_at lists) (stack_at lists') t ns (stack_is lists' t low ∙ here)
    (λ u ne. elim (cases_lt u 65) [
      | inl in_range ↦ stack_is lists' u (omega arith) ∙ there u (omega arith) ne ∙ sym (stack_is lists u (omega arith))
      | inr past ↦ stack_out lists' u past ∙ sym (stack_out lists u past)
    ])

module _ (links : NodeLists) (depths : List ℕ) (are : AreStacks links depths) (t : ℕ) (low : 1 ≤ t) (high : t ≤ 64) (links' : NodeLists) (n : ℕ) (same : (links'.nodes ≡ links.nodes) × (length links'.lists ≡ length links.lists)) (apart : AreApart links') where
  depth_was : get_or depths t 0 ≡ length (list_of links.lists t)
  depth_was = are.counted t high

  -- a free node comes on top
  module _ (first : first_of (list_of links.lists (64 + t)) ≡ Some n) (moves : (h : ℕ) → list_of links'.lists h ≡ moved links.lists (64 + t) t n h) where
    abbrev two : 64 + t ≢ t
    two = λ e. omega arith

    pub push_stacks : stack_at links'.lists ≡ put (stack_at links.lists) t (n ∷ stack_at links.lists t)
    push_stacks =
        stacks_put links.lists links'.lists t (n ∷ stack_at links.lists t) high
        (at_to links.lists links'.lists (64 + t) t n two moves ∙ ap (λ ns. n ∷ ns) (sym (stack_is links.lists t high)))
        (λ u in_range ne. at_other links.lists links'.lists (64 + t) t n two moves u ne (λ e. absurd (omega arith)))

    pub push_are : AreStacks links' (set depths t (get_or depths t 0 + 1))
    push_are = record {
      nodes = same.0 ∙ are.nodes;
      count = same.1 ∙ are.count;
      apart = apart;
      nobody = at_other links.lists links'.lists (64 + t) t n two moves 0 (λ e. absurd (omega arith)) (λ e. absurd (omega arith)) ∙ are.nobody;
      rooms = λ u a b. elim (cases_eq u t) [
        | inl is ↦
            (let whole = ap length (shape (list_of links.lists (64 + t)) n first) in
            let was = are.rooms t low high in
            let upper = ap length (at_to links.lists links'.lists (64 + t) t n two moves) in
            let lower = ap length (at_from links.lists links'.lists (64 + t) t n two moves) in
            subst (λ v. length (list_of links'.lists v) + length (list_of links'.lists (64 + v)) ≡ 32) (sym is) (omega arith))
        | inr other ↦
            (let upper = ap length (at_other links.lists links'.lists (64 + t) t n two moves u other (λ e. absurd (omega arith))) in
            let lower = ap length (at_other links.lists links'.lists (64 + t) t n two moves (64 + u) (λ e. absurd (omega arith)) (λ e. other (omega arith))) in
            let was = are.rooms u a b in
            omega arith)
      ];
      places = length-set depths t (get_or depths t 0 + 1) ∙ are.places;
      counted = λ u b. elim (cases_eq u t) [
        | inl is ↦
            (let upper = ap length (at_to links.lists links'.lists (64 + t) t n two moves) in
            let put_here = get_or-set_same depths t (get_or depths t 0 + 1) 0 (omega (arith, are.places)) in
            subst (λ v. get_or (set depths t (get_or depths t 0 + 1)) v 0 ≡ length (list_of links'.lists v)) (sym is) (omega (arith, depth_was)))
        | inr other ↦ get_or-set_other depths t u (get_or depths t 0 + 1) 0 other ∙ are.counted u b ∙ sym (ap length (at_other links.lists links'.lists (64 + t) t n two moves u other (λ e. absurd (omega arith))))
      ];
    }

    pub push_room : length (stack_at links.lists t) < 32
    push_room =
        let whole = ap length (shape (list_of links.lists (64 + t)) n first) in
        let was = are.rooms t low high in
        let is = ap length (stack_is links.lists t high) in
        omega arith

    pub push_fresh : (n < 2048) × ((u : ℕ) → is_in n (stack_at links.lists u) ≡ false)
    push_fresh = (omega (arith, are.nodes, are.apart.below (64 + t) n there), out)
      where
        there : is_in n (list_of links.lists (64 + t)) ≡ true
        there = first_is_in (list_of links.lists (64 + t)) n first

        out : (u : ℕ) → is_in n (stack_at links.lists u) ≡ false
        out u =
            elim (cases_lt u 65) [
              | inl in_range ↦
                  elim (cases_Bool (is_in n (stack_at links.lists u))) [
                    | inl here ↦ absurd (let e = are.apart.one u (64 + t) n (sym (ap (is_in n) (stack_in links.lists u in_range)) ∙ here) there in omega arith)
                    | inr absent ↦ absent
                  ]
              | inr past ↦ ap (is_in n) (stack_out links.lists u past)
            ]

  -- the top goes, and is free
  module _ (first : first_of (list_of links.lists t) ≡ Some n) (moves : (h : ℕ) → list_of links'.lists h ≡ moved links.lists t (64 + t) n h) where
    abbrev apart_two : t ≢ 64 + t
    apart_two = λ e. omega arith

    pub pop_stacks : stack_at links'.lists ≡ put (stack_at links.lists) t (rest_of (stack_at links.lists t))
    pop_stacks =
        stacks_put links.lists links'.lists t (rest_of (stack_at links.lists t)) high
        (at_from links.lists links'.lists t (64 + t) n apart_two moves ∙ ap rest_of (sym (stack_is links.lists t high)))
        (λ u in_range ne. at_other links.lists links'.lists t (64 + t) n apart_two moves u (λ e. absurd (omega arith)) ne)

    pub pop_are : AreStacks links' (set depths t (get_or depths t 0 - 1))
    pop_are = record {
      nodes = same.0 ∙ are.nodes;
      count = same.1 ∙ are.count;
      apart = apart;
      nobody = at_other links.lists links'.lists t (64 + t) n apart_two moves 0 (λ e. absurd (omega arith)) (λ e. absurd (omega arith)) ∙ are.nobody;
      rooms = λ u a b. elim (cases_eq u t) [
        | inl is ↦
            (let whole = ap length (shape (list_of links.lists t) n first) in
            let was = are.rooms t low high in
            let lower = ap length (at_to links.lists links'.lists t (64 + t) n apart_two moves) in
            let upper = ap length (at_from links.lists links'.lists t (64 + t) n apart_two moves) in
            subst (λ v. length (list_of links'.lists v) + length (list_of links'.lists (64 + v)) ≡ 32) (sym is) (omega arith))
        | inr other ↦
            (let upper = ap length (at_other links.lists links'.lists t (64 + t) n apart_two moves u (λ e. absurd (omega arith)) other) in
            let lower = ap length (at_other links.lists links'.lists t (64 + t) n apart_two moves (64 + u) (λ e. other (omega arith)) (λ e. absurd (omega arith))) in
            let was = are.rooms u a b in
            omega arith)
      ];
      places = length-set depths t (get_or depths t 0 - 1) ∙ are.places;
      counted = λ u b. elim (cases_eq u t) [
        | inl is ↦
            (let whole = ap length (shape (list_of links.lists t) n first) in
            let upper = ap length (at_from links.lists links'.lists t (64 + t) n apart_two moves) in
            let put_here = get_or-set_same depths t (get_or depths t 0 - 1) 0 (omega (arith, are.places)) in
            subst (λ v. get_or (set depths t (get_or depths t 0 - 1)) v 0 ≡ length (list_of links'.lists v)) (sym is) (omega (arith, depth_was)))
        | inr other ↦ get_or-set_other depths t u (get_or depths t 0 - 1) 0 other ∙ are.counted u b ∙ sym (ap length (at_other links.lists links'.lists t (64 + t) n apart_two moves u (λ e. absurd (omega arith)) other))
      ];
    }

rest_suc : (k : ℕ) (ns : List ℕ) → rest_of (drop k ns) ≡ drop (suc k) ns
rest_suc zero [] = refl
rest_suc zero (n ∷ ns) = drop_zero ns
  where
    drop_zero : (ms : List ℕ) → ms ≡ drop 0 ms
    drop_zero [] = refl
    drop_zero (m ∷ ms) = refl
rest_suc (suc k) [] = refl
rest_suc (suc k) (n ∷ ns) = rest_suc k ns

pub rest_drop : (k : ℕ) (ns : List ℕ) → rest_of (drop k ns) ≡ drop (k + 1) ns
rest_drop k ns = let next : suc k ≡ k + 1 = omega arith in rest_suc k ns ∙ ap (λ j. drop j ns) next

pub empty_rest : (ns : List ℕ) → first_of ns ≡ None → rest_of ns ≡ ns
empty_rest [] e = refl
empty_rest (n ∷ ns) e = absurd (let f : Some n ≡ None = e in cc)

-- a thread with no free node has 32 on its stack
pub is_full : (links : NodeLists) (depths : List ℕ) → AreStacks links depths → (t : ℕ) → 1 ≤ t → t ≤ 64 → first_of (list_of links.lists (64 + t)) ≡ None → length (stack_at links.lists t) ≡ 32
is_full links depths are t low high none =
    let rooms = are.rooms t low high in
    let is = ap length (stack_is links.lists t high) in
    let empty = nothing (list_of links.lists (64 + t)) none in
    omega arith
  where
    nothing : (ns : List ℕ) → first_of ns ≡ None → length ns ≡ 0
    nothing [] e = refl
    nothing (n ∷ ns) e = absurd (let f : Some n ≡ None = e in cc)

pub in_stacks : (links : NodeLists) (depths : List ℕ) → AreStacks links depths → (t : ℕ) (o : Option ℕ) → o ≡ first_of (list_of links.lists t) → IfSome o (λ n. n < 2048)
in_stacks links depths are t None e = tt
in_stacks links depths are t (Some n) e = let b = are.apart.below t n (first_is_in (list_of links.lists t) n (sym e)) in omega (arith, are.nodes)

-- while each thread gets its nodes one after another, thread by thread
pub record Fills (links : NodeLists) (given : ℕ) : Type 0 where
  pub nodes : links.nodes ≡ 2048
  pub count : length links.lists ≡ 129
  pub apart : AreApart links
  pub empty : (t : ℕ) → t ≤ 64 → list_of links.lists t ≡ []
  pub filled : (t : ℕ) → 1 ≤ t → t ≤ 64 → length (list_of links.lists (64 + t)) ≡ min 32 (given - 32 * (t - 1))
  pub below : (h n : ℕ) → is_in n (list_of links.lists h) ≡ true → n < given

pub fills_first : (links : NodeLists) → links ≡ record { nodes = 2048; lists = replicate 129 [] } → Fills links 0
fills_first links e = record {
  nodes = ap (λ l. l.nodes) e;
  count = ap (λ l. length l.lists) e ∙ length-replicate {A = List ℕ} 129 [];
  apart = record {
    once = λ h. subst StandsOnce (sym (none h)) tt;
    one = λ g h n is also. absurd (nothing g n is);
    below = λ h n is. absurd (nothing h n is);
  };
  empty = λ t low. none t;
  filled = λ t low high. let l = ap length (none (64 + t)) in omega arith;
  below = λ h n is. absurd (nothing h n is);
}
  where
    none : (h : ℕ) → list_of links.lists h ≡ []
    none h = ap (λ l. list_of l.lists h) e ∙ no_nodes 129 h

    nothing : (h n : ℕ) → is_in n (list_of links.lists h) ≡ true → ⊥
    nothing h n is = let f : is_in n [] ≡ true = subst (λ ns. is_in n ns ≡ true) (none h) is in let g : false ≡ true = f in cc

pub fills_free : (links : NodeLists) (given : ℕ) → Fills links given → head_in links.lists given ≡ None
fills_free links given are = has_none links.lists given (λ h. elim (cases_Bool (is_in given (list_of links.lists h))) [
  | inl there ↦ absurd (let b = are.below h given there in omega arith)
  | inr absent ↦ absent
])

pub fills_more : (links : NodeLists) (given : ℕ) → Fills links given → given < 2048 → AreApart (pushed (65 + given / 32) given links) → Fills (pushed (65 + given / 32) given links) (given + 1)
fills_more links given are low apart = record {
  nodes = are.nodes;
  count = length-set links.lists (65 + given / 32) (list_of links.lists (65 + given / 32) ++ given ∷ []) ∙ are.count;
  apart = apart;
  empty = λ t high. other t (λ e. absurd (omega arith)) ∙ are.empty t high;
  filled = λ t a b. elim (cases_eq (64 + t) (65 + given / 32)) [
    | inl same ↦
        (let was = are.filled t a b in
        let now : length (list_of (pushed (65 + given / 32) given links).lists (64 + t)) ≡ length (list_of links.lists (64 + t)) + 1 =
        ap (λ h. length (list_of (pushed (65 + given / 32) given links).lists h)) same ∙ ap length this ∙ length-append (list_of links.lists (65 + given / 32)) (given ∷ []) ∙ ap (λ h. length (list_of links.lists h) + 1) (sym same) in
        omega arith)
    | inr differs ↦
        (let was = are.filled t a b in
        let now = ap length (other (64 + t) differs) in
        omega arith)
  ];
  below = λ h n is. elim (cases_eq n given) [
    | inl same ↦ omega arith
    | inr differs ↦ (let b = are.below h n (stood h n differs is) in omega arith)
  ];
}
  where
    place : 65 + given / 32 < length links.lists
    place = omega (arith, are.count)

    this : list_of (pushed (65 + given / 32) given links).lists (65 + given / 32) ≡ list_of links.lists (65 + given / 32) ++ given ∷ []
    this = list_pushed links.lists (65 + given / 32) given (65 + given / 32) place ∙ (rw (eq-eqb (65 + given / 32) (65 + given / 32) refl) refl)

    other : (h : ℕ) → h ≢ 65 + given / 32 → list_of (pushed (65 + given / 32) given links).lists h ≡ list_of links.lists h
    other h ne = list_pushed links.lists (65 + given / 32) given h place ∙ (rw (ne_eqb h (65 + given / 32) ne) refl)

    stood : (h n : ℕ) → n ≢ given → is_in n (list_of (pushed (65 + given / 32) given links).lists h) ≡ true → is_in n (list_of links.lists h) ≡ true
    stood h n ne is =
        elim (cases_eq h (65 + given / 32)) [
          | inl same ↦
              (let there : is_in n (list_of links.lists (65 + given / 32) ++ given ∷ []) ≡ true = sym (ap (is_in n) this) ∙ ap (λ k. is_in n (list_of (pushed (65 + given / 32) given links).lists k)) (sym same) ∙ is in
              ap (λ k. is_in n (list_of links.lists k)) same ∙ sym (is_in-push given n (list_of links.lists (65 + given / 32)) ne) ∙ there)
          | inr differs ↦ sym (ap (is_in n) (other h differs)) ∙ is
        ]

pub first_stacks : (links : NodeLists) (depths : List ℕ) → (links.nodes ≡ 2048) × (length links.lists ≡ 129) → AreApart links
    → ((t : ℕ) → t ≤ 64 → list_of links.lists t ≡ []) → ((t : ℕ) → 1 ≤ t → t ≤ 64 → length (list_of links.lists (64 + t)) ≡ 32)
    → depths ≡ replicate 65 0 → AreStacks links depths
first_stacks links depths size apart empty free blank = record {
  nodes = size.0;
  count = size.1;
  apart = apart;
  nobody = empty 0 (omega arith);
  rooms = λ t a b. let e = ap length (empty t b) in let f = free t a b in omega arith;
  places = ap length blank ∙ length-replicate {A = ℕ} 65 0;
  counted = λ t b. ap (λ ds. get_or ds t 0) blank ∙ get_or-replicate 65 t 0 0 (omega arith) ∙ sym (ap length (empty t b));
}

pub no_stacks : (lists : List (List ℕ)) → ((t : ℕ) → t ≤ 64 → list_of lists t ≡ []) → stack_at lists ≡ (λ t. [])
no_stacks lists empty = λ i t. (none t) i
  where
    none : (t : ℕ) → stack_at lists t ≡ []
    none t =
        elim (cases_lt t 65) [
          | inl low ↦ stack_in lists t low ∙ empty t (omega arith)
          | inr past ↦ stack_out lists t past
        ]
