-- What the fields show, and what each change of them makes of it.
use Rattle.std.proofs.Common.{◌≡◌, ◌∙◌, refl, sym, ap, subst, arith, inl, inr, ℕ, ◌+◌, ◌-◌, ◌<◌, ◌≤◌, if◌then◌else◌, nat_lt, true, false, List, [], ◌∷◌, ◌++◌, Option, Some, None, IsSome, IsNone, IfSome, IfNone, length, set, map, replicate, length-set, get_or-set_same, get_or-set_other}
use Rattle.std.proofs.lemmas.Bool.{eq-eqb, ne_eqb, cases_eq, cases_lt}
use Rattle.std.proofs.lemmas.Bool.Decides.{nat_tests}
use Rattle.std.proofs.lemmas.List.{get_or_past, length-map, length-replicate, get_or-replicate}
use Rattle.thread_base.specs.Orders.{is_in, without}
use Rattle.thread_base.proofs.OrderLemmas.{without_absent}
use Rattle.link_arena.specs.Chains.{StandsOnce, NodeLists, AreApart, list_of, head_in, next_in, first_of, pushed, inserted, unlinked, with_before}
use Rattle.link_arena.specs.Rings.{kept_at, home_at, node_of, is_for, place_after, place_before, shown, AreLinked, Keeps, first_home}
use Rattle.link_arena.proofs.RingLemmas.{placed, placed_inside, placed_last, none_before}
use Rattle.link_arena.proofs.LinkLemmas.{within, end_home, before_home, after_home, stands_in, head_is, next_is, next_is_none, first_is, shown_is, apart_of, linked, not_for}
use Rattle.link_arena.proofs.ListLemmas.{map_at, found_in}
use Rattle.link_arena.proofs.UnlinkLemmas.{unlinked_are}

some_head : (o : Option ℕ) → IsSome o → (h : ℕ) × (o ≡ Some h)
some_head None e = absurd (let f : false ≡ true = e in cc)
some_head (Some h) e = (h, refl)

module _ {nodes heads : ℕ} {next previous : List ℕ} {homes : List (Option ℕ)} (keeps : Keeps nodes heads next previous homes) {links : NodeLists} (is : shown nodes heads next ≡ links) where
  abbrev lists : List (List ℕ)
  lists = keeps.lists

  abbrev are : AreLinked nodes lists next previous homes
  are = keeps.are

  pub links_are : record { nodes = nodes; lists = lists } ≡ links
  links_are = sym (shown_is nodes lists next previous homes are heads keeps.count) ∙ is

  nodes_are : nodes ≡ links.nodes
  nodes_are = ap (λ l. l.nodes) links_are

  lists_are : lists ≡ links.lists
  lists_are = ap (λ l. l.lists) links_are

  pub shown_apart : AreApart links
  shown_apart = subst AreApart links_are (apart_of nodes lists next previous homes are)

  pub few : nodes + heads ≤ 8192
  few = omega (arith, keeps.count, are.places, are.small)

  pub homes_count : length homes ≡ length next
  homes_count = are.same.1

  pub previous_count : length previous ≡ length next
  previous_count = are.same.0

  pub places_count : length next ≡ nodes + heads
  places_count = omega (arith, keeps.count, are.places)

  pub head_low : (h : ℕ) → h < length links.lists → h < heads
  head_low h low = omega (arith, ap length lists_are, keeps.count)

  pub node_low : (n : ℕ) → n < links.nodes → n < nodes
  node_low n low = omega (arith, nodes_are)

  pub shown_head : (n : ℕ) → n < links.nodes → home_at homes n ≡ head_in links.lists n
  shown_head n low = sym (head_is nodes lists next previous homes are n (node_low n low)) ∙ ap (λ ls. head_in ls n) lists_are

  -- in which list a node stands
  pub in_list : (n : ℕ) → n < links.nodes → (o : Option ℕ) → o ≡ home_at homes n → (h : ℕ) → is_in n (list_of links.lists h) ≡ is_for o h
  in_list n low o e h =
      ap (λ ls. is_in n (list_of ls h)) (sym lists_are)
      ∙ stands_in nodes lists next previous homes are n h (node_low n low)
      ∙ ap (λ p. is_for p h) (sym e)

  pub head_has : (n : ℕ) → n < links.nodes → (o : Option ℕ) → o ≡ home_at homes n → IfSome o (λ h. is_in n (list_of links.lists h) ≡ true)
  head_has n low None e = tt
  head_has n low (Some h) e = in_list n low (Some h) e h ∙ eq-eqb h h refl

  pub no_head : (n : ℕ) → n < links.nodes → (o : Option ℕ) → o ≡ home_at homes n → IfNone o ((h : ℕ) → is_in n (list_of links.lists h) ≡ false)
  no_head n low None e = λ h. in_list n low None e h
  no_head n low (Some h) e = tt

  pub shown_next : (n h : ℕ) → n < links.nodes → home_at homes n ≡ Some h → (node_of nodes (kept_at next n)) ≡ next_in links.lists n
  shown_next n h low home = next_is nodes lists next previous homes are n h (node_low n low) home ∙ ap (λ ls. next_in ls n) lists_are

  pub shown_next_none : (n : ℕ) → n < links.nodes → home_at homes n ≡ None → None ≡ next_in links.lists n
  shown_next_none n low home = next_is_none nodes lists next previous homes are n (node_low n low) home ∙ ap (λ ls. next_in ls n) lists_are

  pub shown_first : (h : ℕ) → h < length links.lists → (node_of nodes (kept_at next (nodes + h))) ≡ first_of (list_of links.lists h)
  shown_first h low = first_is nodes lists next previous homes are h (omega (arith, ap length lists_are)) ∙ ap (λ ls. first_of (list_of ls h)) lists_are

  -- a place of a ring, as a node of a list and an end are
  pub before_low : (a h : ℕ) → home_at homes a ≡ Some h → kept_at previous a < length next
  before_low a h at = within nodes lists next previous homes are (kept_at previous a) h (before_home nodes lists next previous homes are a h at)

  pub after_low : (a h : ℕ) → home_at homes a ≡ Some h → kept_at next a < length next
  after_low a h at = within nodes lists next previous homes are (kept_at next a) h (after_home nodes lists next previous homes are a h at)

  pub end_is : (h : ℕ) → h < length links.lists → home_at homes (nodes + h) ≡ Some h
  end_is h low = end_home nodes lists next previous homes are h (omega (arith, ap length lists_are))

  pub node_is : (n : ℕ) → n < links.nodes → IsSome (head_in links.lists n) → (h : ℕ) × (home_at homes n ≡ Some h)
  node_is n low placed = let s = some_head (head_in links.lists n) placed in (s.0, shown_head n low ∙ s.1)

  pub placed_low : (n : ℕ) → IsSome (head_in links.lists n) → n < links.nodes
  placed_low n placed = let s = some_head (head_in links.lists n) placed in shown_apart.below s.0 n (found_in links.lists n s.0 s.1)

  -- a node that stood in no list is put after the others of a head
  module _ (head node : ℕ) (head_in_range : head < length links.lists) (node_in_range : node < links.nodes) (free : head_in links.lists node ≡ None) where
    abbrev end : ℕ
    end = nodes + head

    abbrev behind_all : List (List ℕ)
    behind_all = set lists head (list_of lists head ++ node ∷ [])

    pub push_fits : (node < length next) × (end < length next) × (kept_at previous end < length next)
    push_fits = ((let n = node_low node node_in_range in omega (arith, places_count)), (let h = head_low head head_in_range in omega (arith, places_count)), before_low end head (end_is head head_in_range))

    push_are : AreLinked nodes behind_all (set (set next (kept_at previous end) node) node end) (set (set previous end node) node (kept_at previous end)) (set homes node (home_at homes end))
    push_are =
        let low : head < length lists = omega (arith, ap length lists_are) in
        linked nodes lists next previous homes are node end head (shown_head node node_in_range ∙ free) (node_low node node_in_range) (end_is head head_in_range) behind_all
        (length-set lists head (list_of lists head ++ node ∷ []))
        (get_or-set_same lists head (list_of lists head ++ node ∷ []) [] low ∙ sym (placed_last node end (list_of lists head) (are.once head low).0))
        (λ k ne. get_or-set_other lists head k (list_of lists head ++ node ∷ []) [] ne)

    push_kept : Keeps nodes heads (set (set next (kept_at previous end) node) node end) (set (set previous end node) node (kept_at previous end)) (set homes node (home_at homes end))
    push_kept = record { lists = behind_all; count = length-set lists head (list_of lists head ++ node ∷ []) ∙ keeps.count; are = push_are }

    push_shown : shown nodes heads (set (set next (kept_at previous end) node) node end) ≡ pushed head node links
    push_shown =
        shown_is nodes behind_all _ _ _ push_are heads (length-set lists head (list_of lists head ++ node ∷ []) ∙ keeps.count)
        ∙ ap (pushed head node) links_are

    pub push_keeps : {next' previous' : List ℕ} {homes' : List (Option ℕ)} → next' ≡ (set (set next (kept_at previous end) node) node end) → previous' ≡ (set (set previous end node) node (kept_at previous end)) → homes' ≡ (set homes node (home_at homes end)) → Keeps nodes heads next' previous' homes'
    push_keeps e f g = rw (e, f, g) push_kept

    pub push_shows : {next' : List ℕ} → next' ≡ (set (set next (kept_at previous end) node) node end) → shown nodes heads next' ≡ pushed head node links
    push_shows e = rw e push_shown

    pub push_apart : AreApart (pushed head node links)
    push_apart = subst AreApart (ap (pushed head node) links_are) (apart_of nodes behind_all _ _ _ push_are)

  -- a node that stood in no list is put before another
  module _ (node at : ℕ) (node_in_range : node < links.nodes) (at_in_range : at < links.nodes) (free : head_in links.lists node ≡ None) (stands : IsSome (head_in links.lists at)) where
    abbrev before_it : List (List ℕ)
    before_it = map (with_before node at) lists

    pub insert_fits : (node < length next) × (at < length next) × (kept_at previous at < length next)
    insert_fits =
        let n = node_low node node_in_range in
        let a = node_low at at_in_range in
        let home = node_is at at_in_range stands in
        (omega (arith, places_count), omega (arith, places_count), before_low at home.0 home.1)

    insert_are : AreLinked nodes before_it (set (set next (kept_at previous at) node) node at) (set (set previous at node) node (kept_at previous at)) (set homes node (home_at homes at))
    insert_are =
        let home = node_is at at_in_range stands in
        let in_it = λ (k : ℕ). stands_in nodes lists next previous homes are at k (node_low at at_in_range) ∙ ap (λ o. is_for o k) home.1 in
        linked nodes lists next previous homes are node at home.0 (shown_head node node_in_range ∙ free) (node_low node node_in_range) home.1 before_it
        (length-map lists (with_before node at))
        (map_at (with_before node at) lists home.0 refl ∙ placed_inside node at (list_of lists home.0) (in_it home.0 ∙ eq-eqb home.0 home.0 refl))
        (λ k ne. map_at (with_before node at) lists k refl ∙ none_before node at (list_of lists k) (in_it k ∙ ne_eqb home.0 k (λ e. ne (sym e))))

    insert_kept : Keeps nodes heads (set (set next (kept_at previous at) node) node at) (set (set previous at node) node (kept_at previous at)) (set homes node (home_at homes at))
    insert_kept = record { lists = before_it; count = length-map lists (with_before node at) ∙ keeps.count; are = insert_are }

    insert_shown : shown nodes heads (set (set next (kept_at previous at) node) node at) ≡ inserted node at links
    insert_shown =
        shown_is nodes before_it _ _ _ insert_are heads (length-map lists (with_before node at) ∙ keeps.count)
        ∙ ap (inserted node at) links_are

    pub insert_keeps : {next' previous' : List ℕ} {homes' : List (Option ℕ)} → next' ≡ (set (set next (kept_at previous at) node) node at) → previous' ≡ (set (set previous at node) node (kept_at previous at)) → homes' ≡ (set homes node (home_at homes at)) → Keeps nodes heads next' previous' homes'
    insert_keeps e f g = rw (e, f, g) insert_kept

    pub insert_shows : {next' : List ℕ} → next' ≡ (set (set next (kept_at previous at) node) node at) → shown nodes heads next' ≡ inserted node at links
    insert_shows e = rw e insert_shown

    pub insert_apart : AreApart (inserted node at links)
    insert_apart = subst AreApart (ap (inserted node at) links_are) (apart_of nodes before_it _ _ _ insert_are)

  -- a node is taken out of its list
  module _ (node : ℕ) (in_range : node < links.nodes) (stands : IsSome (head_in links.lists node)) where
    abbrev without_it : List (List ℕ)
    without_it = map (without node) lists

    pub unlink_fits : (node < length next) × (kept_at next node < length next) × (kept_at previous node < length next)
    unlink_fits =
        let n = node_low node in_range in
        let home = node_is node in_range stands in
        (omega (arith, places_count), after_low node home.0 home.1, before_low node home.0 home.1)

    unlink_are : AreLinked nodes without_it (set next (kept_at previous node) (kept_at next node)) (set previous (kept_at next node) (kept_at previous node)) (set homes node None)
    unlink_are =
        let home = node_is node in_range stands in
        let in_it = λ (k : ℕ). stands_in nodes lists next previous homes are node k (node_low node in_range) ∙ ap (λ o. is_for o k) home.1 in
        unlinked_are nodes lists next previous homes are node home.0 (node_low node in_range) home.1 without_it
        (length-map lists (without node))
        (map_at (without node) lists home.0 refl)
        (λ k ne. map_at (without node) lists k refl ∙ without_absent node (list_of lists k) (in_it k ∙ ne_eqb home.0 k (λ e. ne (sym e))))

    unlink_kept : Keeps nodes heads (set next (kept_at previous node) (kept_at next node)) (set previous (kept_at next node) (kept_at previous node)) (set homes node None)
    unlink_kept = record { lists = without_it; count = length-map lists (without node) ∙ keeps.count; are = unlink_are }

    unlink_shown : shown nodes heads (set next (kept_at previous node) (kept_at next node)) ≡ unlinked node links
    unlink_shown =
        shown_is nodes without_it _ _ _ unlink_are heads (length-map lists (without node) ∙ keeps.count)
        ∙ ap (unlinked node) links_are

    pub unlink_keeps : {next' previous' : List ℕ} {homes' : List (Option ℕ)} → next' ≡ (set next (kept_at previous node) (kept_at next node)) → previous' ≡ (set previous (kept_at next node) (kept_at previous node)) → homes' ≡ (set homes node None) → Keeps nodes heads next' previous' homes'
    unlink_keeps e f g = rw (e, f, g) unlink_kept

    pub unlink_shows : {next' : List ℕ} → next' ≡ (set next (kept_at previous node) (kept_at next node)) → shown nodes heads next' ≡ unlinked node links
    unlink_shows e = rw e unlink_shown

    pub unlink_apart : AreApart (unlinked node links)
    unlink_apart = subst AreApart (ap (unlinked node) links_are) (apart_of nodes without_it _ _ _ unlink_are)

-- what is made at first: each end alone
module _ (nodes heads : ℕ) (next previous : List ℕ) (homes : List (Option ℕ)) (few : (nodes ≤ 4096) × (heads ≤ 4096))
    (counts : (length next ≡ nodes + heads) × (length previous ≡ nodes + heads) × (length homes ≡ nodes + heads))
    (own_next : (x : ℕ) → x < nodes + heads → kept_at next x ≡ x)
    (own_previous : (x : ℕ) → x < nodes + heads → kept_at previous x ≡ x)
    (own_homes : (x : ℕ) → x < nodes + heads → home_at homes x ≡ first_home nodes x) where
  abbrev none : List (List ℕ)
  none = replicate heads []

  none_of : (h : ℕ) → list_of none h ≡ []
  none_of h =
      elim (cases_lt h heads) [
        | inl low ↦ get_or-replicate heads h [] [] low
        | inr past ↦ get_or_past none h [] (omega (arith, length-replicate {A = List ℕ} heads []))
      ]

  first_is_end : (x h : ℕ) → first_home nodes x ≡ Some h → x ≡ nodes + h
  first_is_end x h e =
      elim (cases_lt x nodes) [
        | inl low ↦ absurd (let f : None ≡ Some h = sym (ap (λ b. if b then None else Some (x - nodes)) (let g : nat_lt x nodes ≡ true = grind (arith, nat_tests) in g)) ∙ e in cc)
        | inr past ↦
            (let f : Some (x - nodes) ≡ Some h = sym (ap (λ b. if b then None else Some (x - nodes)) (let g : nat_lt x nodes ≡ false = grind (arith, nat_tests) in g)) ∙ e in
            let same : x - nodes ≡ h = cc in
            omega arith)
      ]

  end_is_first : (h : ℕ) → first_home nodes (nodes + h) ≡ Some h
  end_is_first h =
      ap (λ b. if b then None else Some (nodes + h - nodes)) (let g : nat_lt (nodes + h) nodes ≡ false = grind (arith, nat_tests) in g)
      ∙ ap Some (let g : nodes + h - nodes ≡ h = omega arith in g)

  low_home : (x h : ℕ) → home_at homes x ≡ Some h → x < nodes + heads
  low_home x h e =
      elim (cases_lt x (nodes + heads)) [
        | inl low ↦ low
        | inr past ↦ absurd (let f : None ≡ Some h = sym (get_or_past homes x None (omega (arith, counts))) ∙ e in cc)
      ]

  is_end : (x h : ℕ) → home_at homes x ≡ Some h → x ≡ nodes + h
  is_end x h e = first_is_end x h (sym (own_homes x (low_home x h e)) ∙ e)

  alone : (x h : ℕ) → h < heads → is_in x ((nodes + h) ∷ []) ≡ is_for (home_at homes x) h
  alone x h low =
      elim (cases_eq x (nodes + h)) [
        | inl same ↦
            (let home : home_at homes x ≡ Some h = own_homes x (omega arith) ∙ ap (first_home nodes) same ∙ end_is_first h in
            let is : is_in x ((nodes + h) ∷ []) ≡ true = grind (arith, nat_tests) in
            is ∙ sym (ap (λ o. is_for o h) home ∙ eq-eqb h h refl))
        | inr other ↦
            (let un : is_in x ((nodes + h) ∷ []) ≡ false = grind (arith, nat_tests) in
            un ∙ sym (not_for (home_at homes x) h (λ e. other (is_end x h e))))
      ]

  new_are : AreLinked nodes none next previous homes
  new_are = record {
    places = omega (arith, counts, length-replicate {A = List ℕ} heads []);
    same = (omega (arith, counts), omega (arith, counts));
    small = omega (arith, counts, few);
    heads = λ x h e. (let low = low_home x h e in let end = is_end x h e in omega (arith, length-replicate {A = List ℕ} heads []));
    stands = λ x h low. ap (λ ns. is_in x ((nodes + h) ∷ ns)) (none_of h) ∙ alone x h (omega (arith, length-replicate {A = List ℕ} heads []));
    once = λ h low. subst (λ ns. StandsOnce ((nodes + h) ∷ ns)) (sym (none_of h)) (refl, tt);
    after = λ x h e. own_next x (low_home x h e) ∙ is_end x h e ∙ sym (ap (place_after (nodes + h) (nodes + h) x) (none_of h));
    before = λ x h e. own_previous x (low_home x h e) ∙ is_end x h e ∙ sym (ap (place_before (nodes + h) (nodes + h) x) (none_of h));
  }

  pub new_keeps : Keeps nodes heads next previous homes
  new_keeps = record { lists = none; count = length-replicate {A = List ℕ} heads []; are = new_are }

  pub new_shows : shown nodes heads next ≡ record { nodes = nodes; lists = none }
  new_shows = shown_is nodes none next previous homes new_are heads (length-replicate {A = List ℕ} heads [])

pub first_empty : (ns : List ℕ) → (IsNone (first_of ns) → ns ≡ []) × (ns ≡ [] → IsNone (first_of ns))
first_empty [] = (λ e. refl, λ e. refl)
first_empty (n ∷ ns) = (λ e. absurd (let f : true ≡ false = e in cc), λ e. absurd (let f : n ∷ ns ≡ [] = e in cc))
