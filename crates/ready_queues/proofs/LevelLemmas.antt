-- The bits of the levels: what they say of the lists after a change, and which list the greatest one names.
use Rattle.std.proofs.Common.{◌≡◌, ◌≢◌, ◌∙◌, refl, sym, ap, subst, arith, inl, inr, ℕ, ◌-◌, ◌<◌, ◌≤◌, ◌^◌, ◌*◌, ◌/◌, ◌%◌, ◌==◌, ◌&&◌, if◌then◌else◌, Bool, true, false, is_some, is_none, List, [], ◌∷◌, ◌++◌, Option, Some, None, IfSome, length, suc, zero, not, map, replicate, length-set, bit_or, w32, eqb}
use Rattle.std.specs.Int.{bit_at, leading_zeros}
use Rattle.std.proofs.lemmas.Bool.{eq-eqb, ne_eqb, cases_eq, cases_lt, cases_Bool}
use Rattle.std.proofs.lemmas.List.{get_or_past, length-map, length-replicate}
use Rattle.std.proofs.lemmas.Nat.{leading_top}
use Rattle.std.proofs.lemmas.Nat.Bits.{bit_at-zero, bit_at-suc, bit_at_above, bit_at_set_same, bit_at_set_other}
use Rattle.thread_base.specs.Orders.{is_in, without}
use Rattle.thread_base.proofs.OrderLemmas.{without_absent}
use Rattle.link_arena.specs.Chains.{NodeLists, AreApart, StandsOnce, list_of, first_of, pushed, unlinked, inserted, with_before, next_in, after_in}
use Rattle.link_arena.proofs.ListLemmas.{no_nodes, list_pushed, list_unlinked, list_inserted, next_at, first_is_in, after_is_in}
use Rattle.ready_queues.specs.Ranks.{mark_of, AreMarked, IsTop}

pub new_is : (lists : NodeLists) → lists ≡ record { nodes = 65; lists = replicate 32 [] } → (h : ℕ) → list_of lists.lists h ≡ []
new_is links e h = ap (λ l. list_of l.lists h) e ∙ no_nodes 32 h

pub new_marks : (links : NodeLists) → links ≡ record { nodes = 65; lists = replicate 32 [] } → AreMarked links 0
new_marks links e = record {
  nodes = ap (λ l. l.nodes) e;
  count = ap (λ l. length l.lists) e ∙ length-replicate {A = List ℕ} 32 [];
  apart = record {
    once = λ h. subst StandsOnce (sym (new_is links e h)) tt;
    one = λ g h n is also. absurd (let f : is_in n [] ≡ true = subst (λ ns. is_in n ns ≡ true) (new_is links e g) is in let k : false ≡ true = f in cc);
    below = λ h n is. absurd (let f : is_in n [] ≡ true = subst (λ ns. is_in n ns ≡ true) (new_is links e h) is in let k : false ≡ true = f in cc);
  };
  marks = λ h low. bit_at-zero h ∙ sym (ap mark_of (new_is links e h));
}

marked_push : (ts : List ℕ) (t : ℕ) → mark_of (ts ++ t ∷ []) ≡ 1
marked_push [] t = refl
marked_push (u ∷ us) t = refl

marked_has : (ts : List ℕ) (t : ℕ) → is_in t ts ≡ true → mark_of ts ≡ 1
marked_has [] t e = absurd (let f : false ≡ true = e in cc)
marked_has (u ∷ us) t e = refl

marked_first : (ts : List ℕ) → is_none (first_of ts) ≡ false → mark_of ts ≡ 1
marked_first [] e = absurd (let f : true ≡ false = e in cc)
marked_first (u ∷ us) e = refl

marked_empty : (ts : List ℕ) → is_none (first_of ts) ≡ true → mark_of ts ≡ 0
marked_empty [] e = refl
marked_empty (u ∷ us) e = absurd (let f : false ≡ true = e in cc)

unmarked_none : (ts : List ℕ) → mark_of ts ≡ 0 → ts ≡ []
unmarked_none [] e = refl
unmarked_none (u ∷ us) e = absurd (let f : 1 ≡ 0 = e in omega arith)

marked_some : (ts : List ℕ) → mark_of ts ≡ 1 → (t : ℕ) × (first_of ts ≡ Some t)
marked_some [] e = absurd (let f : 0 ≡ 1 = e in omega arith)
marked_some (u ∷ us) e = (u, refl)

pub push_marks : (links : NodeLists) (bits p t : ℕ) → AreMarked links bits → p < 32 → AreApart (pushed p t links)
    → AreMarked (pushed p t links) (bit_or bits (1 * 2 ^ p % 2 ^ 32))
push_marks links bits p t are low apart = record {
  nodes = are.nodes;
  count = length-set links.lists p (list_of links.lists p ++ t ∷ []) ∙ are.count;
  apart = apart;
  marks = λ h within. elim (cases_eq h p) [
    | inl same ↦ ap (bit_at (bit_or bits (1 * 2 ^ p % 2 ^ 32))) same ∙ bit_at_set_same w32 bits p low ∙ sym (ap mark_of (list_pushed links.lists p t h (omega (arith, are.count)) ∙ (rw (eq-eqb h p same) refl)) ∙ marked_push (list_of links.lists p) t)
    | inr other ↦ bit_at_set_other w32 bits p low h other ∙ are.marks h within ∙ sym (ap mark_of (list_pushed links.lists p t h (omega (arith, are.count)) ∙ (rw (ne_eqb h p other) refl)))
  ];
}

-- a list keeps its mark where a node is put before another of it
marked_before : (ts : List ℕ) (t at : ℕ) → mark_of (with_before t at ts) ≡ mark_of ts
marked_before [] t at = refl
marked_before (u ∷ us) t at =
    elim (cases_Bool (eqb u at)) [
      | inl is ↦ rw is refl
      | inr un ↦ rw un refl
    ]

pub insert_marks : (links : NodeLists) (bits t at : ℕ) → AreMarked links bits → AreApart (inserted t at links) → AreMarked (inserted t at links) bits
insert_marks links bits t at are apart = record {
  nodes = are.nodes;
  count = length-map links.lists (with_before t at) ∙ are.count;
  apart = apart;
  marks = λ h low. are.marks h low ∙ sym (marked_before (list_of links.lists h) t at) ∙ sym (ap mark_of (list_inserted links.lists t at h));
}

-- in the lists of other priorities the thread did not stand
elsewhere : (links : NodeLists) (t p h : ℕ) → AreApart links → is_in t (list_of links.lists p) ≡ true → h ≢ p → without t (list_of links.lists h) ≡ list_of links.lists h
elsewhere links t p h apart stands ne =
    elim (cases_Bool (is_in t (list_of links.lists h))) [
      | inl is ↦ absurd (ne (apart.one h p t is stands))
      | inr out ↦ without_absent t (list_of links.lists h) out
    ]

pub remove_marks : (links : NodeLists) (bits t p : ℕ) (empty : Bool) (left : ℕ) → AreMarked links bits → is_in t (list_of links.lists p) ≡ true → AreApart (unlinked t links)
    → empty ≡ is_none (first_of (list_of (map (without t) links.lists) p))
    → ((h : ℕ) → h < 32 → bit_at left h ≡ (if empty && (h == p) then 0 else bit_at bits h)) → AreMarked (unlinked t links) left
remove_marks links bits t p empty left are stands apart is leaves = record {
  nodes = are.nodes;
  count = length-map links.lists (without t) ∙ are.count;
  apart = apart;
  marks = λ h low. elim (cases_eq h p) [
    | inl same ↦ leaves h low ∙ here h same low ∙ ap (λ k. mark_of (list_of (map (without t) links.lists) k)) (sym same)
    | inr other ↦
        leaves h low
        ∙ there h other
        ∙ are.marks h low
        ∙ sym (ap mark_of (list_unlinked links.lists t h ∙ elsewhere links t p h are.apart stands other))
  ];
}
  where
    there : (h : ℕ) → h ≢ p → (if empty && (h == p) then 0 else bit_at bits h) ≡ bit_at bits h
    there h other = let e : eqb h p ≡ false = ne_eqb h p other in elim (cases_Bool empty) [ inl y ↦ rw (y, e) refl | inr n ↦ rw n refl ]

    here : (h : ℕ) → h ≡ p → h < 32 → (if empty && (h == p) then 0 else bit_at bits h) ≡ mark_of (list_of (map (without t) links.lists) p)
    here h same low =
        let e : eqb h p ≡ true = eq-eqb h p same in
        elim (cases_Bool empty) [
          | inl y ↦ rw (y, e) (sym (marked_empty (list_of (map (without t) links.lists) p) (sym is ∙ y)))
          | inr n ↦
              rw n
              (are.marks h low
              ∙ ap (λ k. mark_of (list_of links.lists k)) same
              ∙ marked_has (list_of links.lists p) t stands
              ∙ sym (marked_first (list_of (map (without t) links.lists) p) (sym is ∙ n)))
        ]

-- what stands in a list is a thread's number
pub in_range : (links : NodeLists) (bits : ℕ) (o : Option ℕ) → AreMarked links bits → ((x : ℕ) → o ≡ Some x → (h : ℕ) × (is_in x (list_of links.lists h) ≡ true)) → IfSome o (λ x. x < 65)
in_range links bits None are some = tt
in_range links bits (Some x) are some = let s = some x refl in let b = are.apart.below s.0 x s.1 in omega (arith, are.nodes)

pub first_in_range : (links : NodeLists) (bits h : ℕ) (o : Option ℕ) → AreMarked links bits → o ≡ first_of (list_of links.lists h) → IfSome o (λ x. x < 65)
first_in_range links bits h o are e = in_range links bits o are (λ x is. (h, first_is_in (list_of links.lists h) x (sym e ∙ is)))

pub next_is : (links : NodeLists) (bits t : ℕ) (o : Option ℕ) → AreMarked links bits → o ≡ next_in links.lists t → (h : ℕ) → is_in t (list_of links.lists h) ≡ true → o ≡ after_in t (list_of links.lists h)
next_is links bits t o are e h stands = e ∙ next_at links t h are.apart stands

-- of a number with a greatest bit, this bit is set
top_bit : (a j : ℕ) → 2 ^ j ≤ a → a < 2 ^ suc j → bit_at a j ≡ 1
top_bit a zero low high = let one : a ≡ 1 = omega arith in rw one refl
top_bit a (suc j) low high = bit_at-suc a j ∙ top_bit (a / 2) j (omega arith) (omega arith)

pub top_is : (links : NodeLists) (bits level : ℕ) (o : Option ℕ) → AreMarked links bits → 0 < bits → bits < 2 ^ 32 → level ≡ 31 - leading_zeros w32 bits → o ≡ first_of (list_of links.lists level)
    → IsTop links.lists o
top_is links bits level o are some fits is first =
    let top = leading_top 32 bits some fits in
    let at : level ≡ top.0 = omega (arith, top.1, is) in
    let within : top.0 < 32 = omega (arith, top.1) in
    let marked : mark_of (list_of links.lists level) ≡ 1 = ap (λ k. mark_of (list_of links.lists k)) at ∙ sym (are.marks top.0 within) ∙ top_bit bits top.0 top.2 top.3 in
    let there = marked_some (list_of links.lists level) marked in
    subst (IsTop links.lists) (sym (first ∙ there.1)) (level, there.1, λ k above. empty top.0 k top.3 (omega (arith, at)))
  where
    empty : (j k : ℕ) → bits < 2 ^ suc j → j < k → list_of links.lists k ≡ []
    empty j k high above =
        elim (cases_lt k 32) [
          | inl low ↦ unmarked_none (list_of links.lists k) (sym (are.marks k low) ∙ bit_at_above bits (suc j) k high (omega arith))
          | inr past ↦ get_or_past links.lists k [] (omega (arith, are.count))
        ]

pub top_none : (links : NodeLists) (bits : ℕ) → AreMarked links bits → bits ≡ 0 → IsTop links.lists None
top_none links bits are e = λ k. elim (cases_lt k 32) [
  | inl low ↦ unmarked_none (list_of links.lists k) (sym (are.marks k low) ∙ ap (λ b. bit_at b k) e ∙ bit_at-zero k)
  | inr past ↦ get_or_past links.lists k [] (omega (arith, are.count))
]

next_in_list : (lists : List (List ℕ)) (t x : ℕ) → next_in lists t ≡ Some x → (h : ℕ) × (is_in x (list_of lists h) ≡ true)
next_in_list [] t x e = absurd (let f : None ≡ Some x = e in cc)
next_in_list (l ∷ ls) t x e =
    elim (cases_Bool (is_in t l)) [
      | inl is ↦ (0, after_is_in l t x (rw is at e))
      | inr un ↦ (let more = next_in_list ls t x (rw un at e) in (suc more.0, more.1))
    ]

pub next_in_range : (links : NodeLists) (bits t : ℕ) (o : Option ℕ) → AreMarked links bits → o ≡ next_in links.lists t → IfSome o (λ x. x < 65)
next_in_range links bits t o are e = in_range links bits o are (λ x is. next_in_list links.lists t x (sym e ∙ is))

pub none_of : (o : Option ℕ) (b : Bool) → is_some o ≡ not b → b ≡ is_none o
none_of None b e = grind arith
none_of (Some x) b e = grind arith
