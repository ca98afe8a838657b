-- For those who keep lists of nodes: what one list is after a change, and how a list is gone through.
use Rattle.std.proofs.Common.{◌≡◌, ◌∙◌, refl, sym, ap, subst, arith, inl, inr, ℕ, ◌<◌, ◌==◌, if◌then◌else◌, true, false, List, [], ◌∷◌, Option, Some, None, IsSome, IfSome, length, suc, zero, map, set, replicate, ◌++◌, get_or-set_same, get_or-set_other, eqb}
use Rattle.std.proofs.lemmas.Bool.{eq-eqb, ne_eqb, eqb-true, eqb-false, cases_eq, cases_lt, cases_Bool}
use Rattle.std.proofs.lemmas.Bool.Decides.{nat_tests}
use Rattle.std.proofs.lemmas.List.{get_or_past, get_or-map, length-map, get_or-replicate, length-replicate}
use Rattle.thread_base.specs.Orders.{is_in, without}
use Rattle.link_arena.specs.Chains.{StandsOnce, NodeLists, AreApart, list_of, head_in, one_more, next_in, first_of, after_in, with_before}

pub map_at : (f : List ℕ → List ℕ) (lists : List (List ℕ)) (k : ℕ) → f [] ≡ [] → list_of (map f lists) k ≡ f (list_of lists k)
map_at f lists k none =
    elim (cases_lt k (length lists)) [
      | inl low ↦ get_or-map f lists k [] [] low
      | inr past ↦ get_or_past (map f lists) k [] (omega (arith, length-map lists f)) ∙ sym none ∙ sym (ap f (get_or_past lists k [] past))
    ]

-- no list has a node where all are empty
pub no_nodes : (heads h : ℕ) → list_of (replicate heads []) h ≡ []
no_nodes heads h =
    elim (cases_lt h heads) [
      | inl low ↦ get_or-replicate heads h [] [] low
      | inr past ↦ get_or_past (replicate heads []) h [] (omega (arith, length-replicate {A = List ℕ} heads []))
    ]

-- a list that got a node more, beside the others
pub list_pushed : (lists : List (List ℕ)) (head node h : ℕ) → head < length lists → list_of (set lists head (list_of lists head ++ node ∷ [])) h ≡ (if h == head then list_of lists head ++ node ∷ [] else list_of lists h)
list_pushed lists head node h low =
    elim (cases_eq h head) [
      | inl same ↦ rw (eq-eqb h head same) (ap (λ k. list_of (set lists head (list_of lists head ++ node ∷ [])) k) same ∙ get_or-set_same lists head (list_of lists head ++ node ∷ []) [] low)
      | inr other ↦ rw (ne_eqb h head other) (get_or-set_other lists head h (list_of lists head ++ node ∷ []) [] other)
    ]

-- each list without a node
pub list_unlinked : (lists : List (List ℕ)) (node k : ℕ) → list_of (map (without node) lists) k ≡ without node (list_of lists k)
list_unlinked lists node k = map_at (without node) lists k refl

-- each list with a node before another
pub list_inserted : (lists : List (List ℕ)) (node at k : ℕ) → list_of (map (with_before node at) lists) k ≡ with_before node at (list_of lists k)
list_inserted lists node at k = map_at (with_before node at) lists k refl

-- there are no lists but those of the heads
pub has_head : (lists : List (List ℕ)) (x h : ℕ) → is_in x (list_of lists h) ≡ true → h < length lists
has_head lists x h stands =
    elim (cases_lt h (length lists)) [
      | inl low ↦ low
      | inr past ↦ absurd (let f : is_in x [] ≡ true = subst (λ ns. is_in x ns ≡ true) (get_or_past lists h [] past) stands in let g : false ≡ true = f in cc)
    ]

one_less : (o : Option ℕ) (h : ℕ) → one_more o ≡ Some h → (k : ℕ) × ((o ≡ Some k) × (h ≡ suc k))
one_less None h e = absurd (let f : None ≡ Some h = e in cc)
one_less (Some k) h e = (k, (refl, (let f : Some (suc k) ≡ Some h = e in cc)))

-- the head that a node has is that of its list
pub found_in : (lists : List (List ℕ)) (x h : ℕ) → head_in lists x ≡ Some h → is_in x (list_of lists h) ≡ true
found_in [] x h e = let f : None ≡ Some h = e in cc
found_in (l ∷ ls) x h e =
    elim (cases_Bool (is_in x l)) [
      | inl is ↦
          (let first : head_in (l ∷ ls) x ≡ Some 0 = rw is refl in
          let same : 0 ≡ h = (let f : Some 0 ≡ Some h = sym first ∙ e in cc) in
          subst (λ k. is_in x (list_of (l ∷ ls) k) ≡ true) same is)
      | inr un ↦
          (let later : head_in (l ∷ ls) x ≡ one_more (head_in ls x) = rw un refl in
          let less = one_less (head_in ls x) h (sym later ∙ e) in
          subst (λ k. is_in x (list_of (l ∷ ls) k) ≡ true) (sym less.1.1) (found_in ls x less.0 less.1.0))
    ]

some_more : (o : Option ℕ) → IsSome o → IsSome (one_more o)
some_more None e = e
some_more (Some n) e = refl

-- a node that stands in a list has a head
pub has_place : (lists : List (List ℕ)) (x h : ℕ) → is_in x (list_of lists h) ≡ true → IsSome (head_in lists x)
has_place [] x h e = absurd (let f : is_in x [] ≡ true = subst (λ ns. is_in x ns ≡ true) (get_or_past [] h [] (omega arith)) e in let g : false ≡ true = f in cc)
has_place (l ∷ ls) x zero e = rw e refl
has_place (l ∷ ls) x (suc h) e =
    elim (cases_Bool (is_in x l)) [
      | inl is ↦ rw is refl
      | inr un ↦ rw un (some_more (head_in ls x) (has_place ls x h e))
    ]

-- a node that stands in no list has none
pub has_none : (lists : List (List ℕ)) (x : ℕ) → ((h : ℕ) → is_in x (list_of lists h) ≡ false) → head_in lists x ≡ None
has_none [] x out = refl
has_none (l ∷ ls) x out = rw (out 0) (ap one_more (has_none ls x (λ h. out (suc h))))

-- the list in which a node stands tells what is after it
next_found : (lists : List (List ℕ)) (x h : ℕ) → ((k : ℕ) → is_in x (list_of lists k) ≡ true → k ≡ h) → is_in x (list_of lists h) ≡ true → next_in lists x ≡ after_in x (list_of lists h)
next_found [] x h one e = absurd (let f : is_in x [] ≡ true = subst (λ ns. is_in x ns ≡ true) (get_or_past [] h [] (omega arith)) e in let g : false ≡ true = f in cc)
next_found (l ∷ ls) x zero one e = rw e refl
next_found (l ∷ ls) x (suc h) one e =
    elim (cases_Bool (is_in x l)) [
      | inl is ↦ absurd (let f : 0 ≡ suc h = one 0 is in omega arith)
      | inr un ↦ rw un (next_found ls x h (λ k is. let f : suc k ≡ suc h = one (suc k) is in omega arith) e)
    ]

pub next_at : (links : NodeLists) (x h : ℕ) → AreApart links → is_in x (list_of links.lists h) ≡ true → next_in links.lists x ≡ after_in x (list_of links.lists h)
next_at links x h apart e = next_found links.lists x h (λ k is. apart.one k h x is e) e

-- the nodes of a list from one of them on, and none where there is no such node
abbrev from_here : ℕ → List ℕ → List ℕ
from_here node [] = []
from_here node (n ∷ ns) = if n == node then n ∷ ns else from_here node ns

abbrev pub from_node : Option ℕ → List ℕ → List ℕ
from_node None ns = []
from_node (Some node) ns = from_here node ns

pub from_first : (ns : List ℕ) → from_node (first_of ns) ns ≡ ns
from_first [] = refl
from_first (n ∷ ns) = rw (eq-eqb n n refl) refl

pub first_is_in : (ns : List ℕ) (x : ℕ) → first_of ns ≡ Some x → is_in x ns ≡ true
first_is_in [] x e = absurd (let f : None ≡ Some x = e in cc)
first_is_in (n ∷ ns) x e = let same : x ≡ n = (let f : Some n ≡ Some x = e in cc) in rw (eq-eqb x n same) refl

pub after_is_in : (ns : List ℕ) (u x : ℕ) → after_in u ns ≡ Some x → is_in x ns ≡ true
after_is_in [] u x e = absurd (let f : None ≡ Some x = e in cc)
after_is_in (n ∷ ns) u x e =
    elim (cases_Bool (eqb n u)) [
      | inl is ↦ (let later = first_is_in ns x (rw is at e) in grind (arith, nat_tests))
      | inr un ↦ (let later = after_is_in ns u x (rw un at e) in grind (arith, nat_tests))
    ]

skips : (n : ℕ) (ns : List ℕ) (o : Option ℕ) → is_in n ns ≡ false → ((x : ℕ) → o ≡ Some x → is_in x ns ≡ true) → from_node o (n ∷ ns) ≡ from_node o ns
skips n ns None out is = refl
skips n ns (Some x) out is =
    elim (cases_Bool (eqb n x)) [
      | inl same ↦ absurd (let there = is x refl in let e = eqb-true n x same in let f : is_in n ns ≡ true = ap (λ y. is_in y ns) e ∙ there in let g : false ≡ true = sym out ∙ f in cc)
      | inr other ↦ rw other refl
    ]

-- the nodes from one of the list on are this node and those from the next on
pub from_next : (ns : List ℕ) (u : ℕ) → StandsOnce ns → is_in u ns ≡ true → from_node (Some u) ns ≡ u ∷ from_node (after_in u ns) ns
from_next [] u once e = absurd (let f : false ≡ true = e in cc)
from_next (n ∷ ns) u once e =
    elim (cases_Bool (eqb n u)) [
      | inl same ↦
          (let eq = eqb-true n u same in
          rw same (λ i. eq i ∷ (ap (λ k. k) (sym (skips n ns (first_of ns) once.0 (λ x is. first_is_in ns x is) ∙ from_first ns))) i))
      | inr other ↦
          (let un : eqb u n ≡ false = ne_eqb u n (λ f. eqb-false n u other (sym f)) in
          let later : is_in u ns ≡ true = rw un at e in
          rw other (from_next ns u once.1 later ∙ ap (λ ks. u ∷ ks) (sym (skips n ns (after_in u ns) once.0 (λ x is. after_is_in ns u x is)))))
    ]

-- a walk that has come to a node of the list, and what is after it
pub walk_next : (ns : List ℕ) (o after : Option ℕ) (u : ℕ) → StandsOnce ns → o ≡ Some u → is_in u ns ≡ true → after ≡ after_in u ns → from_node o ns ≡ u ∷ from_node after ns
walk_next ns o after u once at stands next =
    ap (λ x. from_node x ns) at ∙ from_next ns u once stands ∙ ap (λ x. u ∷ from_node x ns) (sym next)

-- a walk comes to an end
pub walk_shorter : (ns : List ℕ) (o after : Option ℕ) (u : ℕ) → StandsOnce ns → o ≡ Some u → is_in u ns ≡ true → after ≡ after_in u ns → length (from_node after ns) < length (from_node o ns)
walk_shorter ns o after u once at stands next =
    let all = ap length (walk_next ns o after u once at stands next) in
    omega arith

-- where a walk begins, and where it comes next, is a node of the list
pub walk_first : (ns : List ℕ) (o : Option ℕ) → o ≡ first_of ns → IfSome o (λ x. is_in x ns ≡ true)
walk_first ns None e = tt
walk_first ns (Some x) e = first_is_in ns x (sym e)

pub walk_after : (ns : List ℕ) (o : Option ℕ) (u : ℕ) → o ≡ after_in u ns → IfSome o (λ x. is_in x ns ≡ true)
walk_after ns None u e = tt
walk_after ns (Some x) u e = after_is_in ns u x (sym e)
