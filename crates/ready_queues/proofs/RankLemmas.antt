-- Numbers that rise along a list of threads, and the list that such numbers tell.
use Rattle.std.proofs.Common.{◌≡◌, ◌∙◌, refl, sym, ap, subst, arith, inl, inr, ℕ, ◌+◌, ◌-◌, ◌<◌, ◌≤◌, ◌&&◌, Bool, true, false, not, is_some, List, [], ◌∷◌, ◌++◌, Option, Some, None, IfSome, length, suc, zero, set, filter, find, take, eqb, ltb, cond, get_or, get_or-set_same, get_or-set_other}
use Rattle.std.specs.List.{range_with_len}
use Rattle.std.proofs.lemmas.Bool.{eq-eqb, ne_eqb, eqb-true, eqb-false, cases_eq, cases_Bool, or_left, or_right, lt-ltb, le-ltb}
use Rattle.std.proofs.lemmas.Bool.Decides.{nat_tests}
use Rattle.std.proofs.lemmas.List.{take_all, length-take}
use Rattle.std.proofs.lemmas.List.Filters.{length-filter_more}
use Rattle.std.proofs.lemmas.List.FromFn.{get_or-range_with_len}
use Rattle.thread_base.specs.Orders.{is_in, without, IsOrder}
use Rattle.thread_base.specs.Priority.{tids}
use Rattle.thread_base.proofs.OrderLemmas.{not_in-without, is_in-without, is_in-push, without_absent, within}
use Rattle.thread_base.proofs.SearchLemmas.{in_tids, find_passes}
use Rattle.link_arena.specs.Chains.{StandsOnce, head_in, after_in, with_before}
use Rattle.link_arena.proofs.ListLemmas.{from_node, from_next}
use Rattle.ready_queues.specs.Ranks.{number_of, ranked_in, ranked, Rises, AreNumbered, AllStand, rank_of}

-- what stands in a filtered list stood in the list and passes
pub filtered : (p : ℕ → Bool) (ts : List ℕ) (t : ℕ) → is_in t (filter p ts) ≡ true → (is_in t ts ≡ true) × (p t ≡ true)
filtered p [] t e = absurd (let f : false ≡ true = e in cc)
filtered p (u ∷ us) t e =
    elim (cases_Bool (p u)) [
      | inl passes ↦
          (let e' : is_in t (u ∷ filter p us) ≡ true = rw passes at e in
          elim (cases_Bool (eqb t u)) [
            | inl same ↦ (rw same refl, ap p (eqb-true t u same) ∙ passes)
            | inr other ↦ (let more = filtered p us t (rw other at e') in (or_right (eqb t u) (is_in t us) more.0, more.1))
          ])
      | inr fails ↦ (let more = filtered p us t (rw fails at e) in (or_right (eqb t u) (is_in t us) more.0, more.1))
    ]

pub unfiltered : (p : ℕ → Bool) (ts : List ℕ) (t : ℕ) → is_in t ts ≡ true → p t ≡ true → is_in t (filter p ts) ≡ true
unfiltered p [] t e passes = e
unfiltered p (u ∷ us) t e passes =
    elim (cases_Bool (eqb t u)) [
      | inl same ↦ (let this : p u ≡ true = sym (ap p (eqb-true t u same)) ∙ passes in rw (this, same) refl)
      | inr other ↦
          (let more = unfiltered p us t (rw other at e) passes in
          elim (cases_Bool (p u)) [
            | inl y ↦ rw (y, other) more
            | inr n ↦ rw n more
          ])
    ]

module _ (number : ℕ → ℕ) where
  pub rises_filter : (p : ℕ → Bool) (ts : List ℕ) → Rises number ts → Rises number (filter p ts)
  rises_filter p [] h = tt
  rises_filter p (t ∷ ts) h =
      elim (cases_Bool (p t)) [
        | inl passes ↦ rw passes (λ u e. h.0 u (filtered p ts u e).0, rises_filter p ts h.1)
        | inr fails ↦ rw fails (rises_filter p ts h.1)
      ]

  pub rises_push : (ts : List ℕ) (t : ℕ) → Rises number ts → ((u : ℕ) → is_in u ts ≡ true → number u < number t) → Rises number (ts ++ t ∷ [])
  rises_push [] t h low = (λ u e. absurd (let f : false ≡ true = e in cc), tt)
  rises_push (x ∷ xs) t h low = (
    λ u e. elim (cases_eq u t) [
      | inl same ↦ subst (λ v. number x < number v) (sym same) (low x (or_left (eqb x x) (is_in x xs) (eq-eqb x x refl)))
      | inr other ↦ h.0 u (sym (is_in-push t u xs other) ∙ e)
    ],
    rises_push xs t h.1 (λ u e. low u (or_right (eqb u x) (is_in u xs) e)),
  )

  -- other numbers rise too where they are in the same order
  pub rises_alike : (other : ℕ → ℕ) (ts : List ℕ) → Rises number ts → ((a b : ℕ) → is_in a ts ≡ true → is_in b ts ≡ true → number a < number b → other a < other b) → Rises other ts
  rises_alike other [] h alike = tt
  rises_alike other (x ∷ xs) h alike =
      let first : is_in x (x ∷ xs) ≡ true = or_left (eqb x x) (is_in x xs) (eq-eqb x x refl) in (
        λ u e. alike x u first (or_right (eqb u x) (is_in u xs) e) (h.0 u e),
        rises_alike other xs h.1 (λ a b i j. alike a b (or_right (eqb a x) (is_in a xs) i) (or_right (eqb b x) (is_in b xs) j)),
      )

  -- a thread of a list comes by its number where it stood
  pub ranked_back : (ts : List ℕ) (t : ℕ) → Rises number ts → is_in t ts ≡ true → ranked_in number t (without t ts) ≡ ts
  ranked_back [] t h e = absurd (let f : false ≡ true = e in cc)
  ranked_back (x ∷ xs) t h e =
      elim (cases_Bool (eqb x t)) [
        | inl same ↦ rw same (let is = eqb-true x t same in ap (ranked_in number t) (without_absent t xs (out is)) ∙ front xs (λ u i. subst (λ v. number v < number u) is (h.0 u i)) ∙ ap (λ v. v ∷ xs) (sym is))
        | inr other ↦
            (let un : eqb t x ≡ false = ne_eqb t x (λ f. eqb-false x t other (sym f)) in
            let later : is_in t xs ≡ true = rw un at e in
            let above = h.0 t later in
            let test : ltb (number t) (number x) ≡ false = le-ltb (number t) (number x) (omega arith) in
            rw other (rw test (ap (λ us. x ∷ us) (ranked_back xs t h.1 later))))
      ]
    where
      out : x ≡ t → is_in t xs ≡ false
      out is =
          elim (cases_Bool (is_in t xs)) [
            | inl y ↦ absurd (let above = h.0 t y in let same : number x ≡ number t = ap number is in omega arith)
            | inr n ↦ n
          ]

      front : (us : List ℕ) → ((u : ℕ) → is_in u us ≡ true → number t < number u) → ranked_in number t us ≡ t ∷ us
      front [] low = refl
      front (u ∷ us) low = let test : ltb (number t) (number u) ≡ true = lt-ltb (number t) (number u) (low u (or_left (eqb u u) (is_in u us) (eq-eqb u u refl))) in rw test refl

  no_member : (ts : List ℕ) → ((u : ℕ) → is_in u ts ≡ false) → ts ≡ []
  no_member [] h = refl
  no_member (x ∷ xs) h = absurd (let f : true ≡ false = sym (or_left (eqb x x) (is_in x xs) (eq-eqb x x refl)) ∙ h x in cc)

  -- the order of the numbers is the only list of these threads along which they rise
  pub ranked_is : (ms ts : List ℕ) → IsOrder ms → Rises number ts → ((u : ℕ) → is_in u ms ≡ is_in u ts) → ranked number ms ≡ ts
  ranked_is [] ts order h same = sym (no_member ts (λ u. sym (same u)))
  ranked_is (m ∷ ms) ts order h same =
      let here : is_in m ts ≡ true = sym (same m) ∙ or_left (eqb m m) (is_in m ms) (eq-eqb m m refl) in
      ap (ranked_in number m) (ranked_is ms (without m ts) order.3 (rises_filter (λ u. not (eqb u m)) ts h) others)
      ∙ ranked_back ts m h here
    where
      others : (u : ℕ) → is_in u ms ≡ is_in u (without m ts)
      others u =
          elim (cases_eq u m) [
            | inl is ↦ subst (λ v. is_in v ms ≡ is_in v (without m ts)) (sym is) (order.2 ∙ sym (not_in-without m ts))
            | inr other ↦ (let e : eqb u m ≡ false = ne_eqb u m other in let s : is_in u ms ≡ is_in u ts = rw e at (same u) in s ∙ sym (is_in-without m u ts other))
          ]

  -- a thread stands before the first of a greater number, or after all
  pub ranked_before : (ts : List ℕ) (t at : ℕ) → find (λ u. ltb (number t) (number u)) ts ≡ Some at → with_before t at ts ≡ ranked_in number t ts
  ranked_before [] t at e = absurd (let f : None ≡ Some at = e in cc)
  ranked_before (x ∷ xs) t at e =
      elim (cases_Bool (ltb (number t) (number x))) [
        | inl less ↦ (let f : Some x ≡ Some at = rw less at e in let is : x ≡ at = cc in rw (less, eq-eqb x at is) refl)
        | inr more ↦
            (let rest = rw more at e in
            let passes = find_passes (λ u. ltb (number t) (number u)) xs at rest in
            let un : eqb x at ≡ false = ne_eqb x at (λ is. let f : true ≡ false = sym passes ∙ ap (λ v. ltb (number t) (number v)) (sym is) ∙ more in let g : ⊥ = cc in g) in
            rw (more, un) (ap (λ us. x ∷ us) (ranked_before xs t at rest)))
      ]

  pub ranked_last : (ts : List ℕ) (t : ℕ) → find (λ u. ltb (number t) (number u)) ts ≡ None → ts ++ t ∷ [] ≡ ranked_in number t ts
  ranked_last [] t e = refl
  ranked_last (x ∷ xs) t e =
      elim (cases_Bool (ltb (number t) (number x))) [
        | inl less ↦ absurd (let f : Some x ≡ None = rw less at e in cc)
        | inr more ↦ rw more (ap (λ us. x ∷ us) (ranked_last xs t (rw more at e)))
      ]

-- a search that has come to a node of the list, and the node after it
pub search_on : (p : ℕ → Bool) (ns : List ℕ) (o after : Option ℕ) (u : ℕ) → StandsOnce ns → o ≡ Some u → is_in u ns ≡ true → after ≡ after_in u ns → p u ≡ false
    → find p (from_node o ns) ≡ find p (from_node after ns)
search_on p ns o after u once at stands next fails =
    ap (λ x. find p (from_node x ns)) at ∙ ap (find p) (from_next ns u once stands) ∙ (rw fails refl) ∙ ap (λ x. find p (from_node x ns)) (sym next)

pub search_here : (p : ℕ → Bool) (ns : List ℕ) (o : Option ℕ) (u : ℕ) → StandsOnce ns → o ≡ Some u → is_in u ns ≡ true → p u ≡ true → find p (from_node o ns) ≡ o
search_here p ns o u once at stands passes = ap (λ x. find p (from_node x ns)) at ∙ ap (find p) (from_next ns u once stands) ∙ (rw passes refl) ∙ sym at

pub search_shorter : (ns : List ℕ) (o after : Option ℕ) (u : ℕ) → StandsOnce ns → o ≡ Some u → is_in u ns ≡ true → after ≡ after_in u ns → length (from_node after ns) < length (from_node o ns)
search_shorter ns o after u once at stands next =
    let all : length (from_node o ns) ≡ suc (length (from_node after ns)) = ap (λ x. length (from_node x ns)) at ∙ ap length (from_next ns u once stands) ∙ ap (λ x. suc (length (from_node x ns))) (sym next) in
    omega arith

-- where a search comes next it stands in the list
pub search_within : (ns : List ℕ) (o : Option ℕ) → IfSome o (λ x. x < 65) → ((x : ℕ) → o ≡ Some x → is_in x ns ≡ true) → IfSome o (λ x. (x < 65) × (is_in x ns ≡ true))
search_within ns None low is = tt
search_within ns (Some x) low is = (low, is x refl)

-- fewer pass a test that says less
fewer : (p q : ℕ → Bool) (xs : List ℕ) → ((u : ℕ) → p u ≡ true → q u ≡ true) → length (filter p xs) ≤ length (filter q xs)
fewer p q [] less = omega arith
fewer p q (x ∷ xs) less =
    let rest = fewer p q xs less in
    elim (cases_Bool (p x)) [
      | inl y ↦ rw (y, less x y) (omega arith)
      | inr n ↦ elim (cases_Bool (q x)) [
        | inl y ↦ rw (n, y) (omega arith)
        | inr m ↦ rw (n, m) rest
      ]
    ]

one_fewer : (p q : ℕ → Bool) (xs : List ℕ) (a : ℕ) → ((u : ℕ) → p u ≡ true → q u ≡ true) → is_in a xs ≡ true → p a ≡ false → q a ≡ true → length (filter p xs) < length (filter q xs)
one_fewer p q [] a less e out here = absurd (let f : false ≡ true = e in cc)
one_fewer p q (x ∷ xs) a less e out here =
    elim (cases_Bool (eqb a x)) [
      | inl same ↦
          (let is = eqb-true a x same in
          let n : p x ≡ false = ap p (sym is) ∙ out in
          let y : q x ≡ true = ap q (sym is) ∙ here in
          let rest = fewer p q xs less in
          rw (n, y) (omega arith))
      | inr other ↦
          (let rest = one_fewer p q xs a less (rw other at e) out here in
          elim (cases_Bool (p x)) [
            | inl y ↦ rw (y, less x y) (omega arith)
            | inr n ↦ elim (cases_Bool (q x)) [
              | inl y ↦ rw (n, y) (omega arith)
              | inr m ↦ rw (n, m) rest
            ]
          ])
    ]

all_pass : (xs : List ℕ) → filter (λ u. true) xs ≡ xs
all_pass [] = refl
all_pass (x ∷ xs) = ap (λ us. x ∷ us) (all_pass xs)

length_range : (first count : ℕ) → length (range_with_len first count) ≡ count
length_range first zero = refl
length_range first (suc count) = ap suc (length_range (first + 1) count)

all_tids : length tids ≡ 64
unfolding tids
all_tids = length_range 1 64

-- a count that has come one thread further, and one that has come to the end
pub count_more : (p : ℕ → Bool) (n : ℕ) → 1 ≤ n → n < 65 → length (filter p (take (n + 1 - 1) tids)) ≡ length (filter p (take (n - 1) tids)) + cond (p n) 1 0
unfolding tids
count_more p n low high =
    let k : ℕ = n - 1 in
    let at : get_or (range_with_len 1 64) k 0 ≡ n = get_or-range_with_len 1 64 k 0 (omega arith) ∙ (omega arith) in
    let next : n + 1 - 1 ≡ k + 1 = omega arith in
    ap (λ i. length (filter p (take i (range_with_len 1 64)))) next
    ∙ length-filter_more p (range_with_len 1 64) k 0 (omega (arith, length_range 1 64))
    ∙ ap (λ x. length (filter p (take k (range_with_len 1 64))) + cond (p x) 1 0) at

pub count_all : (n : ℕ) → 65 ≤ n → take (n - 1) tids ≡ tids
count_all n past = take_all (n - 1) tids (omega (arith, all_tids))

pub count_low : (p : ℕ → Bool) (k : ℕ) → length (filter p (take k tids)) ≤ 64
count_low p k =
    let some = fewer p (λ u. true) (take k tids) (λ u e. refl) in
    omega (arith, ap length (all_pass (take k tids)), length-take {A = ℕ} k tids, all_tids)

module _ (numbers : List ℕ) (lists : List (List ℕ)) where
  -- of two threads the one with the lower number has the lower rank
  rank_rises : (a b : ℕ) → is_in a tids ≡ true → is_some (head_in lists a) ≡ true → number_of numbers a < number_of numbers b → rank_of numbers lists a < rank_of numbers lists b
  unfolding rank_of
  rank_rises a b within stands less =
      one_fewer
      (λ u. is_some (head_in lists u) && ltb (number_of numbers u) (number_of numbers a))
      (λ u. is_some (head_in lists u) && ltb (number_of numbers u) (number_of numbers b))
      tids a
      (λ u. wider (is_some (head_in lists u)) (number_of numbers u) (number_of numbers a) (number_of numbers b) less)
      within
      (itself (is_some (head_in lists a)) (number_of numbers a))
      (rw stands (lt-ltb (number_of numbers a) (number_of numbers b) less))
    where
      wider : (s : Bool) (x m n : ℕ) → m < n → s && ltb x m ≡ true → s && ltb x n ≡ true
      wider s x m n low e = grind (arith, nat_tests)

      itself : (s : Bool) (m : ℕ) → s && ltb m m ≡ false
      itself s m = grind (arith, nat_tests)

  rank_low : (a : ℕ) → is_in a tids ≡ true → rank_of numbers lists a < 64
  unfolding rank_of
  rank_low a within =
      let less = one_fewer (λ u. is_some (head_in lists u) && ltb (number_of numbers u) (number_of numbers a)) (λ u. true) tids a (λ u e. refl) within (itself (is_some (head_in lists a)) (number_of numbers a)) refl in
      omega (arith, ap length (all_pass tids), all_tids)
    where
      itself : (s : Bool) (m : ℕ) → s && ltb m m ≡ false
      itself s m = grind (arith, nat_tests)

  -- ranks in place of the numbers leave the order
  pub ranks_number : (next : ℕ) (order new : List ℕ) → IsOrder order → AllStand lists order → AreNumbered numbers next order
      → ((t : ℕ) → t < 65 → number_of new t ≡ rank_of numbers lists t) → AreNumbered new 64 order
  ranks_number next order new stands all are is = record {
    rising = rises_alike (number_of numbers) (number_of new) order are.rising (λ a b i j less.
        let low = within order a stands i in
        let high = within order b stands j in
        let up = rank_rises a b (in_tids a low.0 low.1) (all a i) less in
        omega (arith, is a (omega arith), is b (omega arith)));
    below = λ t i.
        let low = within order t stands i in
        let up = rank_low t (in_tids t low.0 low.1) in
        omega (arith, is t (omega arith));
  }

-- a thread gets the next number
pub numbered_more : (numbers : List ℕ) (next t : ℕ) (order : List ℕ) → t < length numbers → is_in t order ≡ false → AreNumbered numbers next order → AreNumbered (set numbers t next) (next + 1) (order ++ t ∷ [])
numbered_more numbers next t order low out are = record {
  rising = rises_push (number_of (set numbers t next)) order t
      (rises_alike (number_of numbers) (number_of (set numbers t next)) order are.rising (λ a b i j less. omega (arith, other a i, other b j)))
      (λ u i. let b = are.below u i in omega (arith, other u i, own));
  below = λ u i. elim (cases_eq u t) [
    | inl same ↦ (let e : number_of (set numbers t next) u ≡ next = ap (number_of (set numbers t next)) same ∙ own in omega (arith, e))
    | inr differs ↦ (let j = sym (is_in-push t u order differs) ∙ i in let b = are.below u j in omega (arith, other u j))
  ];
}
  where
    own : number_of (set numbers t next) t ≡ next
    own = get_or-set_same numbers t next 0 low

    other : (u : ℕ) → is_in u order ≡ true → number_of (set numbers t next) u ≡ number_of numbers u
    other u i = get_or-set_other numbers t u next 0 (λ e. let f : false ≡ true = sym out ∙ ap (λ v. is_in v order) (sym e) ∙ i in let g : ⊥ = cc in g)
