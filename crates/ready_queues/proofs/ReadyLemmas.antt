-- A ready list by levels after each change, and whom it chooses.
use Rattle.std.proofs.Common.{◌≡◌, ◌≢◌, ◌∙◌, refl, sym, ap, subst, arith, inl, inr, ℕ, ◌+◌, ◌<◌, ◌≤◌, ◌==◌, if◌then◌else◌, Bool, true, false, not, is_some, List, [], ◌∷◌, ◌++◌, Option, Some, None, IsSome, IsNone, IfSome, suc, zero, filter, find, eqb, ltb}
use Rattle.std.specs.List.{range_with_len}
use Rattle.std.proofs.lemmas.Bool.{eq-eqb, ne_eqb, eqb-true, eqb-false, cases_eq, cases_lt, cases_Bool, or_left}
use Rattle.std.proofs.lemmas.List.Elements.{filter-append}
use Rattle.thread_base.specs.Maps.{put, numbered}
use Rattle.thread_base.specs.Orders.{is_in, without, IsOrder}
use Rattle.thread_base.specs.Priority.{tids, greatest, first_greatest}
use Rattle.thread_base.proofs.MapLemmas.{put_same, put_other}
use Rattle.thread_base.proofs.OrderLemmas.{IsOrder-push, IsOrder-filter, not_in-without, without_absent, within}
use Rattle.thread_base.proofs.PriorityLemmas.{greatest_above, greatest_at}
use Rattle.thread_base.proofs.SearchLemmas.{in_tids, range_in, find_member}
use Rattle.link_arena.specs.Chains.{list_of, head_in, first_of, with_before}
use Rattle.link_arena.proofs.ListLemmas.{found_in, has_place, has_none, first_is_in}
use Rattle.link_arena.proofs.ChoiceLemmas.{first_empty, first_member}
use Rattle.ready_queues.specs.Queue.{Queue, level_of}
use Rattle.ready_queues.specs.Ranks.{number_of, ranked_in, ranked, standing, shown_order, at_level, AreNumbered, AllStand, IsRanked, IsTop}
use Rattle.ready_queues.proofs.RankLemmas.{filtered, unfiltered, rises_filter, ranked_back, ranked_is, ranked_before, ranked_last}

-- a node stands before none of a list that has it not
none_before : (m a : ℕ) (xs : List ℕ) → is_in a xs ≡ false → with_before m a xs ≡ xs
none_before m a [] out = refl
none_before m a (y ∷ ys) out =
    elim (cases_Bool (eqb y a)) [
      | inl same ↦ absurd (let f : is_in a (y ∷ ys) ≡ true = or_left (eqb a y) (is_in a ys) (eq-eqb a y (sym (eqb-true y a same))) in let g : true ≡ false = sym f ∙ out in cc)
      | inr other ↦ (let un : eqb a y ≡ false = ne_eqb a y (λ f. eqb-false y a other (sym f)) in rw other (ap (λ zs. y ∷ zs) (none_before m a ys (rw un at out))))
    ]

order_of_range : (first count : ℕ) → 1 ≤ first → first + count ≤ 65 → IsOrder (range_with_len first count)
order_of_range first zero low high = tt
order_of_range first (suc count) low high = (low, omega arith, ahead (is_in first (range_with_len (first + 1) count)) refl, order_of_range (first + 1) count (omega arith) (omega arith))
  where
    ahead : (b : Bool) → is_in first (range_with_len (first + 1) count) ≡ b → b ≡ false
    ahead false e = refl
    ahead true e = absurd (let r = range_in (first + 1) count first e in omega arith)

order_of_tids : IsOrder tids
unfolding tids
order_of_tids = order_of_range 1 64 (omega arith) (omega arith)

same_truth : (a b : Bool) → (a ≡ true → b ≡ true) → (b ≡ true → a ≡ true) → a ≡ b
same_truth true b f g = sym (f refl)
same_truth false true f g = g refl
same_truth false false f g = refl

some_is : {A : Type 0} (o : Option A) → is_some o ≡ true → (x : A) × (o ≡ Some x)
some_is None e = absurd (let f : false ≡ true = e in cc)
some_is (Some x) e = (x, refl)

-- a list of one level, after a change of one thread's level
module _ (level : ℕ → ℕ) where
  level_push : (h t p : ℕ) (ts : List ℕ) → is_in t ts ≡ false → at_level (put level t p) h (ts ++ t ∷ []) ≡ (if h == p then at_level level p ts ++ t ∷ [] else at_level level h ts)
  level_push h t p ts out =
      filter-append (λ u. put level t p u == h) ts (t ∷ [])
      ∙ ap (λ us. us ++ at_level (put level t p) h (t ∷ [])) (rest h ts out)
      ∙ last
    where
      rest : (k : ℕ) (us : List ℕ) → is_in t us ≡ false → at_level (put level t p) k us ≡ at_level level k us
      rest k [] o = refl
      rest k (u ∷ us) o =
          elim (cases_Bool (eqb t u)) [
            | inl same ↦ absurd (let f : true ≡ false = sym (or_left (eqb t u) (is_in t us) same) ∙ o in cc)
            | inr other ↦
                (let is : put level t p u ≡ level u = put_other level t p u (λ e. eqb-false t u other (sym e)) in
                let more = rest k us (rw other at o) in
                ap (λ v. if v == k then u ∷ at_level (put level t p) k us else at_level (put level t p) k us) is
                ∙ ap (λ vs. if level u == k then u ∷ vs else vs) more)
          ]

      last : at_level level h ts ++ at_level (put level t p) h (t ∷ []) ≡ (if h == p then at_level level p ts ++ t ∷ [] else at_level level h ts)
      last =
          elim (cases_eq h p) [
            | inl same ↦ (let y : eqb (put level t p t) h ≡ true = ap (λ v. eqb v h) (put_same level t p) ∙ eq-eqb p h (sym same) in rw (y, eq-eqb h p same) (ap (λ k. at_level level k ts ++ t ∷ []) same))
            | inr other ↦ (let n : eqb (put level t p t) h ≡ false = ap (λ v. eqb v h) (put_same level t p) ∙ ne_eqb p h (λ e. other (sym e)) in rw (n, ne_eqb h p other) (nothing (at_level level h ts)))
          ]
        where
          nothing : (us : List ℕ) → us ++ [] ≡ us
          nothing [] = refl
          nothing (u ∷ us) = ap (λ vs. u ∷ vs) (nothing us)

  level_without : (h t : ℕ) (ts : List ℕ) → without t (at_level level h ts) ≡ at_level level h (without t ts)
  level_without h t [] = refl
  level_without h t (u ∷ us) =
      let more = level_without h t us in
      elim (cases_Bool (level u == h)) [
        | inl y ↦ elim (cases_Bool (u == t)) [
          | inl s ↦ rw (y, s) more
          | inr o ↦ rw (y, o) (rw y (ap (λ vs. u ∷ vs) more))
        ]
        | inr n ↦ elim (cases_Bool (u == t)) [
          | inl s ↦ rw (n, s) more
          | inr o ↦ rw (n, o) (rw n more)
        ]
      ]

  -- without the thread, the list of a level is the same by both levels
  level_put : (h t p : ℕ) (ts : List ℕ) → without t (at_level level h ts) ≡ without t (at_level (put level t p) h ts)
  level_put h t p [] = refl
  level_put h t p (u ∷ us) =
      let more = level_put h t p us in
      elim (cases_eq u t) [
        | inl same ↦ drop u us (level u == h) (put level t p u == h) (eq-eqb u t same) more
        | inr other ↦
            (let is : put level t p u ≡ level u = put_other level t p u other in
            keep (level u == h) more ∙ ap (λ v. without t (if v == h then u ∷ at_level (put level t p) h us else at_level (put level t p) h us)) (sym is))
      ]
    where
      keep : (b : Bool) → without t (at_level level h us) ≡ without t (at_level (put level t p) h us) → without t (if b then u ∷ at_level level h us else at_level level h us) ≡ without t (if b then u ∷ at_level (put level t p) h us else at_level (put level t p) h us)
      keep true e = ap (λ vs. if not (u == t) then u ∷ vs else vs) e
      keep false e = e

      drop : (u : ℕ) (us : List ℕ) (b c : Bool) → (u == t) ≡ true → without t (at_level level h us) ≡ without t (at_level (put level t p) h us)
          → without t (if b then u ∷ at_level level h us else at_level level h us) ≡ without t (if c then u ∷ at_level (put level t p) h us else at_level (put level t p) h us)
      drop u us true true s e = rw s e
      drop u us true false s e = rw s e
      drop u us false true s e = rw s e
      drop u us false false s e = e

  -- the first of a level that no other passes is the first of the greatest
  first_of_filter : (p : ℕ → Bool) (ts : List ℕ) → find p ts ≡ first_of (filter p ts)
  first_of_filter p [] = refl
  first_of_filter p (u ∷ us) =
      elim (cases_Bool (p u)) [
        | inl y ↦ rw y refl
        | inr n ↦ rw n (first_of_filter p us)
      ]

  empty_order : (ts : List ℕ) → ((h : ℕ) → at_level level h ts ≡ []) → ts ≡ []
  empty_order [] none = refl
  empty_order (u ∷ us) none =
      absurd (
      let there = unfiltered (λ v. level v == level u) (u ∷ us) u (or_left (eqb u u) (is_in u us) (eq-eqb u u refl)) (eq-eqb (level u) (level u) refl) in
      let f : is_in u [] ≡ true = subst (λ vs. is_in u vs ≡ true) (none (level u)) there in
      let g : false ≡ true = f in cc
      )

  top_level : (ts : List ℕ) (h t : ℕ) → first_of (at_level level h ts) ≡ Some t → ((k : ℕ) → h < k → at_level level k ts ≡ []) → greatest level ts ≡ h
  top_level [] h t first above = absurd (let f : None ≡ Some t = first in cc)
  top_level (u ∷ us) h t first above =
      let there = filtered (λ v. level v == h) (u ∷ us) t (first_is_in (at_level level h (u ∷ us)) t first) in
      let low = greatest_above level (u ∷ us) t there.0 in
      let at = eqb-true (level t) h there.1 in
      let top = greatest_at level u us in
      elim (cases_lt h (greatest level (u ∷ us))) [
        | inl more ↦
            absurd (
            let stands = unfiltered (λ v. level v == greatest level (u ∷ us)) (u ∷ us) top.0 top.1 (eq-eqb (level top.0) (greatest level (u ∷ us)) top.2) in
            let f : is_in top.0 [] ≡ true = subst (λ vs. is_in top.0 vs ≡ true) (above (greatest level (u ∷ us)) more) stands in
            let g : false ≡ true = f in cc
            )
        | inr most ↦ omega arith
      ]

  pub top_first : (lists : List (List ℕ)) (ts : List ℕ) (o : Option ℕ) → ((h : ℕ) → list_of lists h ≡ at_level level h ts) → IsTop lists o → o ≡ first_greatest level ts
  top_first lists ts None each top = sym (ap (first_greatest level) (empty_order ts (λ h. sym (each h) ∙ top h)))
  top_first lists ts (Some t) each top =
      let first : first_of (at_level level top.0 ts) ≡ Some t = ap first_of (sym (each top.0)) ∙ top.1 in
      let most = top_level ts top.0 t first (λ k above. sym (each k) ∙ top.2 k above) in
      sym first ∙ sym (first_of_filter (λ v. level v == top.0) ts) ∙ ap (λ n. find (λ v. level v == n) ts) (sym most)

-- who was taken out of each list stands in none
pub free_then : (lists lists' : List (List ℕ)) (t : ℕ) → ((h : ℕ) → list_of lists' h ≡ without t (list_of lists h)) → (h : ℕ) → is_in t (list_of lists' h) ≡ false
free_then lists lists' t removes h = ap (is_in t) (removes h) ∙ not_in-without t (list_of lists h)

module _ {order levels numbers : List ℕ} {next : ℕ} {lists : List (List ℕ)} (are : IsRanked order levels numbers next lists) where
  abbrev level : ℕ → ℕ
  level = numbered 0 levels

  -- who is in the order stands in the list of its level, and nobody else stands in one
  pub stands_at : (t : ℕ) → is_in t order ≡ true → is_in t (list_of lists (level t)) ≡ true
  stands_at t here = subst (λ ts. is_in t ts ≡ true) (sym (are.each (level t))) (unfiltered (λ u. level u == level t) order t here (eq-eqb (level t) (level t) refl))

  from_list : (t h : ℕ) → is_in t (list_of lists h) ≡ true → (is_in t order ≡ true) × ((level t == h) ≡ true)
  from_list t h there = filtered (λ u. level u == h) order t (subst (λ ts. is_in t ts ≡ true) (are.each h) there)

  pub has_stands : (t : ℕ) → is_some (head_in lists t) ≡ is_in t order
  has_stands t =
      same_truth (is_some (head_in lists t)) (is_in t order)
      (λ e. let s = some_is (head_in lists t) e in (from_list t s.0 (found_in lists t s.0 s.1)).0)
      (λ e. has_place lists t (level t) (stands_at t e))

  pub all_stand : AllStand lists order
  all_stand t e = has_stands t ∙ e

  standing_is : (t : ℕ) → is_in t (standing lists) ≡ is_in t order
  unfolding standing
  standing_is t =
      same_truth (is_in t (filter (λ u. is_some (head_in lists u)) tids)) (is_in t order)
      (λ e. let f = filtered (λ u. is_some (head_in lists u)) tids t e in sym (has_stands t) ∙ f.1)
      (λ e. let w = within order t are.stands e in unfiltered (λ u. is_some (head_in lists u)) tids t (in_tids t w.0 w.1) (has_stands t ∙ e))

  order_of_standing : IsOrder (standing lists)
  unfolding standing
  order_of_standing = IsOrder-filter (λ u. is_some (head_in lists u)) tids order_of_tids

  -- the order is what the numbers and the lists show
  pub shown_is : shown_order numbers lists ≡ order
  unfolding shown_order
  shown_is = ranked_is (number_of numbers) (standing lists) order order_of_standing are.rise.rising standing_is

  pub out_of_all : (t : ℕ) → is_in t order ≡ false → (h : ℕ) → is_in t (list_of lists h) ≡ false
  out_of_all t out h =
      elim (cases_Bool (is_in t (list_of lists h))) [
        | inl y ↦ absurd (let f : false ≡ true = sym out ∙ (from_list t h y).0 in cc)
        | inr n ↦ n
      ]

  -- a thread comes
  pub after_append : (levels' numbers' : List ℕ) (next' : ℕ) (lists' : List (List ℕ)) (t p : ℕ) → 1 ≤ t → t ≤ 64 → is_in t order ≡ false
      → numbered 0 levels' ≡ put level t p → AreNumbered numbers' next' (order ++ t ∷ [])
      → ((h : ℕ) → list_of lists' h ≡ (if h == p then list_of lists p ++ t ∷ [] else list_of lists h)) → IsRanked (order ++ t ∷ []) levels' numbers' next' lists'
  after_append levels' numbers' next' lists' t p low high out puts rise pushes = record {
    stands = IsOrder-push order t are.stands low high out;
    rise = rise;
    each = λ h.
        pushes h
        ∙ (λ i. if h == p then are.each p i ++ t ∷ [] else are.each h i)
        ∙ sym (level_push level h t p order out)
        ∙ ap (λ m. at_level m h (order ++ t ∷ [])) (sym puts);
  }

  -- a thread goes
  pub after_remove : (lists' : List (List ℕ)) (t : ℕ) → ((h : ℕ) → list_of lists' h ≡ without t (list_of lists h)) → IsRanked (without t order) levels numbers next lists'
  after_remove lists' t removes = record {
    stands = IsOrder-filter (λ u. not (u == t)) order are.stands;
    rise = record {
      rising = rises_filter (number_of numbers) (λ u. not (u == t)) order are.rise.rising;
      below = λ u i. are.rise.below u (filtered (λ v. not (v == t)) order u i).0;
    };
    each = λ h. removes h ∙ ap (without t) (are.each h) ∙ level_without level h t order;
  }

  -- the thread that one with another level is to stand before
  pub later_place : (lists' : List (List ℕ)) (t p at : ℕ) → ((h : ℕ) → list_of lists' h ≡ without t (list_of lists h))
      → Some at ≡ find (λ u. ltb (number_of numbers t) (number_of numbers u)) (list_of lists' p) → (at < 65) × IsSome (head_in lists' at)
  later_place lists' t p at removes found =
      let there = find_member (λ u. ltb (number_of numbers t) (number_of numbers u)) (list_of lists' p) at (sym found) in
      let was = (filtered (λ u. not (u == t)) (list_of lists p) at (subst (λ us. is_in at us ≡ true) (removes p) there)).0 in
      let low = within order at are.stands (from_list at p was).0 in
      (omega (arith, low.1), has_place lists' at p there)

  -- a thread has another level, and stands in its list by its number
  module _ (levels' : List ℕ) (lists' : List (List ℕ)) (t p : ℕ) (here : is_in t order ≡ true) (puts : numbered 0 levels' ≡ put level t p) (removes : (h : ℕ) → list_of lists' h ≡ without t (list_of lists h)) where
    level_is : (h : ℕ) → list_of lists' h ≡ without t (at_level (numbered 0 levels') h order)
    level_is h = removes h ∙ ap (without t) (are.each h) ∙ level_put level h t p order ∙ ap (λ m. without t (at_level m h order)) (sym puts)

    level_here : numbered 0 levels' t ≡ p
    level_here = ap (λ m. m t) puts ∙ put_same level t p

    elsewhere : (h : ℕ) → h ≢ p → list_of lists' h ≡ at_level (numbered 0 levels') h order
    elsewhere h ne =
        level_is h
        ∙ without_absent t (at_level (numbered 0 levels') h order)
        (elim (cases_Bool (is_in t (at_level (numbered 0 levels') h order))) [
          | inl y ↦ absurd (let f = (filtered (λ u. numbered 0 levels' u == h) order t y).1 in ne (sym (eqb-true (numbered 0 levels' t) h f) ∙ level_here))
          | inr n ↦ n
        ])

    by_number : ranked_in (number_of numbers) t (list_of lists' p) ≡ at_level (numbered 0 levels') p order
    by_number =
        ap (ranked_in (number_of numbers) t) (level_is p)
        ∙ ranked_back (number_of numbers) (at_level (numbered 0 levels') p order) t (rises_filter (number_of numbers) (λ u. numbered 0 levels' u == p) order are.rise.rising) (unfiltered (λ u. numbered 0 levels' u == p) order t here (eq-eqb (numbered 0 levels' t) p level_here))

    pub after_insert : (lists'' : List (List ℕ)) (at : ℕ) → Some at ≡ find (λ u. ltb (number_of numbers t) (number_of numbers u)) (list_of lists' p)
        → ((h : ℕ) → list_of lists'' h ≡ with_before t at (list_of lists' h)) → IsRanked order levels' numbers next lists''
    after_insert lists'' at found inserts = record {
      stands = are.stands;
      rise = are.rise;
      each = λ h. elim (cases_eq h p) [
        | inl same ↦
            inserts h
            ∙ ap (λ k. with_before t at (list_of lists' k)) same
            ∙ ranked_before (number_of numbers) (list_of lists' p) t at (sym found)
            ∙ by_number
            ∙ ap (λ k. at_level (numbered 0 levels') k order) (sym same)
        | inr other ↦ inserts h ∙ none_before t at (list_of lists' h) (apart h other) ∙ elsewhere h other
      ];
    }
      where
        at_home : is_in at (list_of lists' p) ≡ true
        at_home = find_member (λ u. ltb (number_of numbers t) (number_of numbers u)) (list_of lists' p) at (sym found)

        of_level : (h : ℕ) → is_in at (list_of lists' h) ≡ true → level at ≡ h
        of_level h stands = eqb-true (level at) h (from_list at h (filtered (λ u. not (u == t)) (list_of lists h) at (subst (λ us. is_in at us ≡ true) (removes h) stands)).0).1

        apart : (h : ℕ) → h ≢ p → is_in at (list_of lists' h) ≡ false
        apart h ne =
            elim (cases_Bool (is_in at (list_of lists' h))) [
              | inl y ↦ absurd (ne (sym (of_level h y) ∙ of_level p at_home))
              | inr n ↦ n
            ]

    pub after_last : (lists'' : List (List ℕ)) → None ≡ find (λ u. ltb (number_of numbers t) (number_of numbers u)) (list_of lists' p)
        → ((h : ℕ) → list_of lists'' h ≡ (if h == p then list_of lists' p ++ t ∷ [] else list_of lists' h)) → IsRanked order levels' numbers next lists''
    after_last lists'' none pushes = record {
      stands = are.stands;
      rise = are.rise;
      each = λ h. elim (cases_eq h p) [
        | inl same ↦
            pushes h
            ∙ (rw (eq-eqb h p same) (ranked_last (number_of numbers) (list_of lists' p) t (sym none)))
            ∙ by_number
            ∙ ap (λ k. at_level (numbered 0 levels') k order) (sym same)
        | inr other ↦ pushes h ∙ (rw (ne_eqb h p other) refl) ∙ elsewhere h other
      ];
    }

  -- what is seen of the order
  pub order_is : {q : Queue} → record { order = shown_order numbers lists; levels = levels } ≡ q → order ≡ q.order
  order_is e = sym shown_is ∙ ap (λ v. v.order) e

  -- who is seen in the order, and who not
  pub is_here : {q : Queue} → record { order = shown_order numbers lists; levels = levels } ≡ q → (t : ℕ) (b : Bool) → is_in t q.order ≡ b → is_in t order ≡ b
  is_here e t b h = ap (is_in t) (order_is e) ∙ h

  pub distinct : {q : Queue} → record { order = shown_order numbers lists; levels = levels } ≡ q → IsOrder q.order
  distinct e = subst IsOrder (order_is e) are.stands

  -- whom the top of the lists is
  pub chosen_is : {q : Queue} → record { order = shown_order numbers lists; levels = levels } ≡ q → (o : Option ℕ) → IsTop lists o → o ≡ first_greatest (level_of q) q.order
  unfolding level_of
  chosen_is e o top =
      top_first level lists order o are.each top
      ∙ (λ i. first_greatest (numbered 0 ((e i).levels)) (order_is e i))

pub no_order : (numbers : List ℕ) (lists : List (List ℕ)) → ((h : ℕ) → list_of lists h ≡ []) → shown_order numbers lists ≡ []
unfolding shown_order standing
no_order numbers lists none = ap (ranked (number_of numbers)) (nobody tids)
  where
    nobody : (ts : List ℕ) → filter (λ t. is_some (head_in lists t)) ts ≡ []
    nobody [] = refl
    nobody (t ∷ ts) = let e : is_some (head_in lists t) ≡ false = ap is_some (has_none lists t (λ h. ap (is_in t) (none h))) in rw e (nobody ts)

-- the first of the greatest is none where nobody stands, and a member of the list
pub first_facts : (key : ℕ → ℕ) (xs : List ℕ) (o : Option ℕ) → o ≡ first_greatest key xs → ((IsNone o → xs ≡ []) × (xs ≡ [] → IsNone o)) × IfSome o (λ t. is_in t xs ≡ true)
first_facts key xs o e = subst (λ p. ((IsNone p → xs ≡ []) × (xs ≡ [] → IsNone p)) × IfSome p (λ t. is_in t xs ≡ true)) (sym e) (first_empty key xs, first_member key xs)
