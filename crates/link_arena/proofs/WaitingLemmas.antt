-- Lists of waiting threads: how they stand in lists of nodes, and what one is after a change of it.
use Rattle.std.proofs.Common.{◌≡◌, ◌≢◌, ◌∙◌, refl, sym, ap, subst, arith, inl, inr, ℕ, ◌<◌, true, false, List, [], ◌∷◌, ◌++◌, Option, Some, None, length, replicate, Bool, not, is_some, IsSome, IfSome, IfNone, get_or, set, length-set, get_or-set_same, get_or-set_other, eqb, ◌≤◌}
use Rattle.std.proofs.lemmas.Bool.{eq-eqb, cases_eq, cases_lt, cases_Bool, or_left, or_right}
use Rattle.std.proofs.lemmas.List.{get_or_past, get_or-replicate, length-replicate, length-map}
use Rattle.thread_base.specs.Maps.{put}
use Rattle.thread_base.specs.Orders.{is_in, is_nil, without, IsOrder}
use Rattle.thread_base.proofs.MapLemmas.{put_is, put_same, put_other}
use Rattle.thread_base.proofs.OrderLemmas.{is_in-push, not_in-without, is_in-without, without_absent, room}
use Rattle.link_arena.specs.Chains.{NodeLists, StandsOnce, list_of, head_in, first_of, next_in, after_in, pushed, unlinked, AreApart as AreLists}
use Rattle.link_arena.specs.Waiting.{queue_of, StandsInNone, AreApart, AreQueues}
use Rattle.link_arena.proofs.ListLemmas.{list_unlinked, has_none, has_place, next_at}

pub queue_set : (lists : List (List ℕ)) (n : ℕ) (x : List ℕ) → n < length lists → queue_of (set lists n x) ≡ put (queue_of lists) n x
unfolding queue_of
queue_set lists n x within =
    put_is (λ k. get_or lists k []) (λ k. get_or (set lists n x) k []) n x
    (get_or-set_same lists n x [] within)
    (λ k ne. get_or-set_other lists n k x [] ne)

-- where a thread stands there is a list
pub within_lists : (lists : List (List ℕ)) (n t : ℕ) → is_in t (queue_of lists n) ≡ true → n < length lists
unfolding queue_of
within_lists lists n t h =
    elim (cases_lt n (length lists)) [
      | inl lt ↦ lt
      | inr ge ↦ absurd (let e : is_in t [] ≡ true = subst (λ ts. is_in t ts ≡ true) (get_or_past lists n [] ge) h in let f : false ≡ true = e in cc)
    ]

-- a list of threads is a list of nodes
pub queue_is : (lists : List (List ℕ)) (n : ℕ) → queue_of lists n ≡ list_of lists n
unfolding queue_of
queue_is lists n = refl

-- no thread stands anywhere
pub no_queues : (links : NodeLists) → links ≡ record { nodes = 65; lists = replicate 256 [] } → queue_of links.lists ≡ (λ n. [])
unfolding queue_of
no_queues links e = λ i n. (ap (λ l. list_of l.lists n) e ∙ none n) i
  where
    none : (n : ℕ) → list_of (replicate 256 []) n ≡ []
    none n =
        elim (cases_lt n 256) [
          | inl low ↦ get_or-replicate 256 n [] [] low
          | inr past ↦ get_or_past (replicate 256 []) n [] (omega (arith, length-replicate {A = List ℕ} 256 []))
        ]

nothing_in : (x n : ℕ) (queues : ℕ → List ℕ) → queues ≡ (λ n. []) → is_in x (queues n) ≡ true → ⊥
nothing_in x n queues none stands = let f : is_in x [] ≡ true = subst (λ q. is_in x (q n) ≡ true) none stands in let g : false ≡ true = f in cc

pub new_queues : (links : NodeLists) → links ≡ record { nodes = 65; lists = replicate 256 [] } → AreQueues links
new_queues links e =
    let none = no_queues links e in
    let alone : (n : ℕ) → list_of links.lists n ≡ [] = λ n. sym (queue_is links.lists n) ∙ ap (λ q. q n) none in
    record {
      nodes = ap (λ l. l.nodes) e;
      count = ap (λ l. length l.lists) e ∙ length-replicate {A = List ℕ} 256 [];
      apart = record {
        once = λ n. subst StandsOnce (sym (alone n)) tt;
        one = λ m n t is also. absurd (nothing_in t m (queue_of links.lists) none (ap (is_in t) (queue_is links.lists m) ∙ is));
        below = λ n t is. absurd (nothing_in t n (queue_of links.lists) none (ap (is_in t) (queue_is links.lists n) ∙ is));
      };
      threads = λ n t is. absurd (nothing_in t n (queue_of links.lists) none is);
    }

order_of : (ts : List ℕ) → StandsOnce ts → ((t : ℕ) → is_in t ts ≡ true → (1 ≤ t) × (t ≤ 64)) → IsOrder ts
order_of [] once within = tt
order_of (t ∷ ts) once within =
    let this = within t (or_left (eqb t t) (is_in t ts) (eq-eqb t t refl)) in
    (this.0, this.1, once.0, order_of ts once.1 (λ u is. within u (or_right (eqb u t) (is_in u ts) is)))

module _ (links : NodeLists) (are : AreQueues links) where
  -- who stands in a list is a thread
  pub threads_in : (n t : ℕ) → is_in t (queue_of links.lists n) ≡ true → (1 ≤ t) × (t ≤ 64)
  threads_in n t is =
      let low = are.apart.below n t (ap (is_in t) (sym (queue_is links.lists n)) ∙ is) in
      (are.threads n t is, omega (arith, are.nodes))

  pub once_in : (n : ℕ) → StandsOnce (queue_of links.lists n)
  once_in n = subst StandsOnce (sym (queue_is links.lists n)) (are.apart.once n)

  pub apart_of : AreApart (queue_of links.lists)
  apart_of = record {
    order = λ n. order_of (queue_of links.lists n) (once_in n) (threads_in n);
    once = λ m n t is also. are.apart.one m n t (ap (is_in t) (sym (queue_is links.lists m)) ∙ is) (ap (is_in t) (sym (queue_is links.lists n)) ∙ also);
  }

  -- a list has a place for each thread
  pub at_most_64 : (n : ℕ) → length (queue_of links.lists n) ≤ 64
  at_most_64 n = few (queue_of links.lists n) (apart_of.order n)
    where
      few : (ts : List ℕ) → IsOrder ts → length ts ≤ 64
      few [] h = omega arith
      few (t ∷ ts) h = let r = room ts t h.3 h.0 h.1 h.2 in omega arith

  pub free_in : (t : ℕ) → StandsInNone t (queue_of links.lists) → head_in links.lists t ≡ None
  free_in t none = has_none links.lists t (λ n. ap (is_in t) (sym (queue_is links.lists n)) ∙ none n)

  pub stands_in : (t n : ℕ) → is_in t (queue_of links.lists n) ≡ true → IsSome (head_in links.lists t)
  stands_in t n is = has_place links.lists t n (ap (is_in t) (sym (queue_is links.lists n)) ∙ is)

  -- the node after a thread of a list
  pub after_in_queue : (n t : ℕ) (o : Option ℕ) → o ≡ next_in links.lists t → is_in t (queue_of links.lists n) ≡ true → o ≡ after_in t (queue_of links.lists n)
  after_in_queue n t o e is =
      e ∙ next_at links t n are.apart (ap (is_in t) (sym (queue_is links.lists n)) ∙ is) ∙ ap (after_in t) (sym (queue_is links.lists n))

  -- a thread comes after all others of a list
  pub push_is : (n t : ℕ) → n < 256 → queue_of (pushed n t links).lists ≡ put (queue_of links.lists) n (queue_of links.lists n ++ t ∷ [])
  push_is n t low =
      queue_set links.lists n (list_of links.lists n ++ t ∷ []) (omega (arith, are.count))
      ∙ ap (λ ts. put (queue_of links.lists) n (ts ++ t ∷ [])) (sym (queue_is links.lists n))

  pub push_queues : (n t : ℕ) → n < 256 → 1 ≤ t → AreLists (pushed n t links) → AreQueues (pushed n t links)
  push_queues n t low thread apart = record {
    nodes = are.nodes;
    count = length-set links.lists n (list_of links.lists n ++ t ∷ []) ∙ are.count;
    apart = apart;
    threads = λ m u is. elim (cases_eq u t) [
      | inl same ↦ omega (arith, same)
      | inr other ↦ are.threads m u (sym (stays m u other) ∙ is)
    ];
  }
    where
      stays : (m u : ℕ) → u ≢ t → is_in u (queue_of (pushed n t links).lists m) ≡ is_in u (queue_of links.lists m)
      stays m u other =
          ap (λ q. is_in u (q m)) (push_is n t low)
          ∙ (elim (cases_eq m n) [
            | inl same ↦ ap (λ k. is_in u (put (queue_of links.lists) n (queue_of links.lists n ++ t ∷ []) k)) same ∙ ap (is_in u) (put_same (queue_of links.lists) n (queue_of links.lists n ++ t ∷ [])) ∙ is_in-push t u (queue_of links.lists n) other ∙ ap (λ k. is_in u (queue_of links.lists k)) (sym same)
            | inr differs ↦ ap (is_in u) (put_other (queue_of links.lists) n (queue_of links.lists n ++ t ∷ []) m differs)
          ])

  left_is : (t m : ℕ) → queue_of (unlinked t links).lists m ≡ without t (queue_of links.lists m)
  left_is t m = queue_is (unlinked t links).lists m ∙ list_unlinked links.lists t m ∙ ap (without t) (sym (queue_is links.lists m))

  -- a thread leaves its list
  pub unlink_is : (t n : ℕ) → is_in t (queue_of links.lists n) ≡ true → queue_of (unlinked t links).lists ≡ put (queue_of links.lists) n (without t (queue_of links.lists n))
  unlink_is t n is =
      put_is (queue_of links.lists) (queue_of (unlinked t links).lists) n (without t (queue_of links.lists n)) (left_is t n)
      (λ m other. left_is t m ∙ without_absent t (queue_of links.lists m) (out m other))
    where
      out : (m : ℕ) → m ≢ n → is_in t (queue_of links.lists m) ≡ false
      out m other =
          elim (cases_Bool (is_in t (queue_of links.lists m))) [
            | inl there ↦ absurd (other (apart_of.once m n t there is))
            | inr absent ↦ absent
          ]

  pub unlink_queues : (t : ℕ) → AreLists (unlinked t links) → AreQueues (unlinked t links)
  unlink_queues t apart = record {
    nodes = are.nodes;
    count = length-map links.lists (without t) ∙ are.count;
    apart = apart;
    threads = λ m u is. elim (cases_eq u t) [
      | inl same ↦ absurd (let f : true ≡ false = sym is ∙ ap (is_in u) (left_is t m) ∙ ap (λ v. is_in v (without t (queue_of links.lists m))) same ∙ not_in-without t (queue_of links.lists m) in cc)
      | inr other ↦ are.threads m u (sym (ap (is_in u) (left_is t m) ∙ is_in-without t u (queue_of links.lists m) other) ∙ is)
    ];
  }

  -- where a walk stands in a list
  pub walk_thread : (n : ℕ) (o : Option ℕ) (t : ℕ) → o ≡ Some t → IfSome o (λ u. is_in u (queue_of links.lists n) ≡ true) → is_in t (queue_of links.lists n) ≡ true
  walk_thread n o t at within = let there = subst (λ p. IfSome p (λ u. is_in u (queue_of links.lists n) ≡ true)) at within in there

-- an option with a value has what it says of it, and one without what it says of none
pub some_has : (o : Option ℕ) (P : ℕ → Type 0) → is_some o ≡ true → IfSome o P → (n : ℕ) × P n
some_has None P e h = absurd (let f : false ≡ true = e in cc)
some_has (Some n) P e h = (n, h)

pub none_has : (o : Option ℕ) (P : Type 0) → is_some o ≡ false → IfNone o P → P
none_has None P e h = h
none_has (Some n) P e h = absurd (let f : true ≡ false = e in cc)

pub nil_first : (ns : List ℕ) (o : Option ℕ) (b : Bool) → o ≡ first_of ns → is_some o ≡ not b → b ≡ is_nil ns
nil_first [] o b e f = let g : false ≡ not b = ap is_some (sym e) ∙ f in turned b g
  where
    turned : (b : Bool) → false ≡ not b → b ≡ true
    turned true g = refl
    turned false g = absurd (let h : false ≡ true = g in cc)
nil_first (n ∷ ns) o b e f = let g : true ≡ not b = ap is_some (sym e) ∙ f in turned b g
  where
    turned : (b : Bool) → true ≡ not b → b ≡ false
    turned false g = refl
    turned true g = absurd (let h : true ≡ false = g in cc)
