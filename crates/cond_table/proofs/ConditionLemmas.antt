-- The conditions that a table shows after a change of one condition or of its waiters.
use Rattle.std.proofs.Common.{◌≡◌, ◌∙◌, refl, sym, ap, arith, inl, inr, ℕ, ◌<◌, ◌≤◌, true, false, is_some, IsSome, IsNone, List, [], ◌∷◌, ◌++◌, Option, Some, None, length, get_or, set, replicate, length-set, get_or-set_same, get_or-set_other, Bool}
use Rattle.std.specs.Option.{ForSome}
use Rattle.std.specs.List.{list_any}
use Rattle.std.proofs.lemmas.Bool.{cases_eq, cases_lt, cases_Bool, eq-eqb, eqb-true}
use Rattle.std.proofs.lemmas.List.{get_or_default, get_or_past, get_or-replicate, length-replicate}
use Rattle.thread_base.specs.Maps.{put}
use Rattle.thread_base.specs.Orders.{is_nil, without}
use Rattle.thread_base.proofs.SearchLemmas.{any_none, in_range}
use Rattle.thread_base.proofs.MapLemmas.{put_is, put_same, put_other, first_put, second_put, both_put}
use Rattle.link_arena.specs.Waiting.{queue_of}
use Rattle.thread_base.specs.Objects.{Condition, still_bound, cond_mutex, cond_waiters, entered, without_waiter, is_mutex, condition_numbers}
use Rattle.cond_table.specs.ConditionMap.{Table, condition_of, conditions, waiting, AreSound}

same_waiters : (o : Option ℕ) (ts : List ℕ) → (IsNone o → ts ≡ []) → cond_waiters (condition_of o ts) ≡ ts
same_waiters None ts h = sym (h refl)
same_waiters (Some m) ts h = refl

same_exists : (o : Option ℕ) (ts : List ℕ) → is_some (condition_of o ts) ≡ is_some o
same_exists None ts = refl
same_exists (Some m) ts = refl

empty_mutex : (o : Option ℕ) (ts : List ℕ) → ts ≡ [] → cond_mutex (condition_of o ts) ≡ None
empty_mutex None ts e = refl
empty_mutex (Some m) ts e = ap (still_bound (Some m)) e

some_mutex : (o : Option ℕ) (ts : List ℕ) → (ts ≡ [] → ⊥) → cond_mutex (condition_of o ts) ≡ o
some_mutex None ts some = refl
some_mutex (Some m) [] some = absurd (some refl)
some_mutex (Some m) (t ∷ ts) some = refl

joined : (o : Option ℕ) (ts : List ℕ) (t m : ℕ) → IsSome o → ForSome (cond_mutex (condition_of o ts)) (λ n. n ≡ m)
    → condition_of (Some m) (ts ++ t ∷ []) ≡ entered t m (condition_of o ts)
joined None ts t m some bound = absurd (let e : false ≡ true = some in cc)
joined (Some n) [] t m some bound = refl
joined (Some n) (u ∷ us) t m some bound = refl

left : (o : Option ℕ) (ts : List ℕ) (t : ℕ) → condition_of o (without t ts) ≡ without_waiter t (condition_of o ts)
left None ts t = refl
left (Some m) [] t = refl
left (Some m) (u ∷ us) t = refl

module _ (mutexes : List (Option ℕ)) (queues : List (List ℕ)) where
  -- there is a condition where the table has one at its place
  pub exists_read : (c : ℕ) (x : Option ℕ) → x ≡ get_or mutexes c x → c < length mutexes → is_some x ≡ is_some (conditions (record { mutexes = mutexes; queues = queues }) c)
  unfolding conditions
  exists_read c x read within = ap is_some (read ∙ get_or_default mutexes c x None within) ∙ sym (same_exists (get_or mutexes c None) (queue_of queues c))

  -- there is no condition beyond the table
  pub past_mutexes : (c : ℕ) → length mutexes ≤ c → conditions (record { mutexes = mutexes; queues = queues }) c ≡ None
  unfolding conditions
  past_mutexes c past = ap (λ o. condition_of o (queue_of queues c)) (get_or_past mutexes c None past)

  -- a condition has a place in the table
  pub has_place : (c : ℕ) → IsSome (conditions (record { mutexes = mutexes; queues = queues }) c) → IsSome (get_or mutexes c None)
  unfolding conditions
  has_place c some = sym (same_exists (get_or mutexes c None) (queue_of queues c)) ∙ some

  pub within_mutexes : (c : ℕ) → IsSome (conditions (record { mutexes = mutexes; queues = queues }) c) → c < length mutexes
  within_mutexes c some =
      elim (cases_lt c (length mutexes)) [
        | inl lt ↦ lt
        | inr ge ↦ absurd (let e : false ≡ true = sym (ap is_some (past_mutexes c ge)) ∙ some in cc)
      ]

  pub within_shown : (t : Table) → record { mutexes = mutexes; queues = queues } ≡ t → (c : ℕ) → IsSome (conditions t c) → c < length mutexes
  within_shown t e c some = within_mutexes c (ap (λ u. is_some (conditions u c)) e ∙ some)

  pub place_read : (c : ℕ) (x : Option ℕ) → x ≡ get_or mutexes c x → c < length mutexes → IsSome (conditions (record { mutexes = mutexes; queues = queues }) c) → IsSome x
  place_read c x read within some = ap is_some (read ∙ get_or_default mutexes c x None within) ∙ has_place c some

  -- the mutex of a condition with waiters and without
  pub mutex_read : (c : ℕ) (x : Option ℕ) → x ≡ get_or mutexes c x → c < length mutexes → (queue_of queues c ≡ [] → ⊥) → x ≡ cond_mutex (conditions (record { mutexes = mutexes; queues = queues }) c)
  unfolding conditions
  mutex_read c x read within some = read ∙ get_or_default mutexes c x None within ∙ sym (some_mutex (get_or mutexes c None) (queue_of queues c) some)

  pub no_mutex : (c : ℕ) → queue_of queues c ≡ [] → None ≡ cond_mutex (conditions (record { mutexes = mutexes; queues = queues }) c)
  unfolding conditions
  no_mutex c empty = sym (empty_mutex (get_or mutexes c None) (queue_of queues c) empty)

  -- one place was written
  pub mutexes_set : (c : ℕ) (o : Option ℕ) → c < length mutexes
      → conditions (record { mutexes = set mutexes c o; queues = queues }) ≡ put (conditions (record { mutexes = mutexes; queues = queues })) c (condition_of o (queue_of queues c))
  unfolding conditions
  mutexes_set c o within =
      ap (λ f k. condition_of (f k) (queue_of queues k)) (put_is (λ k. get_or mutexes k None) (λ k. get_or (set mutexes c o) k None) c o (get_or-set_same mutexes c o None within) (λ k ne. get_or-set_other mutexes c k o None ne))
      ∙ first_put condition_of (λ k. get_or mutexes k None) (queue_of queues) c o

  -- one place was written, and a thread put after its waiters
  pub joined_set : (others : List (List ℕ)) (c t m : ℕ) → IsSome (conditions (record { mutexes = mutexes; queues = queues }) c)
      → ForSome (cond_mutex (conditions (record { mutexes = mutexes; queues = queues }) c)) (λ n. n ≡ m)
      → c < length mutexes → queue_of others ≡ put (queue_of queues) c (queue_of queues c ++ t ∷ [])
      → conditions (record { mutexes = set mutexes c (Some m); queues = others })
      ≡ put (conditions (record { mutexes = mutexes; queues = queues })) c (entered t m (conditions (record { mutexes = mutexes; queues = queues }) c))
  unfolding conditions
  joined_set others c t m some bound within e =
      let places : (λ k. get_or (set mutexes c (Some m)) k None) ≡ put (λ k. get_or mutexes k None) c (Some m) =
      put_is (λ k. get_or mutexes k None) (λ k. get_or (set mutexes c (Some m)) k None) c (Some m) (get_or-set_same mutexes c (Some m) None within) (λ k ne. get_or-set_other mutexes c k (Some m) None ne) in
      (λ i k. condition_of (places i k) (e i k))
      ∙ both_put condition_of (λ k. get_or mutexes k None) (queue_of queues) c (Some m) (queue_of queues c ++ t ∷ [])
      ∙ ap (put (λ k. condition_of (get_or mutexes k None) (queue_of queues k)) c)
      (joined (get_or mutexes c None) (queue_of queues c) t m (sym (same_exists (get_or mutexes c None) (queue_of queues c)) ∙ some) bound)

  -- a thread was taken out of the waiters of one number
  pub left_set : (others : List (List ℕ)) (c t : ℕ) → queue_of others ≡ put (queue_of queues) c (without t (queue_of queues c))
      → conditions (record { mutexes = mutexes; queues = others })
      ≡ put (conditions (record { mutexes = mutexes; queues = queues })) c (without_waiter t (conditions (record { mutexes = mutexes; queues = queues }) c))
  unfolding conditions
  left_set others c t e =
      ap (λ f k. condition_of (get_or mutexes k None) (f k)) e
      ∙ second_put condition_of (λ k. get_or mutexes k None) (queue_of queues) c (without t (queue_of queues c))
      ∙ ap (put (λ k. condition_of (get_or mutexes k None) (queue_of queues k)) c) (left (get_or mutexes c None) (queue_of queues c) t)

  module _ (sound : AreSound mutexes queues) where
    -- who waits for the conditions is who stands in the lists
    pub waiting_is : waiting (conditions (record { mutexes = mutexes; queues = queues })) ≡ queue_of queues
    unfolding conditions
    waiting_is = λ i c. same_waiters (get_or mutexes c None) (queue_of queues c) (sound.empty c) i

    pub seen : (t : Table) → record { mutexes = mutexes; queues = queues } ≡ t → queue_of queues ≡ waiting (conditions t)
    seen t e = sym waiting_is ∙ ap (λ u. waiting (conditions u)) e

    -- a number that is no condition's has no waiters
    pub fresh_queue : (c : ℕ) → IsNone (conditions (record { mutexes = mutexes; queues = queues }) c) → queue_of queues c ≡ []
    unfolding conditions
    fresh_queue c none = sound.empty c (sym (same_exists (get_or mutexes c None) (queue_of queues c)) ∙ none)

    -- a write of one place keeps this, where nobody waits or there is a condition
    pub sound_set : (c : ℕ) (o : Option ℕ) → c < length mutexes → (IsNone o → queue_of queues c ≡ []) → AreSound (set mutexes c o) queues
    sound_set c o within idle = record {
      count = length-set mutexes c o ∙ sound.count;
      empty = λ k. elim (cases_eq k c) [
        | inl same ↦ λ none. ap (queue_of queues) same ∙ idle (ap is_some (sym (ap (λ j. get_or (set mutexes c o) j None) same ∙ get_or-set_same mutexes c o None within)) ∙ none)
        | inr other ↦ λ none. sound.empty k (ap is_some (sym (get_or-set_other mutexes c k o None other)) ∙ none)
      ];
    }

    -- and so does a change of the waiters of a condition, or one that leaves nobody where nobody was
    pub sound_queue : (others : List (List ℕ)) (c : ℕ) (change : List ℕ → List ℕ) → queue_of others ≡ put (queue_of queues) c (change (queue_of queues c))
        → (IsNone (get_or mutexes c None) → change [] ≡ []) → AreSound mutexes others
    sound_queue others c change e stays = record {
      count = sound.count;
      empty = λ k. elim (cases_eq k c) [
        | inl same ↦ λ none.
            (let here : IsNone (get_or mutexes c None) = ap (λ j. is_some (get_or mutexes j None)) (sym same) ∙ none in
            ap (λ f. f k) e ∙ ap (put (queue_of queues) c (change (queue_of queues c))) same ∙ put_same (queue_of queues) c (change (queue_of queues c))
            ∙ ap change (sound.empty c here) ∙ stays here)
        | inr other ↦ λ none. ap (λ f. f k) e ∙ put_other (queue_of queues) c (change (queue_of queues c)) k other ∙ sound.empty k none
      ];
    }

-- both a write of a condition's place and a thread after its waiters
pub sound_joined : (mutexes : List (Option ℕ)) (queues others : List (List ℕ)) → AreSound mutexes queues → (c t m : ℕ) → c < length mutexes
    → queue_of others ≡ put (queue_of queues) c (queue_of queues c ++ t ∷ []) → AreSound (set mutexes c (Some m)) others
sound_joined mutexes queues others sound c t m within e =
    sound_queue (set mutexes c (Some m)) queues (sound_set mutexes queues sound c (Some m) within (λ none. absurd (let f : true ≡ false = none in cc)))
    others c (λ ts. ts ++ t ∷ []) e (λ none. absurd (let f : true ≡ false = sym (ap is_some (get_or-set_same mutexes c (Some m) None within)) ∙ none in cc))

-- a list of no length is empty, and no other is
pub nobody : (ts : List ℕ) → is_nil ts ≡ true → ts ≡ []
nobody [] e = refl
nobody (t ∷ ts) e = absurd (let f : false ≡ true = e in cc)

pub somebody : (ts : List ℕ) → is_nil ts ≡ false → ts ≡ [] → ⊥
somebody ts e empty = let f : true ≡ false = sym (ap is_nil empty) ∙ e in cc

blank : {A : Type 0} (none : A) (n m : ℕ) → get_or (replicate n none) m none ≡ none
blank none n m =
    elim (cases_lt m n) [
      | inl lt ↦ get_or-replicate n m none none lt
      | inr ge ↦ get_or_past (replicate n none) m none (omega (arith, length-replicate n none))
    ]

pub no_conditions : (n : ℕ) (queues : List (List ℕ)) → conditions (record { mutexes = replicate n None; queues = queues }) ≡ (λ c. None)
unfolding conditions
no_conditions n queues = λ i c. ap (λ o. condition_of o (queue_of queues c)) (blank None n c) i

found : (test : ℕ → Bool) (xs : List ℕ) → list_any test xs ≡ true → (c : ℕ) × (test c ≡ true)
found test [] e = absurd (let f : false ≡ true = e in cc)
found test (x ∷ xs) e =
    elim (cases_Bool (test x)) [
      | inl passes ↦ (x, passes)
      | inr fails ↦ found test xs (rw fails at e)
    ]

mutex_found : (m : ℕ) (o : Option ℕ) → is_mutex m o ≡ true → o ≡ Some m
mutex_found m None e = let f : false ≡ true = e in cc
mutex_found m (Some n) e = ap Some (eqb-true n m e)

is_found : (m : ℕ) (o : Option ℕ) → o ≡ Some m → is_mutex m o ≡ true
is_found m o e = ap (is_mutex m) e ∙ eq-eqb m m refl

-- a search of the numbers finds each condition that waiters use with a mutex, where none has a number beyond
pub uses_found : (map : ℕ → Option Condition) (m : ℕ) → ((c : ℕ) → 256 ≤ c → map c ≡ None) → (b : Bool) → b ≡ list_any (λ c. is_mutex m (cond_mutex (map c))) condition_numbers
    → (b ≡ true → (c : ℕ) × (cond_mutex (map c) ≡ Some m)) × ((c : ℕ) × (cond_mutex (map c) ≡ Some m) → b ≡ true)
unfolding condition_numbers
uses_found map m beyond b e = (
  λ passes. (let found_at = found (λ c. is_mutex m (cond_mutex (map c))) condition_numbers (sym e ∙ passes) in (found_at.0, mutex_found m (cond_mutex (map found_at.0)) found_at.1)),
  λ some. elim (cases_Bool b) [
    | inl passes ↦ passes
    | inr fails ↦ elim (cases_lt some.0 256) [
      | inl low ↦
          absurd (let f : true ≡ false = sym (is_found m (cond_mutex (map some.0)) some.1) ∙ any_none (λ c. is_mutex m (cond_mutex (map c))) condition_numbers some.0 (sym e ∙ fails) (in_range 0 256 some.0 (omega arith) (omega arith)) in cc)
      | inr high ↦ absurd (let f : None ≡ Some m = sym (ap cond_mutex (beyond some.0 high)) ∙ some.1 in cc)
    ]
  ],
)
