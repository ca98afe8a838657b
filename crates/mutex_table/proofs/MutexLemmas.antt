-- The mutexes that a table shows after a change of one mutex or of its waiters.
use Rattle.std.proofs.Common.{◌≡◌, ◌∙◌, refl, sym, ap, arith, inl, inr, ℕ, ◌<◌, ◌≤◌, true, false, ◌-◌, find, is_some, IsSome, IsNone, IfNone, List, [], Option, Some, None, length, get_or, set, replicate, length-set, get_or-set_same, get_or-set_other}
use Rattle.std.proofs.lemmas.Bool.{cases_eq, cases_lt}
use Rattle.std.proofs.lemmas.List.{get_or_default, get_or_past, get_or-replicate, length-replicate}
use Rattle.thread_base.specs.Maps.{put}
use Rattle.thread_base.specs.declared.mutex.Holder.{Holder}
use Rattle.std.specs.List.{range_with_len}
use Rattle.thread_base.proofs.SearchLemmas.{find_none, in_range}
use Rattle.thread_base.proofs.MapLemmas.{put_is, put_same, put_other, first_put, second_put}
use Rattle.link_arena.specs.Waiting.{queue_of}
use Rattle.mutex_table.specs.declared.MutexState.{MutexState}
use Rattle.thread_base.specs.Objects.{waiters_in, with_holder, with_waiters, is_owned_by}
use Rattle.mutex_table.specs.MutexMap.{Table, mutex_of, mutexes, state_of, waiting, AreSound}

state_back : (o : Option MutexState) (ts : List ℕ) → state_of (mutex_of o ts) ≡ o
state_back None ts = refl
state_back (Some state) ts = refl

same_waiters : (o : Option MutexState) (ts : List ℕ) → (IsNone o → ts ≡ []) → waiters_in (mutex_of o ts) ≡ ts
same_waiters None ts h = sym (h refl)
same_waiters (Some state) ts h = refl

changed_waiters : (o : Option MutexState) (ts : List ℕ) (change : List ℕ → List ℕ) → mutex_of o (change ts) ≡ with_waiters change (mutex_of o ts)
changed_waiters None ts change = refl
changed_waiters (Some state) ts change = refl

none_of : (o : Option MutexState) (ts : List ℕ) → IsNone (mutex_of o ts) → IsNone o
none_of None ts h = refl
none_of (Some state) ts h = h

some_of : (o : Option MutexState) (ts : List ℕ) → IsSome (mutex_of o ts) → IsNone o → ⊥
some_of None ts h k = let e : false ≡ true = h in cc
some_of (Some state) ts h k = let e : true ≡ false = k in cc

held_of : (o : Option MutexState) (ts : List ℕ) (state : MutexState) (h : Holder) → state_of (mutex_of o ts) ≡ Some state → mutex_of (Some (record state { holder = h })) ts ≡ with_holder h (mutex_of o ts)
held_of None ts state h e = let f : None ≡ Some state = e in cc
held_of (Some x) ts state h e = let f : Some x ≡ Some state = e in let same : state ≡ x = cc in ap (λ l. mutex_of (Some (record l { holder = h })) ts) same

module _ (states : List (Option MutexState)) (queues : List (List ℕ)) where
  -- a place of the table is the mutex but for its waiters
  pub state_read : (m : ℕ) (x : Option MutexState) → x ≡ get_or states m x → m < length states → x ≡ state_of (mutexes (record { states = states; queues = queues }) m)
  unfolding mutexes
  state_read m x read within = read ∙ get_or_default states m x None within ∙ sym (state_back (get_or states m None) (queue_of queues m))

  pub state_past : (m : ℕ) → length states ≤ m → None ≡ state_of (mutexes (record { states = states; queues = queues }) m)
  unfolding mutexes
  state_past m past = sym (ap (λ o. state_of (mutex_of o (queue_of queues m))) (get_or_past states m None past))

  -- a mutex has a place in the table
  pub within_states : (m : ℕ) → IsSome (mutexes (record { states = states; queues = queues }) m) → m < length states
  unfolding mutexes
  within_states m some =
      elim (cases_lt m (length states)) [
        | inl lt ↦ lt
        | inr ge ↦ absurd (some_of (get_or states m None) (queue_of queues m) some (ap is_some (get_or_past states m None ge)))
      ]

  pub within_shown : (t : Table) → record { states = states; queues = queues } ≡ t → (m : ℕ) → IsSome (mutexes t m) → m < length states
  within_shown t e m some = within_states m (ap (λ u. is_some (mutexes u m)) e ∙ some)

  -- there is no mutex beyond the table
  pub past_states : (m : ℕ) → length states ≤ m → mutexes (record { states = states; queues = queues }) m ≡ None
  unfolding mutexes
  past_states m past = ap (λ o. mutex_of o (queue_of queues m)) (get_or_past states m None past)

  -- where the search finds none, the thread owns no mutex from that number on
  pub none_owned : (t from : ℕ) (o : Option ℕ) → length states ≡ 256
      → o ≡ find (λ m. is_owned_by t (mutexes (record { states = states; queues = queues }) m)) (range_with_len from (256 - from))
      → IfNone o ((m : ℕ) → from ≤ m → is_owned_by t (mutexes (record { states = states; queues = queues }) m) ≡ false)
  none_owned t from (Some k) count e = tt
  none_owned t from None count e = λ m low. elim (cases_lt m 256) [
    | inl lt ↦ find_none (λ k. is_owned_by t (mutexes (record { states = states; queues = queues }) k)) (range_with_len from (256 - from)) m (sym e) (in_range from (256 - from) m low (omega arith))
    | inr ge ↦ ap (is_owned_by t) (past_states m (omega arith))
  ]

  pub has_place : (m : ℕ) → IsSome (mutexes (record { states = states; queues = queues }) m) → IsNone (get_or states m None) → ⊥
  unfolding mutexes
  has_place m some none = some_of (get_or states m None) (queue_of queues m) some none

  -- the place of a mutex that somebody else has
  pub held : (m : ℕ) (state : MutexState) (h : Holder) → state_of (mutexes (record { states = states; queues = queues }) m) ≡ Some state
      → mutex_of (Some (record state { holder = h })) (queue_of queues m) ≡ with_holder h (mutexes (record { states = states; queues = queues }) m)
  unfolding mutexes
  held m state h e = held_of (get_or states m None) (queue_of queues m) state h e

  -- one place was written
  pub states_set : (m : ℕ) (o : Option MutexState) → m < length states
      → mutexes (record { states = set states m o; queues = queues }) ≡ put (mutexes (record { states = states; queues = queues })) m (mutex_of o (queue_of queues m))
  unfolding mutexes
  states_set m o within =
      ap (λ f k. mutex_of (f k) (queue_of queues k)) (put_is (λ k. get_or states k None) (λ k. get_or (set states m o) k None) m o (get_or-set_same states m o None within) (λ k ne. get_or-set_other states m k o None ne))
      ∙ first_put mutex_of (λ k. get_or states k None) (queue_of queues) m o

  -- the waiters of one number have changed
  pub queue_set : (others : List (List ℕ)) (m : ℕ) (change : List ℕ → List ℕ) → queue_of others ≡ put (queue_of queues) m (change (queue_of queues m))
      → mutexes (record { states = states; queues = others })
      ≡ put (mutexes (record { states = states; queues = queues })) m (with_waiters change (mutexes (record { states = states; queues = queues }) m))
  unfolding mutexes
  queue_set others m change e =
      ap (λ f k. mutex_of (get_or states k None) (f k)) e
      ∙ second_put mutex_of (λ k. get_or states k None) (queue_of queues) m (change (queue_of queues m))
      ∙ ap (put (λ k. mutex_of (get_or states k None) (queue_of queues k)) m) (changed_waiters (get_or states m None) (queue_of queues m) change)

  module _ (sound : AreSound states queues) where
    -- who waits for the mutexes is who stands in the lists
    pub waiting_is : waiting (mutexes (record { states = states; queues = queues })) ≡ queue_of queues
    unfolding mutexes
    waiting_is = λ i m. same_waiters (get_or states m None) (queue_of queues m) (sound.empty m) i

    pub seen : (t : Table) → record { states = states; queues = queues } ≡ t → queue_of queues ≡ waiting (mutexes t)
    seen t e = sym waiting_is ∙ ap (λ u. waiting (mutexes u)) e

    -- a mutex that was no mutex has no waiters
    pub fresh_queue : (m : ℕ) → IsNone (mutexes (record { states = states; queues = queues }) m) → queue_of queues m ≡ []
    unfolding mutexes
    fresh_queue m none = sound.empty m (none_of (get_or states m None) (queue_of queues m) none)

    -- a write of one place keeps this, where nobody waits or there is a mutex
    pub sound_set : (m : ℕ) (o : Option MutexState) → m < length states → (IsNone o → queue_of queues m ≡ []) → AreSound (set states m o) queues
    sound_set m o within idle = record {
      count = length-set states m o ∙ sound.count;
      empty = λ k. elim (cases_eq k m) [
        | inl same ↦ λ none. ap (queue_of queues) same ∙ idle (ap is_some (sym (ap (λ j. get_or (set states m o) j None) same ∙ get_or-set_same states m o None within)) ∙ none)
        | inr other ↦ λ none. sound.empty k (ap is_some (sym (get_or-set_other states m k o None other)) ∙ none)
      ];
    }

    -- and so does a change of the waiters of a mutex, or one that leaves nobody where nobody was
    pub sound_queue : (others : List (List ℕ)) (m : ℕ) (change : List ℕ → List ℕ) → queue_of others ≡ put (queue_of queues) m (change (queue_of queues m))
        → (IsNone (get_or states m None) → change [] ≡ []) → AreSound states others
    sound_queue others m change e stays = record {
      count = sound.count;
      empty = λ k. elim (cases_eq k m) [
        | inl same ↦ λ none.
            (let here : IsNone (get_or states m None) = ap (λ j. is_some (get_or states j None)) (sym same) ∙ none in
            ap (λ f. f k) e ∙ ap (put (queue_of queues) m (change (queue_of queues m))) same ∙ put_same (queue_of queues) m (change (queue_of queues m))
            ∙ ap change (sound.empty m here) ∙ stays here)
        | inr other ↦ λ none. ap (λ f. f k) e ∙ put_other (queue_of queues) m (change (queue_of queues m)) k other ∙ sound.empty k none
      ];
    }

blank : {A : Type 0} (none : A) (n m : ℕ) → get_or (replicate n none) m none ≡ none
blank none n m =
    elim (cases_lt m n) [
      | inl lt ↦ get_or-replicate n m none none lt
      | inr ge ↦ get_or_past (replicate n none) m none (omega (arith, length-replicate n none))
    ]

pub no_mutexes : (n : ℕ) (queues : List (List ℕ)) → mutexes (record { states = replicate n None; queues = queues }) ≡ (λ m. None)
unfolding mutexes
no_mutexes n queues = λ i m. ap (λ o. mutex_of o (queue_of queues m)) (blank None n m) i
