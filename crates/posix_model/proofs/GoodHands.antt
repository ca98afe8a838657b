-- A mutex that changes, and the threads that get it or wait for it, keep a good state good.
use Rattle.std.proofs.Common.{◌≡◌, ◌≢◌, ◌∙◌, ap, sym, refl, subst, ℕ, true, false, List, [], ◌∷◌, Option, Some, None}
use Rattle.std.specs.Prelude.{is_some}
use Rattle.std.proofs.lemmas.Bool.{eq-eqb, ne_eqb}
use Rattle.thread_base.specs.Holders.{is_free}
use Rattle.thread_base.specs.Maps.{put}
use Rattle.thread_base.specs.Numbers.{IsTid}
use Rattle.thread_base.specs.Objects.{cond_mutex}
use Rattle.thread_base.specs.Orders.{without}
use Rattle.thread_base.specs.Priority.{first_greatest}
use Rattle.thread_base.specs.declared.mutex.Holder.TheVariants.{Free, Held}
use Rattle.thread_base.proofs.MapLemmas.{put_same}
use Rattle.thread_base.proofs.PriorityLemmas.{first_in, first_some}
use Rattle.posix_model.specs.State.{State, Thread, Mutex, Condition, Standing, Ready, Waits, EndOf, MutexAt, ConditionAt, aim, target, is_target, is_ready, is_live, wants, count_due}
use Rattle.posix_model.specs.Changes.{begun, resumed}
use Rattle.posix_model.specs.Mutexes.{set_mutex, with_waiter, reply_due, hand_off}
use Rattle.posix_model.specs.Good.{standings, IsGood, IsReadyList, IsSoundMutex, AreSoundConditions, IsCount, IsSoundWait}
use Rattle.posix_model.specs.declared.RetakeReply.{RetakeReply}
use Rattle.posix_model.specs.declared.RetakeReply.TheVariants.{Answer, Cancel}
use Rattle.posix_model.specs.declared.Wait.{Wait}
use Rattle.posix_model.proofs.StandingLemmas.{target_is, wants_waits}
use Rattle.posix_model.proofs.ListLemmas.{each_put}
use Rattle.posix_model.proofs.MutexLemmas.{mutex_held, mutex_freed, mutex_entered, mutex_left, mutexes_put}
use Rattle.posix_model.proofs.ConditionLemmas.{stay_put, conditions_on, conditions_apart}
use Rattle.posix_model.proofs.GoodLemmas.{good_alike, awoken, good_awoken, asleep, good_asleep}

-- one mutex changes, and nothing else
pub good_mutex : (s : State) (m : ℕ) (o : Option Mutex) → IsGood s
    → ((c k : ℕ) → cond_mutex (s.conditions c) ≡ Some k → is_some (s.mutexes k) ≡ true → is_some (put s.mutexes m o k) ≡ true)
    → IsSoundMutex (standings s) m o → IsGood (set_mutex s m o)
good_mutex s m o good stay here =
    good_alike s (set_mutex s m o) refl good good.ready good.joining (each_put (IsSoundMutex (standings s)) s.mutexes m o here (λ k ne. good.mutexes k))
    (conditions_on (standings s) s.mutexes (put s.mutexes m o) s.conditions stay good.conditions) good.waits good.signals

-- who goes on with a mutex is detached where it was
resumed_detached : (thread : Thread) (reply : RetakeReply) → (resumed thread reply).detached ≡ thread.detached
resumed_detached thread (Answer error) = refl
resumed_detached thread Cancel = refl

-- who is first of nobody
first_none : (p : ℕ → ℕ) (xs : List ℕ) → first_greatest p xs ≡ None → xs ≡ []
first_none p [] h = refl
first_none p (x ∷ xs) h = let a = first_some p x xs in let e : Some a.0 ≡ None = sym a.1 ∙ h in absurd (cc)

module _ (s : State) (m : ℕ) (mutex : Mutex) (good : IsGood s) (there : s.mutexes m ≡ Some mutex) where
  pub sound_here : IsSoundMutex (standings s) m (Some mutex)
  sound_here = subst (IsSoundMutex (standings s) m) there (good.mutexes m)

  -- a live thread has the mutex from now on, or has it so often
  pub good_held : (t count : ℕ) → is_live (standings s t) ≡ true → IsCount count → IsGood (set_mutex s m (Some (record mutex { holder = Held t count })))
  good_held t count live many =
      good_mutex s m (Some (record mutex { holder = Held t count })) good (λ c k e. stay_put s.mutexes m (record mutex { holder = Held t count }) k)
      (mutex_held (standings s) m t count mutex live many sound_here)

  -- a thread that waited for no mutex waits after the others for one that is not free, and the conditions change beside
  pub good_queued : (t : ℕ) (wait : Wait) (list : List ℕ) (conditions : ℕ → Option Condition) → is_free mutex.holder ≡ false → IsTid t
      → IsReadyList (put (standings s) t (Waits wait)) list → aim wait ≡ MutexAt m → ((k : ℕ) → wants k (standings s t) ≡ false)
      → AreSoundConditions (put (standings s) t (Waits wait)) s.mutexes conditions → IsSoundWait s.now (Waits wait)
      → IsGood (asleep s t wait list (put s.mutexes m (Some (with_waiter t mutex))) conditions)
  good_queued t wait list conditions taken range listed aims wanted agreed here =
      let st : Standing = Waits wait in
      let mutexes = put s.mutexes m (Some (with_waiter t mutex)) in
      good_asleep s t wait list mutexes conditions good range (λ u. ap (is_target (EndOf u)) aims) listed
      (mutexes_put (standings s) t st s.mutexes good.mutexes m (Some (with_waiter t mutex))
      (λ k ne. ap (is_target (MutexAt k)) aims ∙ ne_eqb m k (λ e. ne (sym e)) ∙ sym (wanted k)) refl
      (mutex_entered (standings s) t st m mutex range (wanted m) (ap (is_target (MutexAt m)) aims ∙ eq-eqb m m refl) refl taken sound_here))
      (conditions_on (put (standings s) t st) s.mutexes mutexes conditions (λ c k e. stay_put s.mutexes m (with_waiter t mutex) k) agreed)
      here

  -- a thread that waited has the mutex from now on, whose list it has left, and becomes ready; the conditions change beside
  pub good_given : (t count : ℕ) (reply : RetakeReply) (ws : List ℕ) (conditions : ℕ → Option Condition) → is_ready (standings s t) ≡ false → IsTid t → IsCount count
      → ((k : ℕ) → k ≢ m → wants k (standings s t) ≡ false)
      → IsSoundMutex (put (standings s) t Ready) m (Some (record mutex { waiters = ws }))
      → AreSoundConditions (put (standings s) t Ready) s.mutexes conditions
      → IsGood (awoken s t (resumed (s.threads t) reply) (put s.mutexes m (Some (record mutex { holder = Held t count; waiters = ws }))) conditions)
  good_given t count reply ws conditions away range many no_other here agreed =
      let given : Mutex = record mutex { holder = Held t count; waiters = ws } in
      good_awoken s t (resumed (s.threads t) reply) (put s.mutexes m (Some given)) conditions good away range
      (λ v j. resumed_detached (s.threads t) reply ∙ (good.joining v t j).joinable)
      (mutexes_put (standings s) t Ready s.mutexes good.mutexes m (Some given) (λ k ne. sym (no_other k ne)) refl
      (mutex_held (put (standings s) t Ready) m t count (record mutex { waiters = ws }) (ap is_live (put_same (standings s) t Ready)) many here))
      (conditions_on (put (standings s) t Ready) s.mutexes (put s.mutexes m (Some given)) conditions (λ c k e. stay_put s.mutexes m given k) agreed)

  -- the mutex is handed over, by whoever is first: to a waiter, who goes on, or to nobody
  pub good_hand_off : (p : ℕ → ℕ) (who : Option ℕ) → first_greatest p mutex.waiters ≡ who → IsGood (hand_off (begun s) m mutex who).state
  good_hand_off p None e =
      good_mutex s m (Some (record mutex { holder = Free })) good (λ c k f. stay_put s.mutexes m (record mutex { holder = Free }) k)
      (mutex_freed (standings s) m mutex (first_none p mutex.waiters e) sound_here)
  good_hand_off p (Some u) e =
      let wanted : wants m (standings s u) ≡ true = sym (sound_here.listed u) ∙ first_in p mutex.waiters u e in
      let is = target_is (MutexAt m) (target (standings s u)) wanted in
      let was = wants_waits m (standings s u) wanted in
      good_given u (count_due (standings s u)) (reply_due (standings s u)) (without u mutex.waiters) s.conditions was.0 (good.within u was.1) (good.waits u).count
      (λ k ne. ap (is_target (MutexAt k)) is ∙ ne_eqb m k (λ f. ne (sym f)))
      (mutex_left (standings s) u Ready m mutex refl refl sound_here)
      (conditions_apart (standings s) s.mutexes u Ready s.conditions (λ c. refl) (λ c. ap (is_target (ConditionAt c)) is) good.conditions)
