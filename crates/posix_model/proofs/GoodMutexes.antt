-- Each call of a mutex keeps a good state good.
use Rattle.std.proofs.Common.{◌≡◌, ◌∙◌, ap, refl, ℕ, ◌+◌, ◌-◌, ◌≤◌, Bool, true, false, not, [], ◌∷◌, Some, None, arith}
use Rattle.std.specs.Prelude.{◌==◌, ◌&&◌, ◌||◌, if◌then◌else◌, is_some}
use Rattle.std.proofs.lemmas.Bool.{eqb-false, not-false, and_parts, or_parts}
use Rattle.thread_base.specs.Holders.{is_held_by, count_of, is_free}
use Rattle.thread_base.specs.Objects.{holder_in}
use Rattle.thread_base.specs.Orders.{without}
use Rattle.thread_base.specs.declared.Errno.TheVariants.{EPERM, EAGAIN, EBUSY, EINVAL, EDEADLK}
use Rattle.thread_base.specs.declared.mutex.Holder.TheVariants.{Held}
use Rattle.thread_base.proofs.MapLemmas.{put_other}
use Rattle.posix_model.specs.State.{State, Mutex, Standing, Waits, is_ready}
use Rattle.posix_model.specs.Scheduling.{eff}
use Rattle.posix_model.specs.Changes.{begun}
use Rattle.posix_model.specs.Mutexes.{most_locks, set_mutex, locked_by, best_waiter, hand_off}
use Rattle.posix_model.specs.Conditions.{is_used}
use Rattle.posix_model.specs.Replies.{values}
use Rattle.posix_model.specs.MutexCalls.{new_mutex, cannot_init, mutex_init, destroy_of, mutex_destroy, is_checked, is_counted, is_full, is_open_to, take, queue, lock_of, lock, trylock_of, trylock, released, unlock_of, unlock, mutex_calls}
use Rattle.posix_model.specs.Good.{standings, IsGood, IsSoundMutex}
use Rattle.posix_model.specs.declared.Wait.TheVariants.{Mutex as OfMutex}
use Rattle.posix_model.proofs.StandingLemmas.{is_none, ready_live, ready_wants, ready_waits_on, once, steady}
use Rattle.posix_model.proofs.MutexLemmas.{is_none_held, mutex_idle, nobody_wants}
use Rattle.posix_model.proofs.ConditionLemmas.{stay_put, conditions_apart, used_other}
use Rattle.posix_model.proofs.GoodLemmas.{good_reply, ready_without}
use Rattle.posix_model.proofs.GoodReplies.{GoodCall, IsGoodRow, AreGoodRows, good_refusing, good_lookup}
use Rattle.posix_model.proofs.GoodHands.{good_mutex, sound_here, good_held, good_queued, good_hand_off}

good_mutex_init : IsGoodRow mutex_init
good_mutex_init s t c good ready =
    let m = c.a0 in
    let mutex = new_mutex c.a1 in
    good_refusing s t ((cannot_init c, EINVAL) ∷ (is_some (s.mutexes m), EBUSY) ∷ []) (values (begun (set_mutex s m (Some mutex))) t 0 0) good (λ fits.
    good_reply (set_mutex s m (Some mutex)) t 0 0
    (good_mutex s m (Some mutex) good (λ d k e. stay_put s.mutexes m mutex k)
    (mutex_idle (standings s) m (Some mutex)
    (nobody_wants (standings s) m (s.mutexes m) (good.mutexes m) (ap (λ o. is_free (holder_in o)) (is_none (s.mutexes m) fits.1.0))) refl refl)))

-- a mutex that is not full counts once more
room_for : (free counted : Bool) (n : ℕ) → (free ≡ true → n ≡ 0) → (counted ≡ true → n ≤ most_locks) → counted && n == most_locks ≡ false → free || counted ≡ true → n + 1 ≤ most_locks
room_for true counted n none most full opens = let e = none refl in omega (arith, e)
room_for false true n none most full opens =
    let few = most refl in
    let ne = eqb-false n most_locks full in
    omega (arith, few, ne)
room_for false false n none most full opens = let e : false ≡ true = opens in absurd (cc)

module _ (s : State) (t m : ℕ) (mutex : Mutex) (good : IsGood s) (ready : is_ready (s.threads t).standing ≡ true) (there : s.mutexes m ≡ Some mutex) where
  sound : IsSoundMutex (standings s) m (Some mutex)
  sound = sound_here s m mutex good there

  good_destroy_of : GoodCall (destroy_of s t m (Some mutex))
  good_destroy_of =
      good_refusing s t ((not (is_free mutex.holder) || is_used s m, EBUSY) ∷ []) (values (begun (set_mutex s m None)) t 0 0) good (λ h.
      let parts = or_parts (not (is_free mutex.holder)) (is_used s m) h.0 in
      good_reply (set_mutex s m None) t 0 0
      (good_mutex s m None good
      (λ c k used here. ap is_some (put_other s.mutexes m None k (used_other s (standings s) m good.conditions parts.1 c k used)) ∙ here)
      (mutex_idle (standings s) m None (nobody_wants (standings s) m (Some mutex) sound (not-false (is_free mutex.holder) parts.0)) refl refl)))

  good_take : is_full t mutex ≡ false → is_open_to t mutex ≡ true → GoodCall (take s t m mutex)
  good_take full opens =
      good_reply (set_mutex s m (Some (locked_by t mutex))) t 0 0
      (good_held s m mutex good there t (count_of mutex.holder + 1) (ready_live (s.threads t).standing ready).1 (
        omega arith,
        room_for (is_free mutex.holder) (is_counted t mutex) (count_of mutex.holder) (λ h. ap count_of (is_none_held mutex.holder h))
            (λ h. (sound.owned t (and_parts _ (is_held_by mutex.holder t) h).1).most)
            full opens,
      ))

  good_queue : is_free mutex.holder ≡ false → GoodCall (queue s t m mutex)
  good_queue taken =
      let st : Standing = Waits (OfMutex m) in
      good_queued s m mutex good there t (OfMutex m) (without t s.ready) s.conditions taken (good.within t (ready_live (s.threads t).standing ready).0)
      (ready_without (standings s) t st s.ready refl good.ready) refl (λ k. ready_wants k (s.threads t).standing ready)
      (conditions_apart (standings s) s.mutexes t st s.conditions (λ c. refl) (λ c. ready_waits_on c (s.threads t).standing ready) good.conditions)
      (steady s.now st once refl refl)

  good_trylock_of : GoodCall (trylock_of s t m (Some mutex))
  good_trylock_of =
      good_refusing s t ((is_full t mutex, EAGAIN) ∷ (not (is_open_to t mutex), EBUSY) ∷ []) (take s t m mutex) good
      (λ may. good_take may.0 (not-false (is_open_to t mutex) may.1.0))

  good_lock_by : (b : Bool) → is_full t mutex ≡ false → is_open_to t mutex ≡ b → GoodCall (if b then take s t m mutex else queue s t m mutex)
  good_lock_by true full opens = good_take full opens
  good_lock_by false full opens = good_queue (or_parts (is_free mutex.holder) (is_counted t mutex) opens).0

  good_lock_of : GoodCall (lock_of s t m (Some mutex))
  good_lock_of =
      good_refusing s t ((is_checked t mutex, EDEADLK) ∷ (is_full t mutex, EAGAIN) ∷ []) (if is_open_to t mutex then take s t m mutex else queue s t m mutex) good
      (λ may. good_lock_by (is_open_to t mutex) may.1.0 refl)

  good_released : (b : Bool) → is_held_by mutex.holder t ≡ true → count_of mutex.holder == 1 ≡ b
      → IsGood (if b then hand_off (begun s) m mutex (best_waiter s mutex) else begun (set_mutex s m (Some (record mutex { holder = Held t (count_of mutex.holder - 1) })))).state
  good_released true held last = good_hand_off s m mutex good there (eff s) (best_waiter s mutex) refl
  good_released false held more =
      let may = sound.owned t held in
      let least = may.least in
      let most = may.most in
      let ne = eqb-false (count_of mutex.holder) 1 more in
      good_held s m mutex good there t (count_of mutex.holder - 1) may.live (omega (arith, least, ne), omega (arith, most))

  good_unlock_of : GoodCall (unlock_of s t m (Some mutex))
  good_unlock_of =
      good_refusing s t ((not (is_held_by mutex.holder t), EPERM) ∷ []) (values (released s t m mutex) t 0 0) good
      (λ may. good_reply (released s t m mutex).state t 0 0 (good_released (count_of mutex.holder == 1) (not-false (is_held_by mutex.holder t) may.0) refl))

good_mutex_destroy : IsGoodRow mutex_destroy
good_mutex_destroy = good_lookup (λ (s : State). s.mutexes) destroy_of (λ s t m. refl) good_destroy_of

good_lock : IsGoodRow lock
good_lock = good_lookup (λ (s : State). s.mutexes) lock_of (λ s t m. refl) good_lock_of

good_trylock : IsGoodRow trylock
good_trylock = good_lookup (λ (s : State). s.mutexes) trylock_of (λ s t m. refl) good_trylock_of

good_unlock : IsGoodRow unlock
good_unlock = good_lookup (λ (s : State). s.mutexes) unlock_of (λ s t m. refl) good_unlock_of

pub good_mutex_calls : AreGoodRows mutex_calls
good_mutex_calls = (good_mutex_init, (good_mutex_destroy, (good_lock, (good_trylock, (good_unlock, tt)))))
