-- What keeps a mutex sound: a thread that changes, the mutex that changes, or both.
use Rattle.std.proofs.Common.{◌≡◌, ◌≢◌, ◌∙◌, ap, sym, refl, subst, ℕ, Bool, true, false, [], Option, Some, None}
use Rattle.std.specs.Prelude.{if◌then◌else◌}
use Rattle.std.proofs.lemmas.Bool.{eqb-true}
use Rattle.thread_base.specs.Holders.{is_held_by, is_free}
use Rattle.thread_base.specs.Maps.{put}
use Rattle.thread_base.specs.Numbers.{IsTid}
use Rattle.thread_base.specs.Objects.{holder_in, waiters_in}
use Rattle.thread_base.specs.Orders.{is_in, without, IsOrder}
use Rattle.thread_base.specs.declared.mutex.Holder.{Holder}
use Rattle.thread_base.specs.declared.mutex.Holder.TheVariants.{Free, Held, Orphan}
use Rattle.thread_base.proofs.OrderLemmas.{IsOrder-push, IsOrder-filter}
use Rattle.posix_model.specs.State.{Standing, Mutex, is_live, wants}
use Rattle.posix_model.specs.Mutexes.{with_waiter, orphan_in, orphaned}
use Rattle.posix_model.specs.Good.{IsSoundMutex, AreSoundMutexes, MayHold, IsCount}
use Rattle.posix_model.proofs.StandingLemmas.{never}
use Rattle.posix_model.proofs.ListLemmas.{each_put, listed_on, listed_appended, listed_without}

pub is_none_held : (holder : Holder) → is_free holder ≡ true → holder ≡ Free
is_none_held Free h = refl
is_none_held holder h = absurd (never false h refl)

-- a mutex that nobody has and nobody waits for, or that is not there
pub mutex_idle : (standing : ℕ → Standing) (m : ℕ) (o : Option Mutex) → ((u : ℕ) → wants m (standing u) ≡ false) → holder_in o ≡ Free → waiters_in o ≡ [] → IsSoundMutex standing m o
mutex_idle standing m o idle free nobody = record {
  order = subst IsOrder (sym nobody) tt;
  listed = λ u. ap (is_in u) nobody ∙ sym (idle u);
  owned = λ u h. absurd (never (is_held_by (holder_in o) u) h (ap (λ x. is_held_by x u) free));
  unwanted = λ h. nobody;
}

module _ (standing : ℕ → Standing) (m : ℕ) where
  -- nobody waits for a mutex that is free
  pub nobody_wants : (o : Option Mutex) → IsSoundMutex standing m o → is_free (holder_in o) ≡ true → (u : ℕ) → wants m (standing u) ≡ false
  nobody_wants o sound free u = sym (sound.listed u) ∙ ap (is_in u) (sound.unwanted free)

  -- a mutex has another holder, who may have it, or none
  with_holder : (mutex : Mutex) (holder : Holder) → ((u : ℕ) → is_held_by holder u ≡ true → MayHold standing holder u) → (is_free holder ≡ true → mutex.waiters ≡ [])
      → IsSoundMutex standing m (Some mutex) → IsSoundMutex standing m (Some (record mutex { holder = holder }))
  with_holder mutex holder owned unwanted sound = record { order = sound.order; listed = sound.listed; owned = owned; unwanted = unwanted }

  -- a live thread has it from now on, or has it so often
  pub mutex_held : (t count : ℕ) (mutex : Mutex) → is_live (standing t) ≡ true → IsCount count
      → IsSoundMutex standing m (Some mutex) → IsSoundMutex standing m (Some (record mutex { holder = Held t count }))
  mutex_held t count mutex live many =
      with_holder mutex (Held t count)
      (λ u h. record { live = ap (λ v. is_live (standing v)) (sym (eqb-true t u h)) ∙ live; least = many.0; most = many.1 })
      (λ h. absurd (never false h refl))

  -- nobody has it and nobody waits for it
  pub mutex_freed : (mutex : Mutex) → mutex.waiters ≡ [] → IsSoundMutex standing m (Some mutex) → IsSoundMutex standing m (Some (record mutex { holder = Free }))
  mutex_freed mutex nobody = with_holder mutex Free (λ u h. absurd (never false h refl)) (λ h. nobody)

  -- it is an orphan where its owner ended
  mutex_orphaned : (t : ℕ) (o : Option Mutex) → IsSoundMutex standing m o → IsSoundMutex standing m (orphan_in t o)
  mutex_orphaned t None sound = sound
  mutex_orphaned t (Some mutex) sound = by (is_held_by mutex.holder t)
    where
      by : (b : Bool) → IsSoundMutex standing m (Some (if b then record mutex { holder = Orphan } else mutex))
      by true = with_holder mutex Orphan (λ u h. absurd (never false h refl)) (λ h. absurd (never false h refl)) sound
      by false = sound

-- who ended has no mutex
not_orphans : (t : ℕ) (o : Option Mutex) → is_held_by (holder_in (orphan_in t o)) t ≡ false
not_orphans t None = refl
not_orphans t (Some mutex) = by (is_held_by mutex.holder t) refl
  where
    by : (b : Bool) → is_held_by mutex.holder t ≡ b → is_held_by (if b then record mutex { holder = Orphan } else mutex).holder t ≡ false
    by true e = refl
    by false e = e

-- a thread changes
module _ (standing : ℕ → Standing) (t : ℕ) (st : Standing) where
  owners : (holder : Holder) → (is_held_by holder t ≡ true → is_live st ≡ true) → ((u : ℕ) → is_held_by holder u ≡ true → MayHold standing holder u)
      → (u : ℕ) → is_held_by holder u ≡ true → MayHold (put standing t st) holder u
  owners holder alive owned u h =
      let may = owned u h in
      record {
        live = each_put (λ v x. is_held_by holder v ≡ true → is_live x ≡ true) standing t st alive (λ v ne k. (owned v k).live) u h;
        least = may.least;
        most = may.most;
      }

  -- it waits for the mutex as before, and goes on where it has it
  pub mutex_stays : (m : ℕ) (o : Option Mutex) → wants m st ≡ wants m (standing t) → (is_held_by (holder_in o) t ≡ true → is_live st ≡ true)
      → IsSoundMutex standing m o → IsSoundMutex (put standing t st) m o
  mutex_stays m o same alive sound = record {
    order = sound.order;
    listed = listed_on (wants m) standing t st (waiters_in o) sound.listed same;
    owned = owners (holder_in o) alive sound.owned;
    unwanted = sound.unwanted;
  }

  -- it waits for the mutex from now on, after the others
  pub mutex_entered : (m : ℕ) (mutex : Mutex) → IsTid t → wants m (standing t) ≡ false → wants m st ≡ true → is_live st ≡ true → is_free mutex.holder ≡ false
      → IsSoundMutex standing m (Some mutex) → IsSoundMutex (put standing t st) m (Some (with_waiter t mutex))
  mutex_entered m mutex range before after alive taken sound = record {
    order = IsOrder-push mutex.waiters t sound.order range.0 range.1 (sound.listed t ∙ before);
    listed = listed_appended (wants m) standing t st mutex.waiters sound.listed after;
    owned = owners mutex.holder (λ h. alive) sound.owned;
    unwanted = λ h. absurd (never (is_free mutex.holder) h taken);
  }

  -- it waits for the mutex no more
  pub mutex_left : (m : ℕ) (mutex : Mutex) → wants m st ≡ false → is_live st ≡ true
      → IsSoundMutex standing m (Some mutex) → IsSoundMutex (put standing t st) m (Some (record mutex { waiters = without t mutex.waiters }))
  mutex_left m mutex after alive sound = record {
    order = IsOrder-filter _ mutex.waiters sound.order;
    listed = listed_without (wants m) standing t st mutex.waiters sound.listed after;
    owned = owners mutex.holder (λ h. alive) sound.owned;
    unwanted = λ h. ap (without t) (sound.unwanted h);
  }

  module _ (mutexes : ℕ → Option Mutex) (sound : AreSoundMutexes standing mutexes) where
    -- all mutexes stay, one changes beside, or those of the thread are orphans
    pub mutexes_stay : ((m : ℕ) → wants m st ≡ wants m (standing t)) → ((m : ℕ) → is_held_by (holder_in (mutexes m)) t ≡ true → is_live st ≡ true)
        → AreSoundMutexes (put standing t st) mutexes
    mutexes_stay same alive m = mutex_stays m (mutexes m) (same m) (alive m) (sound m)

    pub mutexes_put : (m : ℕ) (o : Option Mutex) → ((k : ℕ) → k ≢ m → wants k st ≡ wants k (standing t)) → is_live st ≡ true
        → IsSoundMutex (put standing t st) m o → AreSoundMutexes (put standing t st) (put mutexes m o)
    mutexes_put m o same alive here =
        each_put (IsSoundMutex (put standing t st)) mutexes m o here (λ k ne. mutex_stays k (mutexes k) (same k ne) (λ h. alive) (sound k))

    pub mutexes_orphaned : ((m : ℕ) → wants m st ≡ wants m (standing t)) → AreSoundMutexes (put standing t st) (orphaned t mutexes)
    mutexes_orphaned same m =
        mutex_stays m (orphan_in t (mutexes m)) (same m) (λ h. absurd (never (is_held_by (holder_in (orphan_in t (mutexes m))) t) h (not_orphans t (mutexes m)))) (mutex_orphaned standing m t (mutexes m) (sound m))
