-- What holds of every state that is reached, facet by facet: each reads what the threads are doing and one part of the state.
use Rattle.std.specs.Prelude.{◌≡◌, ◌≤◌, ◌<◌, ℕ, ◌+◌, ◌^◌, Bool, true, false, List, [], Option, Some, None, is_some}
use Rattle.std.specs.Option.{ForSome}
use Rattle.thread_base.specs.Actions.{ignores}
use Rattle.thread_base.specs.Holders.{is_held_by, count_of, is_free}
use Rattle.thread_base.specs.Numbers.{IsTid}
use Rattle.thread_base.specs.Objects.{holder_in, waiters_in, cond_mutex, cond_waiters}
use Rattle.thread_base.specs.Orders.{is_in, IsOrder}
use Rattle.thread_base.specs.declared.action.Action.{Action}
use Rattle.thread_base.specs.declared.mutex.Holder.{Holder}
use Rattle.posix_model.specs.State.{State, Standing, Mutex, Condition, is_absent, is_ready, is_live, target, wait_of, joins, wants, waits_on, mutex_with, count_due, deadline_by, set_at}
use Rattle.posix_model.specs.Mutexes.{most_locks}

-- what each thread is doing
abbrev pub standings : State → ℕ → Standing
standings s t = (s.threads t).standing

-- which threads are detached
abbrev pub detachments : State → ℕ → Bool
detachments s t = (s.threads t).detached

-- the ready list has each ready thread once and nothing else (POSIX.1 scheduling)
pub record IsReadyList (standing : ℕ → Standing) (ready : List ℕ) : Type 0 where
  pub order : IsOrder ready
  pub listed : (t : ℕ) → is_in t ready ≡ is_ready (standing t)

-- threads have the numbers from 1 to 64 (this project's limit)
abbrev pub AreWithin : (ℕ → Standing) → Type 0
AreWithin standing = (t : ℕ) → is_absent (standing t) ≡ false → IsTid t

-- a thread may wait for the end of another: that has not ended, is not detached and has no other joiner
-- (POSIX.1 pthread_join)
pub record MayJoin (standing : ℕ → Standing) (detached : ℕ → Bool) (t u : ℕ) : Type 0 where
  pub live : is_live (standing u) ≡ true
  pub joinable : detached u ≡ false
  pub alone : (v : ℕ) → joins u (standing v) ≡ true → v ≡ t

-- who waits for an end may
abbrev pub AreJoining : (ℕ → Standing) → (ℕ → Bool) → Type 0
AreJoining standing detached = (t u : ℕ) → joins u (standing t) ≡ true → MayJoin standing detached t u

-- a thread may have a mutex: it has not ended, and has locked it once at least (POSIX.1 mutexes)
pub record MayHold (standing : ℕ → Standing) (holder : Holder) (t : ℕ) : Type 0 where
  pub live : is_live (standing t) ≡ true
  pub least : 1 ≤ count_of holder
  pub most : count_of holder ≤ most_locks

-- the mutex of a number, where there is one: its list has each thread that waits for it once and nothing else,
-- who has it may, and nobody waits for a free one (POSIX.1 mutexes)
pub record IsSoundMutex (standing : ℕ → Standing) (m : ℕ) (mutex : Option Mutex) : Type 0 where
  pub order : IsOrder (waiters_in mutex)
  pub listed : (t : ℕ) → is_in t (waiters_in mutex) ≡ wants m (standing t)
  pub owned : (t : ℕ) → is_held_by (holder_in mutex) t ≡ true → MayHold standing (holder_in mutex) t
  pub unwanted : is_free (holder_in mutex) ≡ true → waiters_in mutex ≡ []

-- every mutex is sound
abbrev pub AreSoundMutexes : (ℕ → Standing) → (ℕ → Option Mutex) → Type 0
AreSoundMutexes standing mutexes = (m : ℕ) → IsSoundMutex standing m (mutexes m)

-- the condition of a number, where there is one: its number is one, its list has each thread that waits for it once
-- and nothing else, they all wait with one mutex, which is there, and where nobody waits it has no mutex
-- (POSIX.1 condition variables)
pub record IsSoundCondition (standing : ℕ → Standing) (mutexes : ℕ → Option Mutex) (c : ℕ) (condition : Option Condition) : Type 0 where
  pub within : is_some condition ≡ true → c < 256
  pub order : IsOrder (cond_waiters condition)
  pub listed : (t : ℕ) → is_in t (cond_waiters condition) ≡ waits_on c (standing t)
  pub together : (t : ℕ) → waits_on c (standing t) ≡ true → mutex_with (standing t) ≡ cond_mutex condition
  pub there : (m : ℕ) → cond_mutex condition ≡ Some m → is_some (mutexes m) ≡ true
  pub unused : cond_waiters condition ≡ [] → cond_mutex condition ≡ None

-- every condition is sound
abbrev pub AreSoundConditions : (ℕ → Standing) → (ℕ → Option Mutex) → (ℕ → Option Condition) → Type 0
AreSoundConditions standing mutexes conditions = (c : ℕ) → IsSoundCondition standing mutexes c (conditions c)

-- how often a thread may have a mutex (this project's limit)
abbrev pub IsCount : ℕ → Type 0
IsCount count = (1 ≤ count) × (count ≤ most_locks)

-- what a thread waits for: it may have its mutex as often as is due then, its time is still to come and within 2^32 ticks,
-- and there is a signal in its set (POSIX.1 pthread_cond_wait, sleep, sigwait; the 2^32 ticks are this project's limit)
pub record IsSoundWait (now : ℕ) (standing : Standing) : Type 0 where
  pub count : IsCount (count_due standing)
  pub later : ForSome (deadline_by (wait_of standing)) (λ until. now < until)
  pub soon : ForSome (deadline_by (wait_of standing)) (λ until. until < now + 2 ^ 32)
  pub some : ForSome (set_at (target standing)) (λ set. 0 < set)

-- every wait is sound
abbrev pub AreSoundWaits : ℕ → (ℕ → Standing) → Type 0
AreSoundWaits now standing = (t : ℕ) → IsSoundWait now (standing t)

-- the alarm is still to come and within 2^32 ticks, and no count of an ignored signal pends (POSIX.1 alarm, SIG_IGN)
pub record AreSoundSignals (now : ℕ) (alarm : Option ℕ) (actions : ℕ → Action) (pending : ℕ → ℕ → ℕ) : Type 0 where
  pub later : ForSome alarm (λ until. now < until)
  pub soon : ForSome alarm (λ until. until < now + 2 ^ 32)
  pub heeded : (place sig : ℕ) → ignores (actions sig) sig ≡ true → pending place sig ≡ 0

-- a good state: the ready list, the numbers, the joins, the mutexes, the conditions, the waits and the signals are sound
pub record IsGood (s : State) : Type 0 where
  pub ready : IsReadyList (standings s) s.ready
  pub within : AreWithin (standings s)
  pub joining : AreJoining (standings s) (detachments s)
  pub mutexes : AreSoundMutexes (standings s) s.mutexes
  pub conditions : AreSoundConditions (standings s) s.mutexes s.conditions
  pub waits : AreSoundWaits s.now (standings s)
  pub signals : AreSoundSignals s.now s.alarm s.actions s.pending
