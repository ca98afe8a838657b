-- What a small change is: the record of one thread, one object and one place of one list cover all that it changes
-- (this project's own).
use Rattle.std.specs.Prelude.{ℕ, ◌≡◌, ◌≢◌, List, [], Option, Some, None}
use Rattle.thread_base.specs.Objects.{with_waiters, waiters_in, cond_waiters}
use Rattle.thread_base.specs.Orders.{without}
use Rattle.posix_model.specs.State.{State, Condition}

-- an object: a mutex or a condition, each without its waiters, what pends of a signal with its action, the clock with its alarm,
-- or how the process ended
pub data Object : Type 0 where
  TheMutex : (mutex : ℕ) → Object
  TheCondition : (cond : ℕ) → Object
  TheSignal : (signal : ℕ) → Object
  TheClock : Object
  TheEnding : Object

-- a condition without its waiters
abbrev pub bare : Option Condition → Option Condition
bare None = None
bare (Some condition) = Some (record condition { waiters = [] })

-- an object is the same in two states
abbrev pub IsSame : Object → State → State → Type 0
IsSame (TheMutex m) s r = with_waiters (λ ts. []) (r.mutexes m) ≡ with_waiters (λ ts. []) (s.mutexes m)
IsSame (TheCondition c) s r = bare (r.conditions c) ≡ bare (s.conditions c)
IsSame (TheSignal sig) s r = (r.actions sig ≡ s.actions sig) × ((t : ℕ) → r.pending t sig ≡ s.pending t sig)
IsSame TheClock s r = (r.now ≡ s.now) × (r.alarm ≡ s.alarm)
IsSame TheEnding s r = r.over ≡ s.over

-- a list of threads: the ready list, or those that wait for a mutex or a condition
pub data ThreadList : Type 0 where
  ReadyList : ThreadList
  MutexWaiters : (mutex : ℕ) → ThreadList
  CondWaiters : (cond : ℕ) → ThreadList

-- the threads of a list
abbrev pub threads_of_list : ThreadList → State → List ℕ
threads_of_list ReadyList s = s.ready
threads_of_list (MutexWaiters m) s = waiters_in (s.mutexes m)
threads_of_list (CondWaiters c) s = cond_waiters (s.conditions c)

-- what no small change reaches is as it was: keys, input and memory
abbrev pub IsUnmoved : State → State → Type 0
IsUnmoved s r =
    (r.keys ≡ s.keys) × (r.input ≡ s.input) × (r.is_input_over ≡ s.is_input_over) × (r.memory ≡ s.memory)

-- from one state to another there is one small change: beside the record of one thread, one object, and one place of
-- one list, at which a thread was put in, taken out or moved, everything is as it was
pub record IsSmall (s r : State) : Type 0 where
  pub thread : ℕ
  pub object : Object
  pub list : ThreadList
  pub placed : ℕ
  pub threads : (t : ℕ) → t ≢ thread → r.threads t ≡ s.threads t
  pub objects : (o : Object) → o ≢ object → IsSame o s r
  pub lists : (l : ThreadList) → l ≢ list → threads_of_list l r ≡ threads_of_list l s
  pub place : without placed (threads_of_list list r) ≡ without placed (threads_of_list list s)
  pub others : IsUnmoved s r
