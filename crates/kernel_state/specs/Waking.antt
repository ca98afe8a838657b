-- How a mutex is handed over and a thread is woken, after what a move has noted before.
use Rattle.std.specs.Prelude.{ℕ, ◌≡◌, true, false, List, Some}
use Rattle.thread_base.specs.Objects.{waiters_in}
use Rattle.thread_base.specs.Orders.{is_in}
use Rattle.posix_model.specs.State.{State, Mutex, waits_on, mutex_with}
use Rattle.posix_model.specs.Good.{IsGood}
use Rattle.posix_model.specs.Changes.{Outcome}
use Rattle.posix_model.specs.Mutexes.{hand_off, best_waiter}
use Rattle.posix_model.specs.Conditions.{wake}
use Rattle.posix_model.specs.declared.RetakeReply.{RetakeReply}
use Rattle.kernel_state.specs.View.{view}
use Rattle.kernel_state.specs.Begun.{HasNoted, HasNotedSome}
use Rattle.kernel_state.specs.Kernels.{KernelState}

-- a thread waits for a condition with a mutex (POSIX.1 pthread_cond_wait)
pub record WaitsOn (s : State) (u c m : ℕ) : Type 0 where
  pub waits : waits_on c (s.threads u).standing ≡ true
  pub beside : mutex_with (s.threads u).standing ≡ Some m

-- a mutex and the threads that wait for it are as they were, and none of those is in the ready list
pub record LeavesMutex (s r : State) (m : ℕ) : Type 0 where
  pub mutex : r.mutexes m ≡ s.mutexes m
  pub threads : (u : ℕ) → is_in u (waiters_in (s.mutexes m)) ≡ true → r.threads u ≡ s.threads u
  pub away : (u : ℕ) → is_in u (waiters_in (s.mutexes m)) ≡ true → is_in u r.ready ≡ false

-- after a move so far that leaves a mutex, it was noted that the mutex goes to its best waiter, or is free
-- (POSIX.1 pthread_mutex_unlock)
abbrev pub HandsOff : {R : Type 0} → (R → List ℕ) → KernelState R → KernelState R → ℕ → Type 0
HandsOff order k q m =
    (first : KernelState _) (g : Outcome) (mutex : Mutex) → HasNoted order first k g → (view order k.tables).mutexes m ≡ Some mutex → LeavesMutex (view order k.tables) g.state m
    → HasNotedSome order first q (hand_off g m mutex (best_waiter (view order k.tables) mutex))

-- the same, where the best waiter is this thread
abbrev pub HandsOffTo : {R : Type 0} → (R → List ℕ) → KernelState R → KernelState R → ℕ → ℕ → Type 0
HandsOffTo order k q m u =
    (first : KernelState _) (g : Outcome) (mutex : Mutex) → HasNoted order first k g → (view order k.tables).mutexes m ≡ Some mutex → LeavesMutex (view order k.tables) g.state m
    → HasNotedSome order first q (hand_off g m mutex (Some u))

-- after a move so far that leaves a thread waiting for a condition, it was noted that its wait ends with a reply; the state is good,
-- perhaps at another time
-- (POSIX.1 pthread_cond_signal)
abbrev pub Wakes : {R : Type 0} → (R → List ℕ) → KernelState R → KernelState R → ℕ → ℕ → ℕ → RetakeReply → Type 0
Wakes order k q c m u reply =
    (first : KernelState _) (g : Outcome) → HasNoted order first k g → (before : ℕ) → IsGood (record g.state { now = before }) → WaitsOn g.state u c m → g.state.threads u ≡ (view order k.tables).threads u
    → HasNotedSome order first q (wake g u reply)
