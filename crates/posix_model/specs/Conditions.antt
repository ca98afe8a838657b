-- Condition variables by their numbers, and the small changes of them (POSIX.1 condition variables).
use Rattle.std.specs.Prelude.{ℕ, ◌==◌, Bool, false, not, if◌then◌else◌, List, [], ◌∷◌, Option, Some, None, nat_le}
use Rattle.std.specs.List.{list_any}
use Rattle.thread_base.specs.Maps.{put}
use Rattle.thread_base.specs.Objects.{cond_mutex, without_waiter, is_mutex, condition_numbers}
use Rattle.thread_base.specs.Priority.{first_greatest}
use Rattle.posix_model.specs.State.{State, Condition, wait_of}
use Rattle.posix_model.specs.Scheduling.{eff}
use Rattle.posix_model.specs.Changes.{Outcome}
use Rattle.posix_model.specs.Mutexes.{retake}
use Rattle.posix_model.specs.declared.RetakeReply.{RetakeReply}
use Rattle.posix_model.specs.declared.RetakeReply.TheVariants.{Answer}
use Rattle.posix_model.specs.declared.Wait.{Wait}
use Rattle.posix_model.specs.declared.Wait.TheVariants.{Join, Mutex as OfMutex, Cond, Reacquire}

-- it is another mutex
abbrev pub is_other : ℕ → Option ℕ → Bool
is_other m None = false
is_other m (Some k) = not (k == m)

-- the waiters of some condition use a mutex (POSIX.1 pthread_mutex_destroy)
abbrev pub is_used : State → ℕ → Bool
is_used s m = list_any (λ c. is_mutex m (cond_mutex (s.conditions c))) condition_numbers

-- a condition is put at a number, or is there no more
abbrev pub set_condition : State → ℕ → Option Condition → State
set_condition s c condition = record s { conditions = put s.conditions c condition }

-- a thread waits no more for the condition of a number
abbrev pub leave : Outcome → ℕ → ℕ → Outcome
leave g c t = record g { state = set_condition g.state c (without_waiter t (g.state.conditions c)) }

-- a wait for a condition ends with a reply: its thread leaves the condition, and takes its mutex back
abbrev pub wake_from : Outcome → ℕ → RetakeReply → Option Wait → Outcome
wake_from g t reply None = g
wake_from g t reply (Some (Join u)) = g
wake_from g t reply (Some (OfMutex m)) = g
wake_from g t reply (Some (Cond c m deadline count)) = retake (leave g c t) m t count reply
wake_from g t reply (Some (Reacquire m other count)) = g
wake_from g t reply a = g

-- a thread that waits for a condition waits for it no more (POSIX.1 pthread_cond_wait)
abbrev pub wake : Outcome → ℕ → RetakeReply → Outcome
wake g t reply = wake_from g t reply (wait_of (g.state.threads t).standing)

-- threads are woken one after another, each with the answer 0
abbrev pub wake_all : Outcome → List ℕ → Outcome
wake_all g [] = g
wake_all g (t ∷ ts) = wake_all (wake g t (Answer 0)) ts

-- a thread in its place among others that came later: before the first whose key is not greater
abbrev pub insert : (ℕ → ℕ) → ℕ → List ℕ → List ℕ
insert key t [] = t ∷ []
insert key t (u ∷ us) = if nat_le (key u) (key t) then t ∷ u ∷ us else u ∷ insert key t us

-- the greatest key first, and the earliest among equals
abbrev pub in_order : (ℕ → ℕ) → List ℕ → List ℕ
in_order key [] = []
in_order key (t ∷ ts) = insert key t (in_order key ts)

-- the waiter of greatest effective priority, the earliest among equals (POSIX.1 pthread_cond_signal)
abbrev pub next_woken : State → Condition → Option ℕ
next_woken s condition = first_greatest (eff s) condition.waiters
