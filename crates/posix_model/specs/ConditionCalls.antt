-- The calls of condition variables: of each its refusals in order, then its effect, then its reply.
use Rattle.std.specs.Prelude.{ℕ, not, if◌then◌else◌, List, [], ◌∷◌, Option, Some, None, is_some, nat_lt}
use Rattle.thread_base.specs.Holders.{is_held_by, count_of}
use Rattle.thread_base.specs.Objects.{new_condition, entered_by}
use Rattle.thread_base.specs.Orders.{is_nil}
use Rattle.thread_base.specs.declared.Errno.TheVariants.{EPERM, EBUSY, EINVAL}
use Rattle.posix_model.specs.State.{State, Mutex, Condition}
use Rattle.posix_model.specs.Scheduling.{eff}
use Rattle.posix_model.specs.Changes.{Outcome, begun, await}
use Rattle.posix_model.specs.Mutexes.{set_mutex, with_waiter, best_waiter, hand_off}
use Rattle.posix_model.specs.Arrivals.{has_come, timed_out}
use Rattle.posix_model.specs.Conditions.{set_condition, is_other, wake, wake_all, in_order, next_woken}
use Rattle.posix_model.specs.Replies.{Called, Entry, ticks_in, values, refused, refusing}
use Rattle.posix_model.specs.declared.Arguments.{Arguments}
use Rattle.posix_model.specs.declared.Reply.TheVariants.{Block}
use Rattle.posix_model.specs.declared.RetakeReply.TheVariants.{Answer}
use Rattle.posix_model.specs.declared.Wait.TheVariants.{Cond, Reacquire}

-- 280: cond_init(condition) (POSIX.1 pthread_cond_init)
abbrev pub cond_init : State → ℕ → Arguments → Called
cond_init s t c =
    refusing s t (
    (not (nat_lt c.a0 256), EINVAL)
    ∷ (is_some (s.conditions c.a0), EBUSY) ∷ [])
    (values (begun (set_condition s c.a0 (Some new_condition))) t 0 0)

-- a condition is there no more, where nobody waits for it
abbrev pub cond_destroy_of : State → ℕ → ℕ → Option Condition → Called
cond_destroy_of s t c None = refused s t EINVAL
cond_destroy_of s t c (Some condition) =
    refusing s t ((not (is_nil condition.waiters), EBUSY) ∷ []) (values (begun (set_condition s c None)) t 0 0)

-- 281: cond_destroy(condition) (POSIX.1 pthread_cond_destroy)
abbrev pub cond_destroy : State → ℕ → Arguments → Called
cond_destroy s t c = cond_destroy_of s t c.a0 (s.conditions c.a0)

-- the caller waits for a condition, after the others, until a deadline where there is one, and keeps in mind how often it
-- has its mutex
abbrev pub await_condition : State → ℕ → ℕ → Condition → ℕ → Mutex → Option ℕ → State
await_condition s t c condition m mutex deadline =
    await (set_condition s c (Some (entered_by t m condition))) t (Cond c m deadline (count_of mutex.holder))

-- the caller waits, and its mutex is handed over
abbrev pub wait_and_release : State → ℕ → ℕ → Condition → ℕ → Mutex → Option ℕ → Called
wait_and_release s t c condition m mutex deadline =
    record { outcome = hand_off (begun (await_condition s t c condition m mutex deadline)) m mutex (best_waiter s mutex); reply = Block }

-- the caller waits to have a mutex back so often, after the others that wait for it, and is answered ETIMEDOUT then
abbrev pub await_back : Outcome → ℕ → ℕ → Option Mutex → ℕ → Outcome
await_back g t m None count = g
await_back g t m (Some mutex) count =
    record g { state = await (set_mutex g.state m (Some (with_waiter t mutex))) t (Reacquire m (Answer timed_out) count) }

-- the caller's mutex goes to a waiter, and the caller waits to have it back
abbrev pub pass_on : State → ℕ → ℕ → Mutex → ℕ → Outcome
pass_on s t m mutex u =
    let passed : Outcome = hand_off (begun s) m mutex (Some u) in
    await_back passed t m (passed.state.mutexes m) (count_of mutex.holder)

-- a wait whose deadline has passed: where a thread waits for the mutex it is passed on, and else the caller, which would
-- have it back at once, keeps it and is answered ETIMEDOUT (POSIX.1 pthread_cond_timedwait)
abbrev pub time_out : State → ℕ → ℕ → Mutex → Option ℕ → Called
time_out s t m mutex None = values (begun s) t timed_out 0
time_out s t m mutex (Some u) = record { outcome = pass_on s t m mutex u; reply = Block }

-- a wait until a deadline, where there is one
abbrev pub wait_until : State → ℕ → ℕ → Condition → ℕ → Mutex → Option ℕ → Called
wait_until s t c condition m mutex deadline =
    if has_come s.now deadline then time_out s t m mutex (best_waiter s mutex) else wait_and_release s t c condition m mutex deadline

-- a wait for a condition with a mutex, until a deadline where there is one
abbrev pub cond_wait_of : State → ℕ → ℕ → Option Condition → ℕ → Option Mutex → Option ℕ → Called
cond_wait_of s t c None m mutex deadline = refused s t EINVAL
cond_wait_of s t c (Some condition) m None deadline = refused s t EINVAL
cond_wait_of s t c (Some condition) m (Some mutex) deadline =
    refusing s t (
    (not (is_held_by mutex.holder t), EPERM)
    ∷ (is_other m condition.mutex, EINVAL) ∷ [])
    (wait_until s t c condition m mutex deadline)

-- 282: cond_wait(condition, mutex) (POSIX.1 pthread_cond_wait)
abbrev pub cond_wait : State → ℕ → Arguments → Called
cond_wait s t c = cond_wait_of s t c.a0 (s.conditions c.a0) c.a1 (s.mutexes c.a1) None

-- 283: cond_timedwait(condition, mutex, deadline), which is the time at which the wait ends (POSIX.1 pthread_cond_timedwait)
abbrev pub cond_timedwait : State → ℕ → Arguments → Called
cond_timedwait s t c = cond_wait_of s t c.a0 (s.conditions c.a0) c.a1 (s.mutexes c.a1) (Some (ticks_in c.a2))

-- a thread is woken, where there is one
abbrev pub wake_one : Outcome → Option ℕ → Outcome
wake_one g None = g
wake_one g (Some u) = wake g u (Answer 0)

-- the best waiter of a condition is woken
abbrev pub cond_signal_of : State → ℕ → Option Condition → Called
cond_signal_of s t None = refused s t EINVAL
cond_signal_of s t (Some condition) = values (wake_one (begun s) (next_woken s condition)) t 0 0

-- 284: cond_signal(condition) (POSIX.1 pthread_cond_signal)
abbrev pub cond_signal : State → ℕ → Arguments → Called
cond_signal s t c = cond_signal_of s t (s.conditions c.a0)

-- all waiters of a condition are woken, in order of their effective priorities before the call
abbrev pub cond_broadcast_of : State → ℕ → Option Condition → Called
cond_broadcast_of s t None = refused s t EINVAL
cond_broadcast_of s t (Some condition) = values (wake_all (begun s) (in_order (eff s) condition.waiters)) t 0 0

-- 285: cond_broadcast(condition) (POSIX.1 pthread_cond_broadcast)
abbrev pub cond_broadcast : State → ℕ → Arguments → Called
cond_broadcast s t c = cond_broadcast_of s t (s.conditions c.a0)

-- the calls of condition variables
abbrev pub condition_calls : List Entry
condition_calls = (280, cond_init) ∷ (281, cond_destroy) ∷ (282, cond_wait) ∷ (283, cond_timedwait) ∷ (284, cond_signal) ∷ (285, cond_broadcast) ∷ []
