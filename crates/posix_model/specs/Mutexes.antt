-- Mutexes by their numbers, and the small changes of them (POSIX.1 mutexes).
use Rattle.std.specs.Prelude.{ℕ, ◌+◌, if◌then◌else◌, List, Option, Some, None}
use Rattle.thread_base.specs.Holders.{is_held_by, count_of, is_free}
use Rattle.thread_base.specs.Maps.{put}
use Rattle.thread_base.specs.Objects.{holder_in, waiters_in, appended}
use Rattle.thread_base.specs.Orders.{without}
use Rattle.thread_base.specs.Priority.{first_greatest}
use Rattle.thread_base.specs.declared.mutex.Holder.{Holder}
use Rattle.thread_base.specs.declared.mutex.Holder.TheVariants.{Free, Held, Orphan}
use Rattle.posix_model.specs.State.{State, Mutex, Standing, Waits, wait_of, count_due}
use Rattle.posix_model.specs.Scheduling.{eff}
use Rattle.posix_model.specs.Changes.{Outcome, set_thread, go_on}
use Rattle.posix_model.specs.declared.RetakeReply.{RetakeReply}
use Rattle.posix_model.specs.declared.RetakeReply.TheVariants.{Answer}
use Rattle.posix_model.specs.declared.Wait.{Wait}
use Rattle.posix_model.specs.declared.Wait.TheVariants.{Join, Mutex as OfMutex, Cond, Reacquire}

-- the most that one thread locks a mutex (this project's limit)
abbrev pub most_locks : ℕ
most_locks = 65535

-- who has the mutex of a number
abbrev pub holder_of : State → ℕ → Holder
holder_of s m = holder_in (s.mutexes m)

-- who waits for the mutex of a number, in order of arrival
abbrev pub waiters_of : State → ℕ → List ℕ
waiters_of s m = waiters_in (s.mutexes m)

-- a mutex is put at a number, or is there no more
abbrev pub set_mutex : State → ℕ → Option Mutex → State
set_mutex s m mutex = record s { mutexes = put s.mutexes m mutex }

-- a thread has locked a mutex once more
abbrev pub locked_by : ℕ → Mutex → Mutex
locked_by t mutex = record mutex { holder = Held t (count_of mutex.holder + 1) }

-- a thread waits for a mutex, after the others
abbrev pub with_waiter : ℕ → Mutex → Mutex
with_waiter t mutex = record mutex { waiters = appended t mutex.waiters }

-- the waiter of greatest effective priority, the earliest among equals (POSIX.1 pthread_mutex_unlock)
abbrev pub best_waiter : State → Mutex → Option ℕ
best_waiter s mutex = first_greatest (eff s) mutex.waiters

-- what a thread is answered when it has the mutex for which it waits: 0 after lock, and else as was settled
abbrev pub reply_by : Option Wait → RetakeReply
reply_by None = Answer 0
reply_by (Some (Join u)) = Answer 0
reply_by (Some (OfMutex m)) = Answer 0
reply_by (Some (Cond c m deadline count)) = Answer 0
reply_by (Some (Reacquire m reply count)) = reply
reply_by a = Answer 0

-- the same by what a thread is doing
abbrev pub reply_due : Standing → RetakeReply
reply_due standing = reply_by (wait_of standing)

-- a thread has a mutex so often, and goes on
abbrev pub give : Outcome → ℕ → Mutex → ℕ → ℕ → RetakeReply → Outcome
give g m mutex t count reply = go_on (record g { state = set_mutex g.state m (Some (record mutex { holder = Held t count })) }) t reply

-- a released mutex goes to a waiter, who leaves its list and has it as often as is due to it, or is free
-- (POSIX.1 pthread_mutex_unlock)
abbrev pub hand_off : Outcome → ℕ → Mutex → Option ℕ → Outcome
hand_off g m mutex None = record g { state = set_mutex g.state m (Some (record mutex { holder = Free })) }
hand_off g m mutex (Some u) =
    give g m (record mutex { waiters = without u mutex.waiters }) u (count_due (g.state.threads u).standing) (reply_due (g.state.threads u).standing)

-- a thread that waited for something else waits for a mutex from now on, after the others
abbrev pub requeue : Outcome → ℕ → Mutex → ℕ → ℕ → RetakeReply → Outcome
requeue g m mutex t count reply = record g {
  state = set_thread (set_mutex g.state m (Some (with_waiter t mutex))) t (record (g.state.threads t) { standing = Waits (Reacquire m reply count) });
}

-- a mutex that is free goes to a thread at once, and for another it waits
abbrev pub retake_of : Outcome → ℕ → Option Mutex → ℕ → ℕ → RetakeReply → Outcome
retake_of g m None t count reply = g
retake_of g m (Some mutex) t count reply = if is_free mutex.holder then give g m mutex t count reply else requeue g m mutex t count reply

-- a thread takes a mutex back, which it had so often (POSIX.1 pthread_cond_wait)
abbrev pub retake : Outcome → ℕ → ℕ → ℕ → RetakeReply → Outcome
retake g m t count reply = retake_of g m (g.state.mutexes m) t count reply

-- a mutex whose owner ends is an orphan: locked for good, and owned by nobody (POSIX.1 mutexes, not robust)
abbrev pub orphan_in : ℕ → Option Mutex → Option Mutex
orphan_in t None = None
orphan_in t (Some mutex) = Some (if is_held_by mutex.holder t then record mutex { holder = Orphan } else mutex)

-- all mutexes after the end of a thread
abbrev pub orphaned : ℕ → (ℕ → Option Mutex) → ℕ → Option Mutex
orphaned t mutexes m = orphan_in t (mutexes m)
