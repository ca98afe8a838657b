-- The calls: of each its refusals in order, then its effect, then its reply.
use Rattle.std.specs.Prelude.{ℕ, ◌%◌, ◌==◌, ◌||◌, Bool, true, not, if◌then◌else◌, List, [], ◌∷◌, ◌++◌, Option, Some, None, length, min}
use Rattle.thread_base.specs.declared.Errno.TheVariants.{ESRCH, EBADF, EAGAIN, EFAULT, EINVAL, EDEADLK}
use Rattle.rv_exec.specs.Window.{fits}
use Rattle.posix_model.specs.State.{State, Standing, Absent, Ready, Waits, Ended, no_thread}
use Rattle.posix_model.specs.Changes.{Outcome, begun, set_thread, append, to_end}
use Rattle.posix_model.specs.Threads.{exists, free_number, has_joiner, are_attributes, new_thread}
use Rattle.posix_model.specs.Leaving.{exit_with}
pub use Rattle.posix_model.specs.Replies.{Called, Row, Entry, row_of, arguments, call_number, values, refused, refusing, blocked}
use Rattle.posix_model.specs.MutexCalls.{mutex_calls}
use Rattle.posix_model.specs.ConditionCalls.{condition_calls}
use Rattle.posix_model.specs.PriorityCalls.{setsched, getsched}
use Rattle.posix_model.specs.SignalCalls.{kill_calls}
use Rattle.posix_model.specs.ClockCalls.{clock_calls}
use Rattle.posix_model.specs.declared.Arguments.{Arguments}
use Rattle.posix_model.specs.declared.Report.{Report}
use Rattle.posix_model.specs.declared.Reply.TheVariants.{Exit as Exits, End}
use Rattle.posix_model.specs.declared.Wait.TheVariants.{Join}
use Rattle.posix_model.specs.declared.Head.TheVariants.{Call}
use Rattle.posix_model.specs.declared.Ending.TheVariants.{Exit}

-- so many bytes of a buffer were written to a descriptor, where there are any
abbrev pub with_output : Arguments → ℕ → Report → Report
with_output c count report = if count == 0 then report else record report { out_fd = c.a0; out_buf = c.a1; out_len = count }

-- the most bytes that one write writes (this project's limit)
abbrev pub most_written : ℕ
most_written = 65536

-- the first bytes of a buffer are written, and the answer is their count (POSIX.1 write)
abbrev pub written : State → ℕ → Arguments → ℕ → Called
written s t c count = values (record { state = s; report = with_output c count (begun s).report }) t 0 count

-- 64: write(descriptor, buffer, length) (POSIX.1 write, to descriptors 1 and 2)
abbrev pub write : State → ℕ → Arguments → Called
write s t c =
    refusing s t (
    (not ((c.a0 == 1) || (c.a0 == 2)), EBADF)
    ∷ (not (fits (length s.memory) c.a1 c.a2), EFAULT) ∷ [])
    (written s t c (min c.a2 most_written))

-- 93: exit(value), of the whole process (this project's own)
abbrev pub exit : State → ℕ → Arguments → Called
exit s t c = record { outcome = begun (record s { over = Some (Exit (c.a0 % 256)) }); reply = End }

-- a routine, a stack or attributes with which no thread can be made
abbrev pub cannot_start : Arguments → Bool
cannot_start c = not (c.a0 % 4 == 0) || (not (c.a2 % 16 == 0) || not (are_attributes c.a3))

-- a new thread of a number, which is ready; with no number left there is none
abbrev pub created : State → ℕ → Arguments → Option ℕ → Called
created s t c None = refused s t EAGAIN
created s t c (Some u) = values (begun (append s u (new_thread (s.threads t) c))) t 0 u

-- 256: create(routine, argument, stack, attributes) (POSIX.1 pthread_create)
abbrev pub create : State → ℕ → Arguments → Called
create s t c = refusing s t ((cannot_start c, EINVAL) ∷ []) (created s t c (free_number s))

-- 257: exit of the calling thread with a value (POSIX.1 pthread_exit)
abbrev pub exit_thread : State → ℕ → Arguments → Called
exit_thread s t c = record { outcome = begun (exit_with s t c.a0); reply = Exits }

-- whether nobody may join or detach a thread any more
abbrev pub is_taken : State → ℕ → Bool
is_taken s u = (s.threads u).detached || has_joiner s u

-- a join of a thread that has ended takes its value and frees its number; another waits
abbrev pub join_by : State → ℕ → ℕ → Standing → Called
join_by s t u Absent = blocked s t (Join u)
join_by s t u Ready = blocked s t (Join u)
join_by s t u (Waits wait) = blocked s t (Join u)
join_by s t u (Ended value) = values (begun (set_thread s u no_thread)) t 0 value

-- 258: join(thread) (POSIX.1 pthread_join)
abbrev pub join : State → ℕ → Arguments → Called
join s t c =
    refusing s t (
    (c.a0 == t, EDEADLK)
    ∷ (not (exists s c.a0), ESRCH)
    ∷ (is_taken s c.a0, EINVAL) ∷ [])
    (join_by s t c.a0 (s.threads c.a0).standing)

-- a thread is detached; the number of one that has ended is free
abbrev pub detached_by : State → ℕ → Standing → State
detached_by s u Absent = set_thread s u (record (s.threads u) { detached = true })
detached_by s u Ready = set_thread s u (record (s.threads u) { detached = true })
detached_by s u (Waits wait) = set_thread s u (record (s.threads u) { detached = true })
detached_by s u (Ended value) = set_thread s u no_thread

-- 259: detach(thread) (POSIX.1 pthread_detach)
abbrev pub detach : State → ℕ → Arguments → Called
detach s t c =
    refusing s t (
    (not (exists s c.a0), ESRCH)
    ∷ (is_taken s c.a0, EINVAL) ∷ [])
    (values (begun (detached_by s c.a0 (s.threads c.a0).standing)) t 0 0)

-- 260: self() (POSIX.1 pthread_self)
abbrev pub self_number : State → ℕ → Arguments → Called
self_number s t c = values (begun s) t 0 t

-- 261: yield() (POSIX.1 sched_yield)
abbrev pub yield : State → ℕ → Arguments → Called
yield s t c = values (begun (to_end s t)) t 0 0

-- the calls of input, output, signals and the clock
abbrev pub signal_calls : List Entry
signal_calls = (64, write) ∷ kill_calls ++ clock_calls

-- exit, and the calls of threads
abbrev pub thread_calls : List Entry
thread_calls =
    (93, exit) ∷ (256, create) ∷ (257, exit_thread) ∷ (258, join) ∷ (259, detach) ∷ (260, self_number) ∷ (261, yield)
    ∷ (262, setsched) ∷ (263, getsched) ∷ []

-- the calls of mutexes and of condition variables
abbrev pub sync_calls : List Entry
sync_calls = mutex_calls ++ condition_calls

-- the call table
abbrev pub table : List Entry
table = signal_calls ++ (thread_calls ++ sync_calls)

-- the row of a call's number; a number that the table does not have answers ENOSYS
unfoldable pub call_row : State → ℕ → ℕ → Arguments → Called
call_row s t number c = row_of table number s t c

-- a call that was made, with what is told of it
abbrev pub told_call : ℕ → ℕ → Arguments → Called → Outcome
told_call t number c called =
    record called.outcome { report = record called.outcome.report { tid = t; head = Call number (c.a0 ∷ c.a1 ∷ c.a2 ∷ c.a3 ∷ []) called.reply } }

-- a call as one change
abbrev pub call : State → ℕ → ℕ → Arguments → Outcome
call s t number c = told_call t number c (call_row s t number c)
