-- What leaves all that a ledger reads but the main line: calls but those of signals, and the ends of waits.
use Rattle.std.proofs.Common.{◌≡◌, ◌∙◌, refl, ap, ℕ, ◌+◌, ◌-◌, Bool, not, List, [], ◌∷◌, Option, Some, None, length}
use Rattle.std.specs.Prelude.{◌==◌, ◌||◌, if◌then◌else◌, min, is_some, nat_lt}
use Rattle.std.specs.List.{AllByRecursion}
use Rattle.thread_base.specs.Holders.{is_held_by, count_of, is_free}
use Rattle.thread_base.specs.Numbers.{policy_of}
use Rattle.thread_base.specs.Objects.{new_condition}
use Rattle.thread_base.specs.Orders.{is_nil, without}
use Rattle.thread_base.specs.declared.Errno.{Errno}
use Rattle.thread_base.specs.declared.Errno.TheVariants.{EPERM, ESRCH, EBADF, EAGAIN, EFAULT, EBUSY, EINVAL, EDEADLK}
use Rattle.thread_base.specs.declared.mutex.Holder.TheVariants.{Held}
use Rattle.rv_exec.specs.Window.{fits}
use Rattle.posix_model.specs.State.{State, Mutex, Condition, Standing, Absent, Ready, Waits, Ended, is_live, wait_of, count_due}
use Rattle.posix_model.specs.Changes.{Outcome, begun, rescheduled, with_resumed}
use Rattle.posix_model.specs.Mutexes.{reply_due, set_mutex, hand_off, best_waiter, give, requeue, retake_of}
use Rattle.posix_model.specs.Threads.{exists, free_number}
use Rattle.posix_model.specs.Conditions.{set_condition, is_other, is_used, leave, wake_from, wake, wake_all, in_order, next_woken}
use Rattle.posix_model.specs.Scheduling.{eff}
use Rattle.posix_model.specs.Arrivals.{has_come}
use Rattle.posix_model.specs.Replies.{Called, Row, Entry, ticks_in, values, refused, refusing, blocked}
use Rattle.posix_model.specs.Calls.{most_written, written, write, cannot_start, is_taken, created, create, join_by, join, detached_by, detach, thread_calls}
use Rattle.posix_model.specs.MutexCalls.{new_mutex, cannot_init, is_checked, is_full, mutex_init, destroy_of, take, queue, is_open_to, lock_of, trylock_of, released, unlock_of, mutex_calls}
use Rattle.posix_model.specs.ClockCalls.{sleep_for, sleep, set_alarm, clock}
use Rattle.posix_model.specs.PriorityCalls.{cannot_schedule, setsched, schedule_word, getsched}
use Rattle.posix_model.specs.ConditionCalls.{await_condition, wait_and_release, await_back, time_out, wait_until, cond_init, cond_destroy_of, cond_wait_of, wake_one, cond_signal_of, cond_broadcast_of, condition_calls}
use Rattle.posix_model.specs.declared.Arguments.{Arguments}
use Rattle.posix_model.specs.declared.Report.{Report}
use Rattle.posix_model.specs.declared.RetakeReply.{RetakeReply}
use Rattle.posix_model.specs.declared.RetakeReply.TheVariants.{Answer, Cancel}
use Rattle.posix_model.specs.declared.Wait.TheVariants.{Cond, Sleep}
use Rattle.posix_model.proofs.PendingLemmas.{either}

-- what a ledger reads of a report but the main line, and what pends
abbrev pub told_of : Report → Bool × ℕ × List ℕ
told_of r = (r.alarm, r.took, r.drops)

abbrev pub kept_of : Outcome → (ℕ → ℕ → ℕ) × (Bool × ℕ × List ℕ)
kept_of g = (g.state.pending, told_of g.report)

-- all of this is as it was
abbrev pub Keeps : Outcome → Outcome → Type 0
Keeps g h = kept_of h ≡ kept_of g

abbrev pub CallKeeps : State → Called → Type 0
CallKeeps s called = Keeps (begun s) called.outcome

-- a row leaves it
abbrev pub IsCalm : Row → Type 0
IsCalm row = (s : State) (t : ℕ) (c : Arguments) → CallKeeps s (row s t c)

calm_refusing : (s : State) (t : ℕ) (refusals : List (Bool × Errno)) (effect : Called) → CallKeeps s effect → CallKeeps s (refusing s t refusals effect)
calm_refusing s t [] effect h = h
calm_refusing s t (refusal ∷ refusals) effect h =
    either (CallKeeps s) refusal.0 (refused s t refusal.1) (refusing s t refusals effect) refl (calm_refusing s t refusals effect h)

-- a mutex handed over, and a thread woken
keeps_resumed : (r : Report) (t : ℕ) (reply : RetakeReply) → told_of (with_resumed r t reply) ≡ told_of r
keeps_resumed r t (Answer error) = refl
keeps_resumed r t Cancel = refl

keeps_give : (g : Outcome) (m : ℕ) (mutex : Mutex) (t count : ℕ) (reply : RetakeReply) → Keeps g (give g m mutex t count reply)
keeps_give g m mutex t count reply = ap (λ k. (g.state.pending, k)) (keeps_resumed g.report t reply)

keeps_hand_off : (g : Outcome) (m : ℕ) (mutex : Mutex) (o : Option ℕ) → Keeps g (hand_off g m mutex o)
keeps_hand_off g m mutex None = refl
keeps_hand_off g m mutex (Some u) =
    keeps_give g m (record mutex { waiters = without u mutex.waiters }) u (count_due (g.state.threads u).standing) (reply_due (g.state.threads u).standing)

keeps_retake : (g : Outcome) (m : ℕ) (o : Option Mutex) (t count : ℕ) (reply : RetakeReply) → Keeps g (retake_of g m o t count reply)
keeps_retake g m None t count reply = refl
keeps_retake g m (Some mutex) t count reply =
    either (λ (o : Outcome). Keeps g o) (is_free mutex.holder) (give g m mutex t count reply) (requeue g m mutex t count reply) (keeps_give g m mutex t count reply) refl

keeps_wake_by : (g : Outcome) (t : ℕ) (reply : RetakeReply) (st : Standing) → Keeps g (wake_from g t reply (wait_of st))
keeps_wake_by g t reply (Waits (Cond c m deadline count)) = keeps_retake (leave g c t) m (g.state.mutexes m) t count reply
keeps_wake_by g t reply st = refl

pub keeps_wake : (g : Outcome) (t : ℕ) (reply : RetakeReply) → Keeps g (wake g t reply)
keeps_wake g t reply = keeps_wake_by g t reply (g.state.threads t).standing

keeps_wake_all : (g : Outcome) (ts : List ℕ) → Keeps g (wake_all g ts)
keeps_wake_all g [] = refl
keeps_wake_all g (t ∷ ts) = keeps_wake_all (wake g t (Answer 0)) ts ∙ keeps_wake g t (Answer 0)

keeps_wake_one : (g : Outcome) (o : Option ℕ) → Keeps g (wake_one g o)
keeps_wake_one g None = refl
keeps_wake_one g (Some u) = keeps_wake g u (Answer 0)

-- a write
calm_written : (s : State) (t : ℕ) (c : Arguments) (count : ℕ) → CallKeeps s (written s t c count)
calm_written s t c count =
    let more : Report = record (begun s).report { out_fd = c.a0; out_buf = c.a1; out_len = count } in
    ap (λ k. (s.pending, k)) (either (λ (r : Report). told_of r ≡ told_of (begun s).report) (count == 0) (begun s).report more refl refl)

-- the calls of threads
calm_created : (s : State) (t : ℕ) (c : Arguments) (o : Option ℕ) → CallKeeps s (created s t c o)
calm_created s t c None = refl
calm_created s t c (Some u) = refl

calm_join_by : (s : State) (t u : ℕ) (st : Standing) → CallKeeps s (join_by s t u st)
calm_join_by s t u Absent = refl
calm_join_by s t u Ready = refl
calm_join_by s t u (Waits wait) = refl
calm_join_by s t u (Ended value) = refl

calm_detached_by : (s : State) (u : ℕ) (st : Standing) → Keeps (begun s) (begun (detached_by s u st))
calm_detached_by s u Absent = refl
calm_detached_by s u Ready = refl
calm_detached_by s u (Waits wait) = refl
calm_detached_by s u (Ended value) = refl

-- the calls of mutexes
calm_destroy_of : (s : State) (t m : ℕ) (o : Option Mutex) → CallKeeps s (destroy_of s t m o)
calm_destroy_of s t m None = refl
calm_destroy_of s t m (Some mutex) =
    calm_refusing s t ((not (is_free mutex.holder) || is_used s m, EBUSY) ∷ []) (values (begun (set_mutex s m None)) t 0 0) refl

calm_lock_of : (s : State) (t m : ℕ) (o : Option Mutex) → CallKeeps s (lock_of s t m o)
calm_lock_of s t m None = refl
calm_lock_of s t m (Some mutex) =
    calm_refusing s t ((is_checked t mutex, EDEADLK) ∷ (is_full t mutex, EAGAIN) ∷ []) (if is_open_to t mutex then take s t m mutex else queue s t m mutex)
    (either (CallKeeps s) (is_open_to t mutex) (take s t m mutex) (queue s t m mutex) refl refl)

calm_trylock_of : (s : State) (t m : ℕ) (o : Option Mutex) → CallKeeps s (trylock_of s t m o)
calm_trylock_of s t m None = refl
calm_trylock_of s t m (Some mutex) = calm_refusing s t ((is_full t mutex, EAGAIN) ∷ (not (is_open_to t mutex), EBUSY) ∷ []) (take s t m mutex) refl

keeps_released : (s : State) (t m : ℕ) (mutex : Mutex) → Keeps (begun s) (released s t m mutex)
keeps_released s t m mutex =
    either (λ (g : Outcome). Keeps (begun s) g) (count_of mutex.holder == 1) (hand_off (begun s) m mutex (best_waiter s mutex))
    (begun (set_mutex s m (Some (record mutex { holder = Held t (count_of mutex.holder - 1) })))) (keeps_hand_off (begun s) m mutex (best_waiter s mutex)) refl

calm_unlock_of : (s : State) (t m : ℕ) (o : Option Mutex) → CallKeeps s (unlock_of s t m o)
calm_unlock_of s t m None = refl
calm_unlock_of s t m (Some mutex) =
    calm_refusing s t ((not (is_held_by mutex.holder t), EPERM) ∷ []) (values (released s t m mutex) t 0 0) (keeps_released s t m mutex)

-- the calls of conditions
calm_cond_destroy_of : (s : State) (t c : ℕ) (o : Option Condition) → CallKeeps s (cond_destroy_of s t c o)
calm_cond_destroy_of s t c None = refl
calm_cond_destroy_of s t c (Some condition) = calm_refusing s t ((not (is_nil condition.waiters), EBUSY) ∷ []) (values (begun (set_condition s c None)) t 0 0) refl

keeps_await_back : (g : Outcome) (t m : ℕ) (o : Option Mutex) (count : ℕ) → Keeps g (await_back g t m o count)
keeps_await_back g t m None count = refl
keeps_await_back g t m (Some mutex) count = refl

calm_time_out : (s : State) (t m : ℕ) (mutex : Mutex) (o : Option ℕ) → CallKeeps s (time_out s t m mutex o)
calm_time_out s t m mutex None = refl
calm_time_out s t m mutex (Some u) =
    let passed : Outcome = hand_off (begun s) m mutex (Some u) in
    keeps_await_back passed t m (passed.state.mutexes m) (count_of mutex.holder) ∙ keeps_hand_off (begun s) m mutex (Some u)

calm_cond_wait_of : (s : State) (t c : ℕ) (condition : Option Condition) (m : ℕ) (mutex : Option Mutex) (deadline : Option ℕ)
    → CallKeeps s (cond_wait_of s t c condition m mutex deadline)
calm_cond_wait_of s t c None m mutex deadline = refl
calm_cond_wait_of s t c (Some condition) m None deadline = refl
calm_cond_wait_of s t c (Some condition) m (Some mutex) deadline =
    calm_refusing s t ((not (is_held_by mutex.holder t), EPERM) ∷ (is_other m condition.mutex, EINVAL) ∷ []) (wait_until s t c condition m mutex deadline)
    (either (CallKeeps s) (has_come s.now deadline) (time_out s t m mutex (best_waiter s mutex)) (wait_and_release s t c condition m mutex deadline)
    (calm_time_out s t m mutex (best_waiter s mutex))
    (keeps_hand_off (begun (await_condition s t c condition m mutex deadline)) m mutex (best_waiter s mutex)))

calm_cond_signal_of : (s : State) (t : ℕ) (o : Option Condition) → CallKeeps s (cond_signal_of s t o)
calm_cond_signal_of s t None = refl
calm_cond_signal_of s t (Some condition) = keeps_wake_one (begun s) (next_woken s condition)

calm_cond_broadcast_of : (s : State) (t : ℕ) (o : Option Condition) → CallKeeps s (cond_broadcast_of s t o)
calm_cond_broadcast_of s t None = refl
calm_cond_broadcast_of s t (Some condition) = keeps_wake_all (begun s) (in_order (eff s) condition.waiters)

-- each row of a list leaves it
abbrev pub AreCalm : List Entry → Type 0
AreCalm entries = AllByRecursion (λ (entry : Entry). IsCalm entry.1) entries

pub calm_write : IsCalm write
calm_write s t c =
    calm_refusing s t ((not ((c.a0 == 1) || (c.a0 == 2)), EBADF) ∷ (not (fits (length s.memory) c.a1 c.a2), EFAULT) ∷ []) (written s t c (min c.a2 most_written))
    (calm_written s t c (min c.a2 most_written))

calm_create : IsCalm create
calm_create s t c = calm_refusing s t ((cannot_start c, EINVAL) ∷ []) (created s t c (free_number s)) (calm_created s t c (free_number s))

calm_join : IsCalm join
calm_join s t c =
    calm_refusing s t ((c.a0 == t, EDEADLK) ∷ (not (exists s c.a0), ESRCH) ∷ (is_taken s c.a0, EINVAL) ∷ []) (join_by s t c.a0 (s.threads c.a0).standing)
    (calm_join_by s t c.a0 (s.threads c.a0).standing)

calm_detach : IsCalm detach
calm_detach s t c =
    calm_refusing s t ((not (exists s c.a0), ESRCH) ∷ (is_taken s c.a0, EINVAL) ∷ []) (values (begun (detached_by s c.a0 (s.threads c.a0).standing)) t 0 0)
    (calm_detached_by s c.a0 (s.threads c.a0).standing)

calm_setsched : IsCalm setsched
calm_setsched s t c =
    calm_refusing s t ((not (is_live (s.threads c.a0).standing), ESRCH) ∷ (cannot_schedule c, EINVAL) ∷ []) (values (begun (rescheduled s c.a0 (policy_of c.a1) c.a2)) t 0 0) refl

calm_getsched : IsCalm getsched
calm_getsched s t c = calm_refusing s t ((not (is_live (s.threads c.a0).standing), ESRCH) ∷ []) (values (begun s) t 0 (schedule_word (s.threads c.a0))) refl

calm_mutex_init : IsCalm mutex_init
calm_mutex_init s t c =
    calm_refusing s t ((cannot_init c, EINVAL) ∷ (is_some (s.mutexes c.a0), EBUSY) ∷ []) (values (begun (set_mutex s c.a0 (Some (new_mutex c.a1)))) t 0 0) refl

calm_cond_init : IsCalm cond_init
calm_cond_init s t c =
    calm_refusing s t ((not (nat_lt c.a0 256), EINVAL) ∷ (is_some (s.conditions c.a0), EBUSY) ∷ []) (values (begun (set_condition s c.a0 (Some new_condition))) t 0 0) refl

-- the calls of the clock
calm_sleep_for : (s : State) (t ticks : ℕ) → CallKeeps s (sleep_for s t ticks)
calm_sleep_for s t ticks = either (CallKeeps s) (ticks == 0) (values (begun s) t 0 0) (blocked s t (Sleep (s.now + ticks))) refl refl

pub calm_sleep : IsCalm sleep
calm_sleep s t c = calm_sleep_for s t (ticks_in c.a0)

pub calm_set_alarm : IsCalm set_alarm
calm_set_alarm s t c = refl

pub calm_clock : IsCalm clock
calm_clock s t c = refl

pub calm_thread_calls : AreCalm thread_calls
calm_thread_calls = (λ s t c. refl, (calm_create, (λ s t c. refl, (calm_join, (calm_detach, (λ s t c. refl, (λ s t c. refl, (calm_setsched, (calm_getsched, tt)))))))))

pub calm_mutex_calls : AreCalm mutex_calls
calm_mutex_calls = (
  calm_mutex_init,
  (
    λ s t c. calm_destroy_of s t c.a0 (s.mutexes c.a0),
    (
      λ s t c. calm_lock_of s t c.a0 (s.mutexes c.a0),
      (
        λ s t c. calm_trylock_of s t c.a0 (s.mutexes c.a0),
        (λ s t c. calm_unlock_of s t c.a0 (s.mutexes c.a0), tt),
      ),
    ),
  ),
)

pub calm_condition_calls : AreCalm condition_calls
calm_condition_calls = (
  calm_cond_init,
  (
    λ s t c. calm_cond_destroy_of s t c.a0 (s.conditions c.a0),
    (
      λ s t c. calm_cond_wait_of s t c.a0 (s.conditions c.a0) c.a1 (s.mutexes c.a1) None,
      (
        λ s t c. calm_cond_wait_of s t c.a0 (s.conditions c.a0) c.a1 (s.mutexes c.a1) (Some (ticks_in c.a2)),
        (
          λ s t c. calm_cond_signal_of s t (s.conditions c.a0),
          (λ s t c. calm_cond_broadcast_of s t (s.conditions c.a0), tt),
        ),
      ),
    ),
  ),
)
