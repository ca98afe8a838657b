-- What leaves all that pends, and the time: calls but those of signals, and the ends of waits.
use Rattle.std.proofs.Common.{◌≡◌, ◌∙◌, refl, sym, ap, subst, ℕ, ◌+◌, ◌-◌, Bool, true, false, not, List, [], ◌∷◌, ◌++◌, Option, Some, None, length}
use Rattle.std.specs.Prelude.{◌==◌, ◌||◌, if◌then◌else◌, min, is_some, nat_lt}
use Rattle.std.specs.List.{AllByRecursion}
use Rattle.std.proofs.lemmas.Bool.{or_parts}
use Rattle.thread_base.specs.Holders.{is_held_by, count_of, is_free}
use Rattle.thread_base.specs.Numbers.{policy_of}
use Rattle.thread_base.specs.Objects.{new_condition}
use Rattle.thread_base.specs.Orders.{is_nil}
use Rattle.thread_base.specs.declared.Errno.{Errno}
use Rattle.thread_base.specs.declared.Errno.TheVariants.{EPERM, ESRCH, EBADF, EAGAIN, EFAULT, EBUSY, EINVAL, EDEADLK}
use Rattle.thread_base.specs.declared.mutex.Holder.TheVariants.{Held}
use Rattle.rv_exec.specs.Window.{fits}
use Rattle.posix_model.specs.State.{State, Mutex, Condition, Standing, Absent, Ready, Waits, Ended, is_live, wait_of}
use Rattle.posix_model.specs.Changes.{Outcome, begun, rescheduled}
use Rattle.posix_model.specs.Mutexes.{set_mutex, hand_off, best_waiter, give, requeue, retake_of}
use Rattle.posix_model.specs.Threads.{exists, free_number}
use Rattle.posix_model.specs.Conditions.{set_condition, is_other, is_used, leave, wake_from, wake, wake_all, in_order, next_woken}
use Rattle.posix_model.specs.Scheduling.{eff}
use Rattle.posix_model.specs.Arrivals.{has_come}
use Rattle.posix_model.specs.Replies.{Called, Row, Entry, ticks_in, values, refused, refusing, blocked, row_of}
use Rattle.posix_model.specs.Calls.{most_written, written, write, cannot_start, is_taken, created, create, join_by, join, detached_by, detach, thread_calls, sync_calls, call_row}
use Rattle.posix_model.specs.MutexCalls.{new_mutex, cannot_init, is_checked, is_full, mutex_init, destroy_of, take, queue, is_open_to, lock_of, trylock_of, released, unlock_of, mutex_calls}
use Rattle.posix_model.specs.PriorityCalls.{cannot_schedule, setsched, schedule_word, getsched}
use Rattle.posix_model.specs.ConditionCalls.{await_condition, wait_and_release, await_back, time_out, wait_until, cond_init, cond_destroy_of, cond_wait_of, wake_one, cond_signal_of, cond_broadcast_of, condition_calls}
use Rattle.posix_model.specs.SignalCalls.{kill_calls}
use Rattle.posix_model.specs.ClockCalls.{sleep_for, sleep, set_alarm, clock, clock_calls}
use Rattle.posix_model.specs.declared.Arguments.{Arguments}
use Rattle.posix_model.specs.declared.RetakeReply.{RetakeReply}
use Rattle.posix_model.specs.declared.RetakeReply.TheVariants.{Answer}
use Rattle.posix_model.specs.declared.Wait.TheVariants.{Cond, Sleep}

-- what pends, and the time
abbrev pub pends_at : State → (ℕ → ℕ → ℕ) × ℕ
pends_at s = (s.pending, s.now)

-- both are as they were
abbrev pub Stays : State → State → Type 0
Stays s r = pends_at r ≡ pends_at s

abbrev pub CallStays : State → Called → Type 0
CallStays s called = Stays s called.outcome.state

-- a row leaves both
abbrev pub IsCalm : Row → Type 0
IsCalm row = (s : State) (t : ℕ) (c : Arguments) → CallStays s (row s t c)

pub either : {A : Type 0} (P : A → Type 0) (b : Bool) (x y : A) → P x → P y → P (if b then x else y)
either P true x y p q = p
either P false x y p q = q

calm_refusing : (s : State) (t : ℕ) (refusals : List (Bool × Errno)) (effect : Called) → CallStays s effect → CallStays s (refusing s t refusals effect)
calm_refusing s t [] effect h = h
calm_refusing s t (refusal ∷ refusals) effect h =
    either (CallStays s) refusal.0 (refused s t refusal.1) (refusing s t refusals effect) refl (calm_refusing s t refusals effect h)

-- a mutex handed over, and a thread woken
calm_hand_off : (g : Outcome) (m : ℕ) (mutex : Mutex) (o : Option ℕ) → Stays g.state (hand_off g m mutex o).state
calm_hand_off g m mutex None = refl
calm_hand_off g m mutex (Some u) = refl

calm_retake : (g : Outcome) (m : ℕ) (o : Option Mutex) (t count : ℕ) (reply : RetakeReply) → Stays g.state (retake_of g m o t count reply).state
calm_retake g m None t count reply = refl
calm_retake g m (Some mutex) t count reply =
    either (λ (o : Outcome). Stays g.state o.state) (is_free mutex.holder) (give g m mutex t count reply) (requeue g m mutex t count reply) refl refl

calm_wake_by : (g : Outcome) (t : ℕ) (reply : RetakeReply) (st : Standing) → Stays g.state (wake_from g t reply (wait_of st)).state
calm_wake_by g t reply (Waits (Cond c m deadline count)) = calm_retake (leave g c t) m (g.state.mutexes m) t count reply
calm_wake_by g t reply st = refl

pub calm_wake : (g : Outcome) (t : ℕ) (reply : RetakeReply) → Stays g.state (wake g t reply).state
calm_wake g t reply = calm_wake_by g t reply (g.state.threads t).standing

calm_wake_all : (g : Outcome) (ts : List ℕ) → Stays g.state (wake_all g ts).state
calm_wake_all g [] = refl
calm_wake_all g (t ∷ ts) = calm_wake_all (wake g t (Answer 0)) ts ∙ calm_wake g t (Answer 0)

calm_wake_one : (g : Outcome) (o : Option ℕ) → Stays g.state (wake_one g o).state
calm_wake_one g None = refl
calm_wake_one g (Some u) = calm_wake g u (Answer 0)

-- the calls of threads
calm_created : (s : State) (t : ℕ) (c : Arguments) (o : Option ℕ) → CallStays s (created s t c o)
calm_created s t c None = refl
calm_created s t c (Some u) = refl

calm_join_by : (s : State) (t u : ℕ) (st : Standing) → CallStays s (join_by s t u st)
calm_join_by s t u Absent = refl
calm_join_by s t u Ready = refl
calm_join_by s t u (Waits wait) = refl
calm_join_by s t u (Ended value) = refl

calm_detached_by : (s : State) (u : ℕ) (st : Standing) → Stays s (detached_by s u st)
calm_detached_by s u Absent = refl
calm_detached_by s u Ready = refl
calm_detached_by s u (Waits wait) = refl
calm_detached_by s u (Ended value) = refl

-- the calls of mutexes
calm_destroy_of : (s : State) (t m : ℕ) (o : Option Mutex) → CallStays s (destroy_of s t m o)
calm_destroy_of s t m None = refl
calm_destroy_of s t m (Some mutex) =
    calm_refusing s t ((not (is_free mutex.holder) || is_used s m, EBUSY) ∷ []) (values (begun (set_mutex s m None)) t 0 0) refl

calm_lock_of : (s : State) (t m : ℕ) (o : Option Mutex) → CallStays s (lock_of s t m o)
calm_lock_of s t m None = refl
calm_lock_of s t m (Some mutex) =
    calm_refusing s t ((is_checked t mutex, EDEADLK) ∷ (is_full t mutex, EAGAIN) ∷ []) (if is_open_to t mutex then take s t m mutex else queue s t m mutex)
    (either (CallStays s) (is_open_to t mutex) (take s t m mutex) (queue s t m mutex) refl refl)

calm_trylock_of : (s : State) (t m : ℕ) (o : Option Mutex) → CallStays s (trylock_of s t m o)
calm_trylock_of s t m None = refl
calm_trylock_of s t m (Some mutex) = calm_refusing s t ((is_full t mutex, EAGAIN) ∷ (not (is_open_to t mutex), EBUSY) ∷ []) (take s t m mutex) refl

calm_released : (s : State) (t m : ℕ) (mutex : Mutex) → Stays s (released s t m mutex).state
calm_released s t m mutex =
    either (λ (g : Outcome). Stays s g.state) (count_of mutex.holder == 1) (hand_off (begun s) m mutex (best_waiter s mutex))
    (begun (set_mutex s m (Some (record mutex { holder = Held t (count_of mutex.holder - 1) })))) (calm_hand_off (begun s) m mutex (best_waiter s mutex)) refl

calm_unlock_of : (s : State) (t m : ℕ) (o : Option Mutex) → CallStays s (unlock_of s t m o)
calm_unlock_of s t m None = refl
calm_unlock_of s t m (Some mutex) =
    calm_refusing s t ((not (is_held_by mutex.holder t), EPERM) ∷ []) (values (released s t m mutex) t 0 0) (calm_released s t m mutex)

-- the calls of conditions
calm_cond_destroy_of : (s : State) (t c : ℕ) (o : Option Condition) → CallStays s (cond_destroy_of s t c o)
calm_cond_destroy_of s t c None = refl
calm_cond_destroy_of s t c (Some condition) = calm_refusing s t ((not (is_nil condition.waiters), EBUSY) ∷ []) (values (begun (set_condition s c None)) t 0 0) refl

calm_await_back : (g : Outcome) (t m : ℕ) (o : Option Mutex) (count : ℕ) → Stays g.state (await_back g t m o count).state
calm_await_back g t m None count = refl
calm_await_back g t m (Some mutex) count = refl

calm_time_out : (s : State) (t m : ℕ) (mutex : Mutex) (o : Option ℕ) → CallStays s (time_out s t m mutex o)
calm_time_out s t m mutex None = refl
calm_time_out s t m mutex (Some u) =
    let passed : Outcome = hand_off (begun s) m mutex (Some u) in
    calm_await_back passed t m (passed.state.mutexes m) (count_of mutex.holder)

calm_cond_wait_of : (s : State) (t c : ℕ) (condition : Option Condition) (m : ℕ) (mutex : Option Mutex) (deadline : Option ℕ)
    → CallStays s (cond_wait_of s t c condition m mutex deadline)
calm_cond_wait_of s t c None m mutex deadline = refl
calm_cond_wait_of s t c (Some condition) m None deadline = refl
calm_cond_wait_of s t c (Some condition) m (Some mutex) deadline =
    calm_refusing s t ((not (is_held_by mutex.holder t), EPERM) ∷ (is_other m condition.mutex, EINVAL) ∷ []) (wait_until s t c condition m mutex deadline)
    (either (CallStays s) (has_come s.now deadline) (time_out s t m mutex (best_waiter s mutex)) (wait_and_release s t c condition m mutex deadline)
    (calm_time_out s t m mutex (best_waiter s mutex))
    (calm_hand_off (begun (await_condition s t c condition m mutex deadline)) m mutex (best_waiter s mutex)))

calm_cond_signal_of : (s : State) (t : ℕ) (o : Option Condition) → CallStays s (cond_signal_of s t o)
calm_cond_signal_of s t None = refl
calm_cond_signal_of s t (Some condition) = calm_wake_one (begun s) (next_woken s condition)

calm_cond_broadcast_of : (s : State) (t : ℕ) (o : Option Condition) → CallStays s (cond_broadcast_of s t o)
calm_cond_broadcast_of s t None = refl
calm_cond_broadcast_of s t (Some condition) = calm_wake_all (begun s) (in_order (eff s) condition.waiters)

-- each row of a list leaves both
abbrev AreCalm : List Entry → Type 0
AreCalm entries = AllByRecursion (λ (entry : Entry). IsCalm entry.1) entries

calm_row_of : (number : ℕ) (entries others : List Entry) → AreCalm entries → IsCalm (row_of others number) → IsCalm (row_of (entries ++ others) number)
calm_row_of number [] others rows more s t c = more s t c
calm_row_of number (entry ∷ entries) others rows more s t c =
    either (CallStays s) (number == entry.0) (entry.1 s t c) (row_of (entries ++ others) number s t c) (rows.0 s t c) (calm_row_of number entries others rows.1 more s t c)

pub calm_write : IsCalm write
calm_write s t c =
    calm_refusing s t ((not ((c.a0 == 1) || (c.a0 == 2)), EBADF) ∷ (not (fits (length s.memory) c.a1 c.a2), EFAULT) ∷ []) (written s t c (min c.a2 most_written)) refl

calm_create : IsCalm create
calm_create s t c = calm_refusing s t ((cannot_start c, EINVAL) ∷ []) (created s t c (free_number s)) (calm_created s t c (free_number s))

calm_join : IsCalm join
calm_join s t c =
    calm_refusing s t ((c.a0 == t, EDEADLK) ∷ (not (exists s c.a0), ESRCH) ∷ (is_taken s c.a0, EINVAL) ∷ []) (join_by s t c.a0 (s.threads c.a0).standing)
    (calm_join_by s t c.a0 (s.threads c.a0).standing)

calm_detach : IsCalm detach
calm_detach s t c =
    calm_refusing s t ((not (exists s c.a0), ESRCH) ∷ (is_taken s c.a0, EINVAL) ∷ []) (values (begun (detached_by s c.a0 (s.threads c.a0).standing)) t 0 0)
    (calm_detached_by s c.a0 (s.threads c.a0).standing)

calm_setsched : IsCalm setsched
calm_setsched s t c =
    calm_refusing s t ((not (is_live (s.threads c.a0).standing), ESRCH) ∷ (cannot_schedule c, EINVAL) ∷ []) (values (begun (rescheduled s c.a0 (policy_of c.a1) c.a2)) t 0 0) refl

calm_getsched : IsCalm getsched
calm_getsched s t c = calm_refusing s t ((not (is_live (s.threads c.a0).standing), ESRCH) ∷ []) (values (begun s) t 0 (schedule_word (s.threads c.a0))) refl

calm_mutex_init : IsCalm mutex_init
calm_mutex_init s t c =
    calm_refusing s t ((cannot_init c, EINVAL) ∷ (is_some (s.mutexes c.a0), EBUSY) ∷ []) (values (begun (set_mutex s c.a0 (Some (new_mutex c.a1)))) t 0 0) refl

calm_cond_init : IsCalm cond_init
calm_cond_init s t c =
    calm_refusing s t ((not (nat_lt c.a0 256), EINVAL) ∷ (is_some (s.conditions c.a0), EBUSY) ∷ []) (values (begun (set_condition s c.a0 (Some new_condition))) t 0 0) refl

calm_thread_calls : AreCalm thread_calls
calm_thread_calls = (λ s t c. refl, (calm_create, (λ s t c. refl, (calm_join, (calm_detach, (λ s t c. refl, (λ s t c. refl, (calm_setsched, (calm_getsched, tt)))))))))

calm_mutex_calls : AreCalm mutex_calls
calm_mutex_calls = (
  calm_mutex_init,
  (
    λ s t c. calm_destroy_of s t c.a0 (s.mutexes c.a0),
    (
      λ s t c. calm_lock_of s t c.a0 (s.mutexes c.a0),
      (
        λ s t c. calm_trylock_of s t c.a0 (s.mutexes c.a0),
        (λ s t c. calm_unlock_of s t c.a0 (s.mutexes c.a0), tt),
      ),
    ),
  ),
)

calm_condition_calls : AreCalm condition_calls
calm_condition_calls = (
  calm_cond_init,
  (
    λ s t c. calm_cond_destroy_of s t c.a0 (s.conditions c.a0),
    (
      λ s t c. calm_cond_wait_of s t c.a0 (s.conditions c.a0) c.a1 (s.mutexes c.a1) None,
      (
        λ s t c. calm_cond_wait_of s t c.a0 (s.conditions c.a0) c.a1 (s.mutexes c.a1) (Some (ticks_in c.a2)),
        (
          λ s t c. calm_cond_signal_of s t (s.conditions c.a0),
          (λ s t c. calm_cond_broadcast_of s t (s.conditions c.a0), tt),
        ),
      ),
    ),
  ),
)

-- the calls of the clock
calm_sleep_for : (s : State) (t ticks : ℕ) → CallStays s (sleep_for s t ticks)
calm_sleep_for s t ticks = either (CallStays s) (ticks == 0) (values (begun s) t 0 0) (blocked s t (Sleep (s.now + ticks))) refl refl

pub calm_sleep : IsCalm sleep
calm_sleep s t c = calm_sleep_for s t (ticks_in c.a0)

pub calm_set_alarm : IsCalm set_alarm
calm_set_alarm s t c = refl

pub calm_clock : IsCalm clock
calm_clock s t c = refl

calm_clock_calls : AreCalm clock_calls
calm_clock_calls = (calm_sleep, (calm_set_alarm, (calm_clock, tt)))

-- the calls of threads, of mutexes and of conditions leave both
pub calm_others : (number : ℕ) → IsCalm (row_of (thread_calls ++ sync_calls) number)
calm_others number =
    calm_row_of number thread_calls sync_calls calm_thread_calls
    (calm_row_of number mutex_calls condition_calls calm_mutex_calls
    (calm_row_of number condition_calls [] calm_condition_calls (λ s t c. refl)))

-- a list has a call of a number
abbrev pub is_listed : ℕ → List Entry → Bool
is_listed number [] = false
is_listed number (entry ∷ entries) = (number == entry.0) || is_listed number entries

-- the row of a number that a list does not have is that in the calls after
unlisted : (number : ℕ) (entries others : List Entry) (s : State) (t : ℕ) (c : Arguments) → is_listed number entries ≡ false
    → row_of (entries ++ others) number s t c ≡ row_of others number s t c
unlisted number [] others s t c none = refl
unlisted number (entry ∷ entries) others s t c none =
    let parts = or_parts (number == entry.0) (is_listed number entries) none in
    ap (λ b. if b then entry.1 s t c else row_of (entries ++ others) number s t c) parts.0 ∙ unlisted number entries others s t c parts.1

-- a call that is none of signals leaves both
pub calls_leave_pending : (s : State) (t number : ℕ) (c : Arguments) → is_listed number kill_calls ≡ false → Stays s (call_row s t number c).outcome.state
unfolding call_row
calls_leave_pending s t number c none =
    let others = clock_calls ++ thread_calls ++ sync_calls in
    either (CallStays s) (number == 64) (write s t c) (row_of (kill_calls ++ others) number s t c) (calm_write s t c)
    (subst (CallStays s) (sym (unlisted number kill_calls others s t c none))
    (calm_row_of number clock_calls (thread_calls ++ sync_calls) calm_clock_calls (calm_others number) s t c))
