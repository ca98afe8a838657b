-- Small cases of the calls of the clock and of waits with a deadline, which the checker computes.
use Rattle.std.specs.Prelude.{ℕ, ◌≡◌, [], ◌∷◌, slice_index_or, Option, Some, None}
use Rattle.thread_base.specs.Objects.{new_condition}
use Rattle.thread_base.specs.declared.mutex.Holder.TheVariants.{Held}
use Rattle.thread_base.specs.declared.mutex.Kind.TheVariants.{Normal, Recursive}
use Rattle.posix_model.specs.State.{State, Ready, Waits}
use Rattle.posix_model.specs.Changes.{begun}
use Rattle.posix_model.specs.Arrivals.{tick}
use Rattle.posix_model.specs.Calls.{call_row}
use Rattle.posix_model.specs.MutexCalls.{lock, unlock}
use Rattle.posix_model.specs.Replies.{Called}
use Rattle.posix_model.specs.Examples.{six_threads, with_arguments, reply_of, ready_after, standing_after}
use Rattle.posix_model.specs.MutexExamples.{mutex_with, mutex_after, on}
use Rattle.posix_model.specs.ConditionExamples.{two_conditions, condition_with, condition_after}
use Rattle.posix_model.specs.KillExamples.{called}
use Rattle.posix_model.specs.declared.Reply.TheVariants.{Values, Block}
use Rattle.posix_model.specs.declared.RetakeReply.TheVariants.{Answer}
use Rattle.posix_model.specs.declared.Wait.TheVariants.{Cond, Reacquire, Sleep}

-- 7 ticks have come, and an alarm may be set
abbrev pub at_seven : Option ℕ → State
at_seven alarm = record six_threads { now = 7; alarm = alarm }

-- a sleep of no ticks is over at once, and its caller keeps its place; another is over when its ticks have come
abbrev pub Sleeps : Type 0
Sleeps =
    let none : Called = called (at_seven None) 292 0 0 0 in
    let three : Called = called (at_seven None) 292 3 0 0 in
    let nine : State = record three.outcome.state { now = 9 } in
    (reply_of none ≡ Values 0 0) × (standing_after none 1 ≡ Ready) × (ready_after none ≡ 1 ∷ 2 ∷ 5 ∷ 6 ∷ [])
    × (reply_of three ≡ Block) × (standing_after three 1 ≡ Waits (Sleep 10)) × (ready_after three ≡ 2 ∷ 5 ∷ 6 ∷ [])
    × ((three.outcome.state.threads 1).registers.pc ≡ 65620) × ((tick 4 (begun (record nine { now = 8 }))).report.done ≡ 0)
    × ((tick 4 (begun nine)).report.done ≡ 1)

-- an alarm is set, set anew and cleared, and each time the ticks are answered that were left; the clock tells the time
abbrev pub Alarms : Type 0
Alarms =
    let first : Called = called (at_seven None) 293 5 0 0 in
    let again : Called = called (at_seven (Some 12)) 293 3 0 0 in
    let cleared : Called = called (at_seven (Some 12)) 293 0 0 0 in
    (reply_of first ≡ Values 0 0) × (first.outcome.state.alarm ≡ Some 12) × (reply_of again ≡ Values 0 5) × (again.outcome.state.alarm ≡ Some 10)
    × (reply_of cleared ≡ Values 0 5) × (cleared.outcome.state.alarm ≡ None) × (reply_of (called (at_seven None) 293 0 0 0) ≡ Values 0 0)
    × (reply_of (called (at_seven None) 294 0 0 0) ≡ Values 0 7) × (ready_after (called (at_seven None) 294 0 0 0) ≡ 1 ∷ 2 ∷ 5 ∷ 6 ∷ [])

-- the threads, mutexes and conditions of the cases of conditions, when 7 ticks have come
abbrev pub conditions_at_seven : State
conditions_at_seven = record two_conditions { now = 7 }

-- a thread waits for a condition with a mutex until a time
abbrev pub wait_until_time : State → ℕ → ℕ → ℕ → ℕ → Called
wait_until_time s t c m deadline = call_row s t 283 (with_arguments c m deadline 0)

-- until a time to come a thread waits as without one; it is refused what it is refused without one, though the time has passed
abbrev pub TimedWaits : Type 0
TimedWaits =
    let coming : Called = wait_until_time conditions_at_seven 1 0 0 8 in
    (reply_of coming ≡ Block) × (standing_after coming 1 ≡ Waits (Cond 0 0 (Some 8) 1))
    × (condition_after coming 0 ≡ Some (condition_with (Some 0) (3 ∷ 4 ∷ 5 ∷ 1 ∷ []))) × (mutex_after coming 0 ≡ Some (mutex_with Normal (Held 6 1) []))
    × (ready_after coming ≡ 2 ∷ 6 ∷ []) × (reply_of (wait_until_time conditions_at_seven 1 9 0 0) ≡ Values 22 0)
    × (reply_of (wait_until_time conditions_at_seven 1 0 9 0) ≡ Values 22 0) × (reply_of (wait_until_time conditions_at_seven 2 0 0 0) ≡ Values 1 0)
    × (reply_of (wait_until_time conditions_at_seven 1 0 2 0) ≡ Values 22 0)

-- where the time has passed a waiter gets the mutex, and the caller waits for it after the others, to be answered ETIMEDOUT;
-- it waits for no condition
abbrev pub PassedOn : Type 0
PassedOn =
    let passed : Called = wait_until_time (on lock conditions_at_seven 2 0).outcome.state 1 0 0 7 in
    let next : Called = on unlock passed.outcome.state 6 0 in
    let back : Called = on unlock next.outcome.state 2 0 in
    let counted : Called = wait_until_time (on lock conditions_at_seven 2 2).outcome.state 1 1 2 0 in
    (reply_of passed ≡ Block) × (standing_after passed 1 ≡ Waits (Reacquire 0 (Answer 110) 1))
    × (mutex_after passed 0 ≡ Some (mutex_with Normal (Held 6 1) (2 ∷ 1 ∷ []))) × (ready_after passed ≡ 6 ∷ []) × (passed.outcome.report.done ≡ 32)
    × (condition_after passed 0 ≡ Some (condition_with (Some 0) (3 ∷ 4 ∷ 5 ∷ []))) × ((passed.outcome.state.threads 1).registers.pc ≡ 65620)
    × (mutex_after next 0 ≡ Some (mutex_with Normal (Held 2 1) (1 ∷ []))) × (mutex_after back 0 ≡ Some (mutex_with Normal (Held 1 1) []))
    × (slice_index_or back.outcome.report.values 0 (9, 9) ≡ (110, 0))
    × (standing_after counted 1 ≡ Waits (Reacquire 2 (Answer 110) 3)) × (mutex_after counted 2 ≡ Some (mutex_with Recursive (Held 2 1) (1 ∷ [])))

-- where nobody waits for the mutex the caller has it as often as before, is answered at once and keeps its place
abbrev pub TimedOutAtOnce : Type 0
TimedOutAtOnce =
    let kept : Called = wait_until_time conditions_at_seven 1 1 2 7 in
    (reply_of kept ≡ Values 110 0) × (mutex_after kept 2 ≡ Some (mutex_with Recursive (Held 1 3) [])) × (standing_after kept 1 ≡ Ready)
    × (ready_after kept ≡ 1 ∷ 2 ∷ []) × (kept.outcome.report.done ≡ 0) × (condition_after kept 1 ≡ Some new_condition)
    × ((kept.outcome.state.threads 1).registers.pc ≡ 65624)
