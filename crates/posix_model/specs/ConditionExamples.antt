-- Small cases of condition variables, which the checker computes.
use Rattle.std.specs.Prelude.{ℕ, ◌≡◌, List, [], ◌∷◌, slice_index_or, Option, Some, None}
use Rattle.thread_base.specs.Maps.{put}
use Rattle.thread_base.specs.declared.mutex.Holder.TheVariants.{Free, Held, Orphan}
use Rattle.thread_base.specs.declared.mutex.Kind.TheVariants.{Normal, Recursive}
use Rattle.posix_model.specs.State.{State, Thread, Condition, Leaving, Ready, Waits, no_thread, no_mutexes, no_conditions}
use Rattle.posix_model.specs.Scheduling.{chosen}
use Rattle.posix_model.specs.Changes.{begun}
use Rattle.posix_model.specs.Conditions.{in_order, wake}
use Rattle.thread_base.specs.Objects.{new_condition}
use Rattle.posix_model.specs.ConditionCalls.{cond_init, cond_destroy, cond_wait, cond_signal, cond_broadcast}
use Rattle.posix_model.specs.Leaving.{end_of_thread}
use Rattle.posix_model.specs.MutexCalls.{mutex_destroy, lock, unlock}
use Rattle.posix_model.specs.Replies.{Called}
use Rattle.posix_model.specs.Examples.{six_threads, thread_with, with_arguments, reply_of, ready_after, standing_after}
use Rattle.posix_model.specs.MutexExamples.{waiter_with, mutex_with, mutex_after, on}
use Rattle.posix_model.specs.declared.Reply.TheVariants.{Values, Block}
use Rattle.posix_model.specs.declared.RetakeReply.TheVariants.{Answer, Cancel}
use Rattle.posix_model.specs.declared.Wait.TheVariants.{Cond, Reacquire}

-- a thread of a priority that waits for condition 0 with mutex 0
abbrev pub waiting_with : ℕ → Thread
waiting_with base = record (thread_with (Waits (Cond 0 0 None 1))) { base = base }

-- a condition with a mutex and waiters
abbrev pub condition_with : Option ℕ → List ℕ → Condition
condition_with mutex waiters = record { mutex = mutex; waiters = waiters }

-- threads 1 and 2 are ready; thread 1 has mutex 0, for which 6 waits, and mutex 2 (three times), and mutex 1 is free;
-- the threads 3, 4 and 5 came in this order to wait for condition 0 with mutex 0, and nobody waits for condition 1
abbrev pub two_conditions : State
two_conditions = record six_threads {
  threads =
      put (put (put (put (put (put (λ t. no_thread) 1 (thread_with Ready)) 2 (thread_with Ready)) 3 (waiting_with 8))
      4 (waiting_with 12)) 5 (waiting_with 12)) 6 (waiter_with 8);
  ready = 1 ∷ 2 ∷ [];
  mutexes =
      put (put (put no_mutexes 0 (Some (mutex_with Normal (Held 1 1) (6 ∷ [])))) 1 (Some (mutex_with Normal Free [])))
      2 (Some (mutex_with Recursive (Held 1 3) []));
  conditions = put (put no_conditions 0 (Some (condition_with (Some 0) (3 ∷ 4 ∷ 5 ∷ [])))) 1 (Some new_condition);
}

-- the same, where mutex 0 is free and thread 6 is not there
abbrev pub free_mutex : State
free_mutex = record two_conditions {
  threads = put two_conditions.threads 6 no_thread;
  mutexes = put two_conditions.mutexes 0 (Some (mutex_with Normal Free []));
}

-- the condition of a number after a call
abbrev pub condition_after : Called → ℕ → Option Condition
condition_after called c = called.outcome.state.conditions c

-- a thread waits for a condition with a mutex
abbrev pub wait_on : State → ℕ → ℕ → ℕ → Called
wait_on s t c m = cond_wait s t (with_arguments c m 0 0)

-- who waits stands after the other waiters, and its mutex goes to who waits for it, or is free, at once
abbrev pub ConditionWaits : Type 0
ConditionWaits =
    let first : Called = wait_on two_conditions 1 0 0 in
    (reply_of first ≡ Block) × (standing_after first 1 ≡ Waits (Cond 0 0 None 1))
    × (condition_after first 0 ≡ Some (condition_with (Some 0) (3 ∷ 4 ∷ 5 ∷ 1 ∷ []))) × (mutex_after first 0 ≡ Some (mutex_with Normal (Held 6 1) []))
    × (ready_after first ≡ 2 ∷ 6 ∷ []) × (first.outcome.report.done ≡ 32) × (mutex_after first 2 ≡ Some (mutex_with Recursive (Held 1 3) []))
    × (condition_after (wait_on two_conditions 1 1 0) 1 ≡ Some (condition_with (Some 0) (1 ∷ [])))
    × (mutex_after (wait_on two_conditions 1 1 2) 2 ≡ Some (mutex_with Recursive Free []))

-- the refusals of a wait, the first that holds: no condition, no mutex, another owner, another mutex than the waiters'
abbrev pub ConditionWaitRefusals : Type 0
ConditionWaitRefusals =
    (reply_of (wait_on two_conditions 1 9 0) ≡ Values 22 0) × (reply_of (wait_on two_conditions 1 0 9) ≡ Values 22 0)
    × (reply_of (wait_on two_conditions 2 0 0) ≡ Values 1 0) × (reply_of (wait_on two_conditions 1 1 1) ≡ Values 1 0)
    × (reply_of (wait_on two_conditions 2 0 2) ≡ Values 1 0) × (reply_of (wait_on two_conditions 1 0 2) ≡ Values 22 0)

-- a signal wakes the waiter of greatest priority, the earliest of equals, who has a free mutex at once and else waits
-- for it like any other; without a waiter it does nothing
abbrev pub Signals : Type 0
Signals =
    let taken : Called = on cond_signal free_mutex 1 0 in
    let queued : Called = on cond_signal two_conditions 1 0 in
    let handed : Called = on unlock queued.outcome.state 1 0 in
    let idle : Called = on cond_signal two_conditions 1 1 in
    (reply_of taken ≡ Values 0 0) × (condition_after taken 0 ≡ Some (condition_with (Some 0) (3 ∷ 5 ∷ [])))
    × (mutex_after taken 0 ≡ Some (mutex_with Normal (Held 4 1) [])) × (ready_after taken ≡ 1 ∷ 2 ∷ 4 ∷ []) × (chosen taken.outcome.state ≡ Some 4)
    × (taken.outcome.report.done ≡ 8) × (slice_index_or taken.outcome.report.values 3 (9, 9) ≡ (0, 0)) × ((taken.outcome.state.threads 4).registers.pc ≡ 65624)
    × (standing_after queued 4 ≡ Waits (Reacquire 0 (Answer 0) 1)) × (mutex_after queued 0 ≡ Some (mutex_with Normal (Held 1 1) (6 ∷ 4 ∷ [])))
    × (ready_after queued ≡ 1 ∷ 2 ∷ []) × (queued.outcome.report.done ≡ 0) × ((queued.outcome.state.threads 4).registers.pc ≡ 65620)
    × (mutex_after handed 0 ≡ Some (mutex_with Normal (Held 4 1) (6 ∷ []))) × (handed.outcome.report.done ≡ 8)
    × (reply_of idle ≡ Values 0 0) × (ready_after idle ≡ 1 ∷ 2 ∷ []) × (condition_after idle 1 ≡ Some new_condition)
    × (reply_of (on cond_signal two_conditions 1 9) ≡ Values 22 0)

-- a broadcast wakes all in order of their priorities: the first has the mutex, and the others wait for it in that order
abbrev pub Broadcasts : Type 0
Broadcasts =
    let all : Called = on cond_broadcast free_mutex 1 0 in
    let next : Called = on unlock all.outcome.state 4 0 in
    (in_order (λ t. (free_mutex.threads t).base) (3 ∷ 4 ∷ 5 ∷ []) ≡ 4 ∷ 5 ∷ 3 ∷ [])
    × (reply_of all ≡ Values 0 0) × (condition_after all 0 ≡ Some new_condition) × (mutex_after all 0 ≡ Some (mutex_with Normal (Held 4 1) (5 ∷ 3 ∷ [])))
    × (ready_after all ≡ 1 ∷ 2 ∷ 4 ∷ []) × (all.outcome.report.done ≡ 8) × (standing_after all 3 ≡ Waits (Reacquire 0 (Answer 0) 1))
    × (mutex_after next 0 ≡ Some (mutex_with Normal (Held 5 1) (3 ∷ []))) × (next.outcome.report.done ≡ 16)
    × (mutex_after (on cond_broadcast two_conditions 1 0) 0 ≡ Some (mutex_with Normal (Held 1 1) (6 ∷ 4 ∷ 5 ∷ 3 ∷ [])))
    × (reply_of (on cond_broadcast two_conditions 1 1) ≡ Values 0 0) × (reply_of (on cond_broadcast two_conditions 1 9) ≡ Values 22 0)

-- a recursive mutex comes back as often as it was locked, at once or from another owner
abbrev pub SavedCounts : Type 0
SavedCounts =
    let waits : State = (wait_on two_conditions 1 1 2).outcome.state in
    let back : Called = on cond_signal waits 2 1 in
    let held : State = (on lock waits 2 2).outcome.state in
    let queued : Called = on cond_signal held 2 1 in
    let handed : Called = on unlock queued.outcome.state 2 2 in
    ((waits.threads 1).standing ≡ Waits (Cond 1 2 None 3)) × (mutex_after back 2 ≡ Some (mutex_with Recursive (Held 1 3) []))
    × (ready_after back ≡ 2 ∷ 1 ∷ []) × (standing_after queued 1 ≡ Waits (Reacquire 2 (Answer 0) 3))
    × (mutex_after queued 2 ≡ Some (mutex_with Recursive (Held 2 1) (1 ∷ []))) × (mutex_after handed 2 ≡ Some (mutex_with Recursive (Held 1 3) []))
    × (ready_after handed ≡ 2 ∷ 1 ∷ []) × (handed.outcome.report.done ≡ 1)

-- a condition is made, and destroyed where nobody waits; a mutex that waiters of a condition use is not destroyed
abbrev pub InitsAndDestroys : Type 0
InitsAndDestroys =
    (condition_after (on cond_init two_conditions 1 255) 255 ≡ Some new_condition) × (reply_of (on cond_init two_conditions 1 255) ≡ Values 0 0)
    × (reply_of (on cond_init two_conditions 1 256) ≡ Values 22 0) × (reply_of (on cond_init two_conditions 1 0) ≡ Values 16 0)
    × (condition_after (on cond_destroy two_conditions 1 1) 1 ≡ None) × (reply_of (on cond_destroy two_conditions 1 1) ≡ Values 0 0)
    × (reply_of (on cond_destroy two_conditions 1 0) ≡ Values 16 0) × (reply_of (on cond_destroy two_conditions 1 9) ≡ Values 22 0)
    × (reply_of (on mutex_destroy free_mutex 1 0) ≡ Values 16 0) × (reply_of (on mutex_destroy free_mutex 1 1) ≡ Values 0 0)
    × (reply_of (on mutex_destroy (on cond_broadcast free_mutex 1 0).outcome.state 1 0) ≡ Values 16 0)

-- who is woken where the owner of its mutex has ended waits for it for ever
abbrev pub WokenInVain : Type 0
WokenInVain =
    let left : State = (end_of_thread two_conditions 1 5).state in
    let woken : Called = on cond_signal left 2 0 in
    (mutex_after woken 0 ≡ Some (mutex_with Normal Orphan (6 ∷ 4 ∷ []))) × (standing_after woken 4 ≡ Waits (Reacquire 0 (Answer 0) 1))
    × (ready_after woken ≡ 2 ∷ []) × (condition_after woken 0 ≡ Some (condition_with (Some 0) (3 ∷ 5 ∷ [])))

-- a thread that is cancelled in its wait starts its exit once it has its mutex, and not before
abbrev pub CancelledWaits : Type 0
CancelledWaits =
    let queued : State = (wake (begun two_conditions) 4 Cancel).state in
    let handed : Called = on unlock queued 1 0 in
    ((queued.threads 4).standing ≡ Waits (Reacquire 0 Cancel 1)) × ((queued.threads 4).registers.pc ≡ 65620)
    × (mutex_after handed 0 ≡ Some (mutex_with Normal (Held 4 1) (6 ∷ []))) × (standing_after handed 4 ≡ Ready)
    × ((handed.outcome.state.threads 4).phase ≡ Leaving 0xFFFFFFFF 0 0) × ((handed.outcome.state.threads 4).registers.pc ≡ 0xFFFFFFE0)
    × (handed.outcome.report.done ≡ 0)
