-- Small cases of cancellation and of what a thread does in its exit, which the checker computes.
use Rattle.std.specs.Prelude.{ℕ, ◌≡◌, Bool, true, false, [], ◌∷◌, slice_index, Option, Some, None}
use Rattle.thread_base.specs.Maps.{put}
use Rattle.thread_base.specs.declared.frame.FrameKind.TheVariants.{Handler as OfHandler}
use Rattle.thread_base.specs.declared.mutex.Holder.TheVariants.{Held}
use Rattle.thread_base.specs.declared.mutex.Kind.TheVariants.{Normal as NormalKind}
use Rattle.posix_model.specs.State.{State, Thread, Cancellation, Key, Normal, Leaving, Standing, Ready, Waits, Ended, no_keys}
use Rattle.posix_model.specs.Changes.{Outcome, set_thread, no_cancellation}
use Rattle.posix_model.specs.Deliveries.{Acts, next_delivery, deliver, set_pending}
use Rattle.posix_model.specs.Exits.{next_exit_action}
use Rattle.posix_model.specs.Calls.{exit_thread}
use Rattle.posix_model.specs.Replies.{Called}
use Rattle.posix_model.specs.MutexCalls.{unlock}
use Rattle.posix_model.specs.Examples.{six_threads, thread_with, with_arguments}
use Rattle.posix_model.specs.MutexExamples.{mutex_with, mutex_after, on}
use Rattle.posix_model.specs.ConditionExamples.{two_conditions, condition_with}
use Rattle.posix_model.specs.SignalExamples.{frame_of}
use Rattle.posix_model.specs.declared.Head.TheVariants.{Cancel as CancelOf}
use Rattle.posix_model.specs.declared.RetakeReply.TheVariants.{Cancel}
use Rattle.posix_model.specs.declared.Wait.TheVariants.{Cond, Reacquire, Sleep, Mutex as OfMutex}

-- whether a thread can be cancelled, and at any place, and whether it is to be
abbrev pub cancellation_with : Bool → Bool → Bool → Cancellation
cancellation_with enabled asynchronous pending = record { enabled = enabled; asynchronous = asynchronous; pending = pending }

-- a thread that is to be cancelled in a standing
abbrev pub to_be_cancelled : Bool → Standing → Thread
to_be_cancelled asynchronous standing = record (thread_with standing) { base = 12; cancellation = cancellation_with true asynchronous true }

-- a waiter of a condition that is cancelled can be cancelled no more, and starts its exit once it has its mutex; a sleeper
-- starts it at once, before a signal is delivered, and who waits for a mutex is cancelled there only where it can be anywhere
abbrev pub CancelledWaiter : Type 0
CancelledWaiter =
    let queued : Outcome = deliver (set_thread two_conditions 4 (to_be_cancelled true (Waits (Cond 0 0 None 1)))) in
    let handed : Called = on unlock queued.state 1 0 in
    let sleeper : Outcome = deliver (set_thread six_threads 4 (to_be_cancelled false (Waits (Sleep 10)))) in
    (queued.report.head ≡ CancelOf 4) × ((queued.state.threads 4).standing ≡ Waits (Reacquire 0 Cancel 1)) × ((queued.state.threads 4).phase ≡ Normal)
    × ((queued.state.threads 4).cancellation ≡ cancellation_with false true false) × (next_delivery queued.state ≡ None)
    × (queued.state.conditions 0 ≡ Some (condition_with (Some 0) (3 ∷ 5 ∷ []))) × (mutex_after handed 0 ≡ Some (mutex_with NormalKind (Held 4 1) (6 ∷ [])))
    × ((handed.outcome.state.threads 4).phase ≡ Leaving 0xFFFFFFFF 0 0) × ((handed.outcome.state.threads 4).registers.pc ≡ 0xFFFFFFE0)
    × (sleeper.report.head ≡ CancelOf 4) × ((sleeper.state.threads 4).phase ≡ Leaving 0xFFFFFFFF 0 0) × ((sleeper.state.threads 4).cancellation ≡ no_cancellation)
    × (sleeper.state.ready ≡ 1 ∷ 2 ∷ 5 ∷ 6 ∷ 4 ∷ []) × (sleeper.report.done ≡ 0)
    × (next_delivery (set_pending (set_thread six_threads 4 (to_be_cancelled false (Waits (Sleep 10)))) 4 12 1) ≡ Some (Acts 4))
    × (next_delivery (set_thread two_conditions 6 (to_be_cancelled false (Waits (OfMutex 0)))) ≡ None)
    × ((deliver (set_thread two_conditions 6 (to_be_cancelled true (Waits (OfMutex 0))))).state.mutexes 0 ≡ Some (mutex_with NormalKind (Held 1 1) []))

-- thread 1 is in its exit with 5: two rounds have ended, key 17 is next, and it runs a handler
abbrev pub in_a_destructor : Thread
in_a_destructor = record (thread_with Ready) {
  mask = 1024;
  frames = frame_of OfHandler ∷ [];
  cancellation = cancellation_with true true true;
  phase = Leaving 5 2 17;
}

-- an exit within the exit changes the value, and drops the frames; rounds and the next key go on, and the cancellation stays
abbrev pub ExitWithinExit : Type 0
ExitWithinExit =
    let again : Called = exit_thread (set_thread six_threads 1 in_a_destructor) 1 (with_arguments 7 0 0 0) in
    let first : Called = exit_thread (set_thread six_threads 1 (record in_a_destructor { phase = Normal })) 1 (with_arguments 7 0 0 0) in
    ((again.outcome.state.threads 1).phase ≡ Leaving 7 2 17) × ((again.outcome.state.threads 1).frames ≡ [])
    × ((again.outcome.state.threads 1).registers.pc ≡ 0xFFFFFFE0) × ((again.outcome.state.threads 1).cancellation ≡ cancellation_with true true true)
    × ((again.outcome.state.threads 1).mask ≡ 1024) × ((first.outcome.state.threads 1).phase ≡ Leaving 7 0 0)
    × ((first.outcome.state.threads 1).cancellation ≡ no_cancellation)

-- keys 2 and 7 have destructors and values of thread 1, and key 5 has a value alone; key 2 has one of thread 6 too
abbrev pub three_keys : State
three_keys = record (set_thread six_threads 1 (record (thread_with Ready) { phase = Leaving 5 0 0 })) {
  keys =
      put (put (put no_keys 2 (Some (record { destructor = 70000; values = put (put (λ t. 0) 1 41) 6 9 })))
      5 (Some (record { destructor = 0; values = put (λ t. 0) 1 3 }))) 7 (Some (record { destructor = 70004; values = put (λ t. 0) 1 43 }));
}

-- the value of a thread
abbrev pub value_in : ℕ → Option Key → ℕ
value_in t None = 0
value_in t (Some key) = key.values t

-- the next exit action of thread 1, after so many rounds and from a key on
abbrev pub acted_from : ℕ → ℕ → Outcome
acted_from rounds next = next_exit_action three_keys 1 5 rounds next

-- the least key that is due is destroyed first, its value cleared before the call; a round begins where fewer than four have
-- ended, and else the thread ends, without the values that are left
abbrev pub FourRounds : Type 0
FourRounds =
    let first : Outcome = acted_from 0 0 in
    let ends : Outcome = acted_from 3 8 in
    ((first.state.threads 1).phase ≡ Leaving 5 0 3) × ((first.state.threads 1).registers.pc ≡ 70000) × (slice_index (first.state.threads 1).registers.x 10 ≡ 41)
    × (slice_index (first.state.threads 1).registers.x 1 ≡ 0xFFFFFFE0) × (value_in 1 (first.state.keys 2) ≡ 0) × (value_in 6 (first.state.keys 2) ≡ 9)
    × (((acted_from 0 3).state.threads 1).phase ≡ Leaving 5 0 8) × (((acted_from 0 8).state.threads 1).phase ≡ Leaving 5 1 3)
    × (((acted_from 2 8).state.threads 1).phase ≡ Leaving 5 3 3) × (((acted_from 3 3).state.threads 1).phase ≡ Leaving 5 3 8)
    × ((ends.state.threads 1).standing ≡ Ended 5) × (ends.report.gone ≡ true) × (value_in 1 (ends.state.keys 2) ≡ 0) × (value_in 1 (ends.state.keys 5) ≡ 0)
    × (value_in 6 (ends.state.keys 2) ≡ 9)
