-- Small cases of deliveries, faults, handlers and returns, which the checker computes.
use Rattle.std.specs.Prelude.{ℕ, ◌≡◌, List, [], ◌∷◌, map, replicate, length, slice_index, slice_index_or, slice_set, Some, None}
use Rattle.thread_base.specs.Maps.{put}
use Rattle.thread_base.specs.declared.action.Action.{Action}
use Rattle.thread_base.specs.declared.action.Action.TheVariants.{Ignore, Handler as HandleAt}
use Rattle.thread_base.specs.declared.frame.FrameKind.{FrameKind}
use Rattle.thread_base.specs.declared.frame.FrameKind.TheVariants.{Handler as OfHandler, Cleanup as OfCleanup}
use Rattle.thread_base.specs.declared.mutex.Holder.{Holder}
use Rattle.thread_base.specs.declared.mutex.Holder.TheVariants.{Free, Held}
use Rattle.thread_base.specs.declared.mutex.Kind.TheVariants.{Normal as NormalKind, Recursive}
use Rattle.rv_exec.specs.declared.Special.TheVariants.{Handler, Cleanup}
use Rattle.posix_model.specs.State.{State, Thread, Frame, Registers, Leaving, Ready, Waits, Ended, no_thread, no_mutexes, no_conditions, none_pending, default_actions}
use Rattle.posix_model.specs.Threads.{first_registers}
use Rattle.posix_model.specs.Changes.{Outcome, begun, set_thread}
use Rattle.posix_model.specs.Deliveries.{Gives, next_delivery, deliver, faulted, set_pending}
use Rattle.posix_model.specs.Arrivals.{arrive_signal}
use Rattle.posix_model.specs.Instructions.{returned}
use Rattle.posix_model.specs.Examples.{six_threads, thread_with}
use Rattle.posix_model.specs.MutexExamples.{five_mutexes, mutex_with}
use Rattle.posix_model.specs.ConditionExamples.{condition_with}
use Rattle.posix_model.specs.declared.Ending.TheVariants.{Killed}
use Rattle.posix_model.specs.declared.Head.TheVariants.{Fault, Ret, Deliver, Accept, Interrupt}
use Rattle.posix_model.specs.declared.RetakeReply.TheVariants.{Answer}
use Rattle.posix_model.specs.declared.Wait.{Wait}
use Rattle.posix_model.specs.declared.Wait.TheVariants.{Join, Cond, Reacquire, Sleep, Read, Mutex as OfMutex, Signal as OfSignal}

-- a signal has an action
abbrev pub acting : State → ℕ → Action → State
acting s sig action = record s { actions = put s.actions sig action }

-- a frame of a kind, to which the mask 2 belongs
abbrev pub frame_of : FrameKind → Frame
frame_of kind = record { registers = first_registers 65600 3 131056; mask = 2; kind = kind }

-- thread 1 has a mask and frames, and signal 11 pends on it twice
abbrev pub with_frames : ℕ → List Frame → State
with_frames mask frames = set_pending (set_thread six_threads 1 (record (thread_with Ready) { mask = mask; frames = frames })) 1 11 2

-- a fault that its thread can take pends on it; one that it blocks, for which it has no room, or that is ignored ends the
-- process with count 1, and what pended before stays
abbrev pub FaultsEndAtOnce : Type 0
FaultsEndAtOnce =
    let taken : Outcome = faulted (with_frames 0 (replicate 31 (frame_of OfHandler))) 1 11 in
    let blocked : Outcome = faulted (with_frames 2048 []) 1 11 in
    (taken.state.pending 1 11 ≡ 3) × (taken.state.over ≡ None) × (taken.report.head ≡ Fault 11) × (taken.report.took ≡ 0)
    × (blocked.state.over ≡ Some (Killed 11)) × (blocked.report.head ≡ Fault 11) × (blocked.report.took ≡ 2) × (blocked.report.took_sig ≡ 11)
    × (blocked.report.took_count ≡ 1) × (blocked.state.pending 1 11 ≡ 2) × ((blocked.state.threads 1).registers.pc ≡ 65620)
    × ((faulted (acting (with_frames 0 []) 11 Ignore) 1 11).state.over ≡ Some (Killed 11))
    × ((faulted (with_frames 0 (replicate 32 (frame_of OfHandler))) 1 11).state.over ≡ Some (Killed 11))

-- thread 1 is ready and blocks signal 10; thread 2 had mutex 0 twice, of this holder now, and waits for condition 0;
-- signal 10 has a handler and pends three times on the process
abbrev pub at_condition : Holder → State
at_condition holder = record six_threads {
  threads = put (put (λ t. no_thread) 1 (record (thread_with Ready) { mask = 1024 })) 2 (thread_with (Waits (Cond 0 0 None 2)));
  ready = 1 ∷ [];
  mutexes = put no_mutexes 0 (Some (mutex_with Recursive holder []));
  conditions = put no_conditions 0 (Some (condition_with (Some 0) (2 ∷ [])));
  actions = put default_actions 10 (HandleAt 65796 0);
  pending = put none_pending 0 (put (λ sig. 0) 10 3);
}

-- a handler that is due within a wait for a condition ends the wait with answer 0, and the signal waits on the thread
-- until it has its mutex back; then the handler is entered
abbrev pub InterruptedCondition : Type 0
InterruptedCondition =
    let held : Outcome = deliver (at_condition (Held 1 1)) in
    let free : Outcome = deliver (at_condition Free) in
    (held.report.head ≡ Interrupt 2 10 3) × ((held.state.threads 2).standing ≡ Waits (Reacquire 0 (Answer 0) 2))
    × (held.state.mutexes 0 ≡ Some (mutex_with Recursive (Held 1 1) (2 ∷ []))) × (held.state.pending 0 10 ≡ 0) × (held.state.pending 2 10 ≡ 3)
    × ((held.state.threads 2).frames ≡ []) × (held.report.done ≡ 0) × (next_delivery held.state ≡ None)
    × (free.report.head ≡ Interrupt 2 10 3) × ((free.state.threads 2).standing ≡ Ready) × (free.state.mutexes 0 ≡ Some (mutex_with Recursive (Held 2 2) []))
    × (free.report.done ≡ 2) × ((free.state.threads 2).registers.pc ≡ 65624) × (next_delivery free.state ≡ Some (Gives 2 10 2))
    × ((deliver free.state).report.head ≡ Deliver 2 10 3)

-- the registers of thread 3 at its call
abbrev pub at_lock : Registers
at_lock = record { pc = 65620; x = slice_set (first_registers 65620 7 131080).x 11 5 }

-- thread 3 waits for mutex 0 between 4 and 5, and blocks signal 1; signal 10, whose handler blocks signal 12, pends on it
abbrev pub locking : State
locking =
    set_pending (acting (set_thread five_mutexes 3 (record (thread_with (Waits (OfMutex 0))) { mask = 2; registers = at_lock })) 10 (HandleAt 65796 4096)) 3 10 1

-- a handler ends a wait for a mutex without an answer: the thread goes back to its call, which it makes again
abbrev pub InterruptedLock : Type 0
InterruptedLock =
    let entered : Outcome = deliver locking in
    (entered.report.head ≡ Deliver 3 10 1) × (entered.state.mutexes 0 ≡ Some (mutex_with NormalKind (Held 1 1) (4 ∷ 5 ∷ 6 ∷ [])))
    × ((entered.state.threads 3).standing ≡ Ready) × (entered.state.ready ≡ 1 ∷ 2 ∷ 3 ∷ []) × (entered.report.done ≡ 0)
    × ((entered.state.threads 3).frames ≡ record { registers = at_lock; mask = 2; kind = OfHandler } ∷ [])
    × ((entered.state.threads 3).registers.pc ≡ 65796) × (slice_index (entered.state.threads 3).registers.x 10 ≡ 10)
    × (slice_index (entered.state.threads 3).registers.x 11 ≡ 0) × (slice_index (entered.state.threads 3).registers.x 1 ≡ 0xFFFFFFF0)
    × (slice_index (entered.state.threads 3).registers.x 2 ≡ 131072) × ((entered.state.threads 3).mask ≡ 5122)

-- it is 3; thread 1 waits, and signal 10, which has a handler, pends on thread 1
abbrev pub interrupted_in : Wait → State
interrupted_in wait =
    set_pending (acting (record (set_thread six_threads 1 (thread_with (Waits wait))) { ready = 2 ∷ 5 ∷ 6 ∷ []; now = 3 }) 10 (HandleAt 65796 0)) 1 10 1

-- a handler ends a sleep with EINTR and the ticks that were left, and a read with EINTR; a join is made again
abbrev pub InterruptedSleep : Type 0
InterruptedSleep =
    let slept : Outcome = deliver (interrupted_in (Sleep 10)) in
    let read : Outcome = deliver (interrupted_in (Read 65536 4)) in
    let joined : Outcome = deliver (interrupted_in (Join 2)) in
    (slept.report.head ≡ Deliver 1 10 1) × (slept.report.done ≡ 1) × (slice_index_or slept.report.values 0 (9, 9) ≡ (4, 7))
    × (map (λ (frame : Frame). frame.registers.pc) (slept.state.threads 1).frames ≡ 65624 ∷ []) × (slept.state.ready ≡ 2 ∷ 5 ∷ 6 ∷ 1 ∷ [])
    × (read.report.done ≡ 1) × (slice_index_or read.report.values 0 (9, 9) ≡ (4, 0)) × (joined.report.done ≡ 0)
    × (map (λ (frame : Frame). frame.registers.pc) (joined.state.threads 1).frames ≡ 65620 ∷ []) × ((joined.state.threads 1).standing ≡ Ready)

-- the return of a handler restores registers and mask, of the last frame alone
abbrev pub HandlerReturns : Type 0
HandlerReturns =
    let back : Outcome = returned (with_frames 5122 (frame_of OfHandler ∷ frame_of OfCleanup ∷ [])) 1 Handler in
    let again : Outcome = returned (deliver locking).state 3 Handler in
    (back.report.head ≡ Ret Handler) × ((back.state.threads 1).registers ≡ first_registers 65600 3 131056) × ((back.state.threads 1).mask ≡ 2)
    × ((back.state.threads 1).frames ≡ frame_of OfCleanup ∷ []) × ((again.state.threads 3).registers ≡ at_lock) × ((again.state.threads 3).mask ≡ 2)
    × ((returned (with_frames 0 (frame_of OfCleanup ∷ [])) 1 Handler).report.head ≡ Fault 11)

-- the return of a cleanup routine restores the registers, and the mask stays; in the exit the next exit action is made
abbrev pub CleanupReturns : Type 0
CleanupReturns =
    let back : Outcome = returned (with_frames 5122 (frame_of OfCleanup ∷ frame_of OfHandler ∷ [])) 1 Cleanup in
    let ends : Outcome = returned (set_thread six_threads 1 (record (thread_with Ready) { phase = Leaving 5 0 0 })) 1 Cleanup in
    (back.report.head ≡ Ret Cleanup) × ((back.state.threads 1).registers ≡ first_registers 65600 3 131056) × ((back.state.threads 1).mask ≡ 5122)
    × ((back.state.threads 1).frames ≡ frame_of OfHandler ∷ []) × (ends.report.head ≡ Ret Cleanup) × ((ends.state.threads 1).standing ≡ Ended 5)
    × ((returned (with_frames 0 (frame_of OfHandler ∷ [])) 1 Cleanup).report.head ≡ Fault 11) × ((returned (with_frames 0 []) 1 Cleanup).report.head ≡ Fault 11)

-- a thread of a priority that blocks the signals 10 and 15 and waits for them
abbrev pub awaiting : ℕ → Thread
awaiting base = record (thread_with (Waits (OfSignal 33792))) { base = base; mask = 33792 }

-- thread 1 is ready, and 2, 3 and 4 wait for the signals 10 and 15, whose actions are the default
abbrev pub three_wait : State
three_wait = record six_threads {
  threads = put (put (put (put (λ t. no_thread) 1 (thread_with Ready)) 2 (awaiting 8)) 3 (awaiting 12)) 4 (awaiting 12);
  ready = 1 ∷ [];
}

-- the process's signal goes to the waiter of greatest priority, the lowest of equals, before a thread that is free for it;
-- of several signals the lowest comes first, and a thread's own come before the process's
abbrev pub SigwaitTakes : Type 0
SigwaitTakes =
    let accepted : Outcome = deliver (set_pending three_wait 0 10 2) in
    (accepted.report.head ≡ Accept 3 10 2) × (accepted.report.done ≡ 4) × (slice_index_or accepted.report.values 2 (9, 9) ≡ (0, 10))
    × (accepted.state.ready ≡ 1 ∷ 3 ∷ []) × (accepted.state.pending 0 10 ≡ 0) × (accepted.state.over ≡ None)
    × (next_delivery (set_pending (set_pending three_wait 0 15 1) 0 10 1) ≡ Some (Gives 3 10 0))
    × (next_delivery (set_pending (set_pending three_wait 2 15 1) 0 10 1) ≡ Some (Gives 2 15 2))
    × (next_delivery (set_pending (set_pending three_wait 2 15 1) 2 10 1) ≡ Some (Gives 2 10 2))
    × ((deliver (set_pending three_wait 0 12 1)).state.over ≡ Some (Killed 12))

-- thread 1 blocks signal 10, which has a handler
abbrev pub handled_by_two : State
handled_by_two = acting (set_thread six_threads 1 (record (thread_with Ready) { mask = 1024 })) 10 (HandleAt 65796 0)

-- signals that come one after another pend as one count, which is delivered at once to the lowest thread that is free
abbrev pub MergedCount : Type 0
MergedCount =
    let came : Outcome = arrive_signal (arrive_signal (begun handled_by_two) 10 1) 10 3 in
    let entered : Outcome = deliver came.state in
    (came.state.pending 0 10 ≡ 4) × (next_delivery came.state ≡ Some (Gives 2 10 0)) × (entered.report.head ≡ Deliver 2 10 4)
    × (entered.state.pending 0 10 ≡ 0) × (entered.state.pending 2 10 ≡ 0) × (length (entered.state.threads 2).frames ≡ 1) × (next_delivery entered.state ≡ None)
    × (next_delivery (returned entered.state 2 Handler).state ≡ None)
