-- Small cases of what comes from outside, which the checker computes: signals, ticks and input.
use Rattle.std.specs.Prelude.{ℕ, ◌≡◌, true, [], ◌∷◌, replicate, slice_index, slice_index_or, Some, None}
use Rattle.thread_base.specs.Maps.{put}
use Rattle.thread_base.specs.declared.Policy.{Policy}
use Rattle.thread_base.specs.declared.Policy.TheVariants.{Other, Fifo, Rr}
use Rattle.thread_base.specs.declared.action.Action.TheVariants.{Ignore, Handler}
use Rattle.thread_base.specs.declared.mutex.Holder.TheVariants.{Free, Held}
use Rattle.thread_base.specs.declared.mutex.Kind.TheVariants.{Normal}
use Rattle.posix_model.specs.State.{State, Thread, Ready, Waits, no_thread, no_mutexes, no_conditions}
use Rattle.posix_model.specs.Scheduling.{chosen}
use Rattle.posix_model.specs.Changes.{Outcome, begun}
use Rattle.posix_model.specs.Arrivals.{arrive_signal, tick, arrive_data, arrive_end}
use Rattle.posix_model.specs.Examples.{six_threads, thread_with}
use Rattle.posix_model.specs.MutexExamples.{mutex_with}
use Rattle.posix_model.specs.ConditionExamples.{condition_with}
use Rattle.posix_model.specs.SignalExamples.{acting, three_wait}
use Rattle.posix_model.specs.declared.Ending.TheVariants.{Killed}
use Rattle.posix_model.specs.declared.RetakeReply.TheVariants.{Answer}
use Rattle.posix_model.specs.declared.Wait.TheVariants.{Cond, Reacquire, Sleep, Read, Signal as OfSignal}

-- a signal that is ignored is dropped where it comes, though threads block it and wait for it; KILL ends the process at once
abbrev pub IgnoredArrives : Type 0
IgnoredArrives =
    let ignored : Outcome = arrive_signal (begun (acting three_wait 10 Ignore)) 10 2 in
    let child : Outcome = arrive_signal (begun three_wait) 17 1 in
    let killed : Outcome = arrive_signal (begun three_wait) 9 2 in
    (slice_index ignored.report.drops 10 ≡ 2) × (ignored.state.pending 0 10 ≡ 0) × ((ignored.state.threads 3).standing ≡ Waits (OfSignal 33792))
    × (slice_index child.report.drops 17 ≡ 1) × (child.state.pending 0 17 ≡ 0)
    × ((arrive_signal (begun (acting three_wait 17 (Handler 65796 0))) 17 1).state.pending 0 17 ≡ 1)
    × (killed.state.over ≡ Some (Killed 9)) × (killed.report.took ≡ 2) × (killed.report.took_sig ≡ 9) × (killed.report.took_count ≡ 2)
    × (killed.state.pending 0 9 ≡ 0)

-- thread 1 has a policy and has used some ticks of its turn, 4 of a priority sleeps until 10, when the alarm goes off, and it is 9
abbrev pub before_ten : Policy → ℕ → ℕ → State
before_ten policy used base = record six_threads {
  threads =
      put (put six_threads.threads 1 (record (thread_with Ready) { policy = policy; used = used })) 4
      (record (thread_with (Waits (Sleep 10))) { base = base });
  now = 9;
  alarm = Some 10;
}

-- a tick is charged to the thread that ran, but never to a FIFO one; at the quantum it goes to the end, before a sleeper
-- whose time has come; then the alarm goes off
abbrev pub TickCharges : Type 0
TickCharges =
    let turn : Outcome = tick 3 (begun (before_ten Other 2 8)) in
    let urgent : Outcome = tick 3 (begun (before_ten Rr 1 12)) in
    let fifo : Outcome = tick 3 (begun (before_ten Fifo 0 8)) in
    (turn.state.now ≡ 10) × (turn.state.ready ≡ 2 ∷ 5 ∷ 6 ∷ 1 ∷ 4 ∷ []) × ((turn.state.threads 1).used ≡ 0) × (turn.report.done ≡ 8)
    × (turn.report.alarm ≡ true) × (turn.state.alarm ≡ None) × (turn.state.pending 0 14 ≡ 1)
    × (urgent.state.ready ≡ 1 ∷ 2 ∷ 5 ∷ 6 ∷ 4 ∷ []) × ((urgent.state.threads 1).used ≡ 2) × ((urgent.state.threads 4).used ≡ 0)
    × (chosen urgent.state ≡ Some 4) × ((fifo.state.threads 1).used ≡ 0) × ((tick 1 (begun (before_ten Fifo 0 8))).state.ready ≡ 1 ∷ 2 ∷ 5 ∷ 6 ∷ 4 ∷ [])

-- a thread that waits for condition 0 with mutex 0 until a time
abbrev pub waiting_until : ℕ → Thread
waiting_until deadline = thread_with (Waits (Cond 0 0 (Some deadline) 1))

-- thread 2 sleeps until 10; 5, 3 and 4 came in this order to wait for condition 0 until 10, 10 and 11; it is 9
abbrev pub before_deadlines : State
before_deadlines = record six_threads {
  threads =
      put (put (put (put (put (λ t. no_thread) 1 (thread_with Ready)) 2 (thread_with (Waits (Sleep 10)))) 3 (waiting_until 10)) 4 (waiting_until 11)) 5
      (waiting_until 10);
  ready = 1 ∷ [];
  mutexes = put no_mutexes 0 (Some (mutex_with Normal Free []));
  conditions = put no_conditions 0 (Some (condition_with (Some 0) (5 ∷ 3 ∷ 4 ∷ [])));
  now = 9;
}

-- waits whose time has come end by number: a sleep with 0, a wait for a condition with ETIMEDOUT, with its mutex
abbrev pub DeadlinePasses : Type 0
DeadlinePasses =
    let passed : Outcome = tick 3 (begun before_deadlines) in
    (passed.state.ready ≡ 1 ∷ 2 ∷ 3 ∷ []) × (passed.report.done ≡ 6) × (slice_index_or passed.report.values 1 (9, 9) ≡ (0, 0))
    × (slice_index_or passed.report.values 2 (9, 9) ≡ (110, 0)) × (passed.state.mutexes 0 ≡ Some (mutex_with Normal (Held 3 1) (5 ∷ [])))
    × ((passed.state.threads 5).standing ≡ Waits (Reacquire 0 (Answer 110) 1)) × (passed.state.conditions 0 ≡ Some (condition_with (Some 0) (4 ∷ [])))
    × ((tick 3 (begun (record before_deadlines { now = 8 }))).report.done ≡ 0)

-- a thread of a priority that reads
abbrev pub reading : ℕ → ℕ → ℕ → Thread
reading base buffer size = record (thread_with (Waits (Read buffer size))) { base = base }

-- thread 1 is ready, and 2, 3 and 4 read
abbrev pub three_read : State
three_read = record six_threads {
  threads = put (put (put (put (λ t. no_thread) 1 (thread_with Ready)) 2 (reading 8 65536 2)) 3 (reading 12 65540 3)) 4 (reading 12 65544 4);
  ready = 1 ∷ [];
  memory = replicate 12 0;
}

-- input goes to the readers, the greatest priority first and the lowest number of equals, while some is left; where it ends
-- all are answered 0
abbrev pub ReadersServed : Type 0
ReadersServed =
    let served : Outcome = arrive_data (begun three_read) (1 ∷ 2 ∷ 3 ∷ 4 ∷ 5 ∷ []) in
    let over : Outcome = arrive_end (begun three_read) in
    (served.state.ready ≡ 1 ∷ 3 ∷ 4 ∷ []) × (served.state.memory ≡ 0 ∷ 0 ∷ 0 ∷ 0 ∷ 1 ∷ 2 ∷ 3 ∷ 0 ∷ 4 ∷ 5 ∷ 0 ∷ 0 ∷ []) × (served.state.input ≡ [])
    × (served.report.done ≡ 12) × (slice_index_or served.report.values 2 (9, 9) ≡ (0, 3)) × (slice_index_or served.report.values 3 (9, 9) ≡ (0, 2))
    × ((served.state.threads 2).standing ≡ Waits (Read 65536 2))
    × ((arrive_data (begun three_read) (1 ∷ 2 ∷ 3 ∷ 4 ∷ 5 ∷ 6 ∷ 7 ∷ 8 ∷ 9 ∷ 10 ∷ [])).state.input ≡ 10 ∷ [])
    × (over.state.ready ≡ 1 ∷ 3 ∷ 4 ∷ 2 ∷ []) × (over.report.done ≡ 14) × (slice_index_or over.report.values 1 (9, 9) ≡ (0, 0)) × (over.state.is_input_over ≡ true)
