-- What a tick makes of the threads that wait for a time, one after another.
use Rattle.std.specs.Prelude.{ℕ, ◌+◌, ◌-◌, ◌≡◌, ◌≤◌, ◌<◌, ◌^◌, Bool, true, filter, List, None}
use Rattle.std.specs.List.{range_with_len}
use Rattle.posix_model.specs.State.{State, target, wait_of, deadline_by}
use Rattle.posix_model.specs.Arrivals.{has_come, charge, expire_at, expire_all, ring}
use Rattle.posix_model.specs.Changes.{Outcome, begun}
use Rattle.posix_model.specs.Good.{IsGood}
use Rattle.posix_model.specs.Reports.{nothing_told}
use Rattle.posix_model.specs.Scheduling.{chosen}
use Rattle.posix_model.specs.Weights.{pending_in_all}
use Rattle.kernel_state.specs.View.{view}
use Rattle.kernel_state.specs.Begun.{HasNotedSome}
use Rattle.kernel_state.specs.Kernels.{KernelState}

-- the time has gone on by a tick (this project's own clock)
abbrev pub later : State → State
later s = record s { now = s.now + 1 }

-- the time of a thread's wait has come with the next tick (POSIX.1 sleep, pthread_cond_timedwait)
abbrev pub is_late : State → ℕ → Bool
is_late s t = has_come (s.now + 1) (deadline_by (wait_of (s.threads t).standing))

-- the threads from a number on whose time has come with the next tick, by number
abbrev pub late_from : State → ℕ → List ℕ
late_from s from = filter (is_late s) (range_with_len from (65 - from))

-- within the tick after a state: the time has gone on, and the alarm, what signals do and what pends are as before, and nothing
-- was told to be dropped
pub record IsInTick (s : State) (g : Outcome) : Type 0 where
  pub now : g.state.now ≡ s.now + 1
  pub alarm : g.state.alarm ≡ s.alarm
  pub actions : g.state.actions ≡ s.actions
  pub pending : g.state.pending ≡ s.pending
  pub drops : g.report.drops ≡ nothing_told.drops

-- and the threads from a number on whose time has come still wait; the state is good at the time before
pub record AreStillWaiting (s : State) (from : ℕ) (g : Outcome) : Type 0 where
  pub good : IsGood (record g.state { now = s.now })
  pub same : (u : ℕ) → from ≤ u → is_late s u ≡ true → g.state.threads u ≡ s.threads u
  pub others : IsInTick s g

-- where the time has gone on, it was noted that the thread that ran is charged (POSIX.1 SCHED_RR)
abbrev pub Charges : {R : Type 0} → (R → List ℕ) → KernelState R → KernelState R → ℕ → Type 0
Charges order k q quantum =
    (first : KernelState _) → HasNotedSome order first k (begun (later (view order k.tables)))
    → HasNotedSome order first q (begun (charge quantum (later (view order k.tables)) (chosen (view order k.tables))))

-- it was noted that the wait of a thread ends whose time has come
abbrev pub Expires : {R : Type 0} → (R → List ℕ) → KernelState R → KernelState R → ℕ → Type 0
Expires order k q t =
    (first : KernelState _) (g : Outcome) → HasNotedSome order first k g → IsGood (record g.state { now = (view order k.tables).now })
    → g.state.threads t ≡ (view order k.tables).threads t → HasNotedSome order first q (expire_at g t (target (g.state.threads t).standing))

-- it was noted that every wait ends whose time has come
abbrev pub ExpiresAll : {R : Type 0} → (R → List ℕ) → KernelState R → KernelState R → Type 0
ExpiresAll order k q =
    (first : KernelState _) (g : Outcome) → HasNotedSome order first k g → AreStillWaiting (view order k.tables) 1 g
    → HasNotedSome order first q (expire_all g (late_from (view order k.tables) 1)) × IsInTick (view order k.tables) (expire_all g (late_from (view order k.tables) 1))

-- it was noted that the alarm goes off, where its time has come (POSIX.1 alarm)
abbrev pub Rings : {R : Type 0} → (R → List ℕ) → KernelState R → KernelState R → Type 0
Rings order k q =
    (first : KernelState _) (g : Outcome) → HasNotedSome order first k g → IsInTick (view order k.tables) g → pending_in_all (view order k.tables) < 2 ^ 62
    → HasNotedSome order first q (ring g)

-- the alarm is cleared, and it is told that it goes off (POSIX.1 alarm)
abbrev pub rung : Outcome → Outcome
rung g = record { state = record g.state { alarm = None }; report = record g.report { alarm = true } }
