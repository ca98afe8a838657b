-- The machine state that the kernel's tables show.
use Rattle.std.specs.Prelude.{ℕ, ◌≡◌, true, List, [], Option, Some, None}
use Rattle.thread_base.specs.Orders.{is_in}
use Rattle.mutex_table.specs.MutexMap.{mutexes as mutex_map}
use Rattle.mutex_table.specs.declared.MutexState.{MutexState}
use Rattle.cond_table.specs.ConditionMap.{conditions as condition_map}
use Rattle.posix_model.specs.State.{State, Mutex}
use Rattle.posix_model.specs.Scheduling.{eff}
use Rattle.posix_model.specs.Changes.{Outcome}
use Rattle.posix_model.specs.Start.{start_state}
use Rattle.kernel_state.specs.Records.{threads_in, pending_in, actions_in}
use Rattle.kernel_state.specs.declared.tables.Tables.{Tables}

-- the mutex of what it does and who has it, and of who waits for it
abbrev pub mutex_of : MutexState → List ℕ → Mutex
mutex_of state waiters = record { kind = state.kind; protocol = state.protocol; holder = state.holder; waiters = waiters }

-- the same where there is one
abbrev pub mutex_by : Option MutexState → List ℕ → Option Mutex
mutex_by None waiters = None
mutex_by (Some state) waiters = Some (mutex_of state waiters)

-- what the tables do not keep yet is as at the start: keys and input
abbrev pub unkept : State
unkept = start_state [] 0

-- the machine state that the tables show
unfoldable pub view : {R : Type 0} → (R → List ℕ) → Tables R → State
view order k = record unkept {
  threads = threads_in k.records;
  ready = order k.ready;
  mutexes = mutex_map k.mutexes;
  conditions = condition_map k.conditions;
  actions = actions_in k.records;
  pending = pending_in k.records;
  now = k.ticks;
  alarm = k.alarm;
  memory = k.memory;
  over = k.over;
}

-- the state, with what has been told so far of the move in progress
unfoldable pub outcome : {R : Type 0} → (R → List ℕ) → Tables R → Outcome
outcome order k = record { state = view order k; report = k.report }

-- another ready list
abbrev pub with_ready : State → List ℕ → State
with_ready s ready = record s { ready = ready }

-- the priorities that the ready list keeps are the effective ones of its threads
unfoldable pub AreCurrent : (ℕ → ℕ) → State → Type 0
AreCurrent prios s = (t : ℕ) → is_in t s.ready ≡ true → prios t ≡ eff s t

-- they are after some changes where they were before
abbrev pub StayCurrent : {R : Type 0} → (R → List ℕ) → (R → ℕ → ℕ) → Tables R → Tables R → Type 0
StayCurrent order prios k q = AreCurrent (prios k.ready) (view order k) → AreCurrent (prios q.ready) (view order q)
