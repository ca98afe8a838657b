-- The small changes that moves consist of, by topics, and when each may be made.
use Rattle.std.specs.Prelude.{ℕ, ◌+◌, ◌≡◌, ◌<◌, ◌^◌, Bool, true, false, if◌then◌else◌, List, [], ◌∷◌, Option, Some, None, IsSome, IsNone, IsTrue, length, slice_index, slice_set}
use Rattle.std.specs.Option.{ForSome}
use Rattle.thread_base.specs.Holders.{is_held_by, is_free}
use Rattle.thread_base.specs.Objects.{free_mutex, new_condition, holder_in, waiters_in, cond_mutex, cond_waiters, with_holder, with_waiters, appended, entered, without_waiter}
use Rattle.thread_base.specs.Orders.{is_in, without}
use Rattle.rv_exec.specs.Window.{is_inside}
use Rattle.posix_model.specs.State.{State, Thread, Registers, Mutex, Condition, Normal, Ready, no_thread, no_keys, first_cancellation, is_ready, is_live}
use Rattle.posix_model.specs.Changes.{Outcome, set_thread, with_reply, append, to_end, rescheduled, await, answer, aligned}
use Rattle.posix_model.specs.Threads.{exists, free_number, first_registers}
use Rattle.posix_model.specs.Mutexes.{set_mutex, retake}
use Rattle.posix_model.specs.Conditions.{set_condition}
use Rattle.posix_model.specs.Leaving.{exit_with, remains, ended}
use Rattle.posix_model.specs.Deliveries.{set_pending, pend, killed_by, in_handler, handler_return, most_frames}
use Rattle.posix_model.specs.Arrivals.{dropped}
use Rattle.posix_model.specs.SignalCalls.{with_action, accepted}
use Rattle.posix_model.specs.Weights.{pending_in_all}
use Rattle.thread_signals.specs.Counts.{place_of}
use Rattle.kernel_state.specs.Records.{left}
use Rattle.kernel_state.specs.declared.change.Beginning.{Beginning}
use Rattle.kernel_state.specs.declared.change.Change.{Change}
use Rattle.kernel_state.specs.declared.change.Change.TheVariants.{Thread as OfThread, Mutex as OfMutex, Condition as OfCondition, Signal as OfSignal, Clock as OfClock, Retake, Output, Over, Kill}
use Rattle.kernel_state.specs.declared.change.ClockChange.{ClockChange}
use Rattle.kernel_state.specs.declared.change.ClockChange.TheVariants.{Advance, Set, Ring}
use Rattle.kernel_state.specs.declared.change.ConditionChange.{ConditionChange}
use Rattle.kernel_state.specs.declared.change.ConditionChange.TheVariants.{Make as MakeCondition, Destroy as DestroyCondition, Enter, Leave}
use Rattle.kernel_state.specs.declared.change.MutexChange.{MutexChange}
use Rattle.kernel_state.specs.declared.change.MutexChange.TheVariants.{Make as MakeMutex, Destroy as DestroyMutex, Hold, AddWaiter, DropWaiter}
use Rattle.kernel_state.specs.declared.change.SignalChange.{SignalChange}
use Rattle.kernel_state.specs.declared.change.SignalChange.TheVariants.{Pend, Take, Accept, Drop as DropAll, Lose, Act}
use Rattle.kernel_state.specs.declared.change.ThreadChange.{ThreadChange}
use Rattle.kernel_state.specs.declared.change.ThreadChange.TheVariants.{Reply, ToEnd, Create, StartExit, Await, Answer, Resume, Block, Handle, GoBack, Schedule, Charge, Detach, Free, End}

-- a new thread
abbrev pub begun_thread : Beginning → Thread
begun_thread b = record {
  registers = first_registers b.routine b.argument b.stack;
  base = b.base;
  policy = b.policy;
  used = 0;
  mask = b.mask;
  frames = [];
  cleanups = [];
  cancellation = first_cancellation;
  detached = b.detached;
  phase = Normal;
  standing = Ready;
}

-- the registers of a thread that enters the handler of a signal at an address (System V ABI; the address to which it returns
-- is this project's own)
abbrev pub handler_registers : Registers → ℕ → ℕ → Registers
handler_registers r signal at = record {
  pc = at;
  x = slice_set (slice_set (slice_set (slice_set r.x 10 signal) 11 0) 1 handler_return) 2 (aligned (slice_index r.x 2));
}

-- what is left of a thread that ended
abbrev pub remains_of : Thread → ℕ → Bool → Thread
remains_of thread value joined = if joined then no_thread else remains thread value None

-- what a change of one thread makes of the machine and of what is told (POSIX.1 threads and scheduling)
abbrev pub thread_change_by : ThreadChange → ℕ → Outcome → Outcome
thread_change_by (Reply error value) t g = record g { state = set_thread g.state t (with_reply (g.state.threads t) error value) }
thread_change_by ToEnd t g = record g { state = to_end g.state t }
thread_change_by (Create beginning) t g = record g { state = append g.state t (begun_thread beginning) }
thread_change_by (StartExit value) t g = record g { state = exit_with g.state t value }
thread_change_by (Await wait) t g = record g { state = await g.state t wait }
thread_change_by (Answer error value) t g = answer g t error value
thread_change_by Resume t g = record g { state = append g.state t (g.state.threads t) }
thread_change_by (Block mask) t g = record g { state = set_thread g.state t (record (g.state.threads t) { mask = mask }) }
thread_change_by (Handle signal at mask) t g = record g { state = set_thread g.state t (in_handler (g.state.threads t) signal at mask) }
thread_change_by GoBack t g = record g { state = set_thread g.state t (left (g.state.threads t)) }
thread_change_by (Schedule policy base) t g = record g { state = rescheduled g.state t policy base }
thread_change_by Charge t g = record g { state = set_thread g.state t (record (g.state.threads t) { used = (g.state.threads t).used + 1 }) }
thread_change_by Detach t g = record g { state = set_thread g.state t (record (g.state.threads t) { detached = true }) }
thread_change_by Free t g = record g { state = set_thread g.state t no_thread }
thread_change_by (End value joined) t g = ended g t (remains_of (g.state.threads t) value joined) (g.state.pending t) value

-- what a change of one mutex makes of it (POSIX.1 mutexes)
abbrev pub mutex_change_by : MutexChange → Option Mutex → Option Mutex
mutex_change_by (MakeMutex kind protocol) mutex = Some (free_mutex kind protocol)
mutex_change_by DestroyMutex mutex = None
mutex_change_by (Hold holder) mutex = with_holder holder mutex
mutex_change_by (AddWaiter t) mutex = with_waiters (appended t) mutex
mutex_change_by (DropWaiter t) mutex = with_waiters (without t) mutex

-- what a change of one condition makes of it (POSIX.1 condition variables)
abbrev pub condition_change_by : ConditionChange → Option Condition → Option Condition
condition_change_by MakeCondition condition = Some new_condition
condition_change_by DestroyCondition condition = None
condition_change_by (Enter t m) condition = entered t m condition
condition_change_by (Leave t) condition = without_waiter t condition

-- what a change of what pends of a signal, or of what it does, makes of the machine and of what is told (POSIX.1 signals)
abbrev pub signal_change_by : SignalChange → ℕ → Outcome → Outcome
signal_change_by (Pend place count) signal g = record g { state = pend g.state (place_of place) signal count }
signal_change_by (Take place) signal g = record g { state = set_pending g.state (place_of place) signal 0 }
signal_change_by (Accept place) signal g = accepted g (place_of place) signal
signal_change_by (DropAll place) signal g = dropped (record g { state = set_pending g.state (place_of place) signal 0 }) signal (g.state.pending (place_of place) signal)
signal_change_by (Lose count) signal g = dropped g signal count
signal_change_by (Act action) signal g = with_action g signal action

-- what a change of the clock makes of the machine and of what is told (POSIX.1 alarm; the ticks are this project's own)
abbrev pub clock_change_by : ClockChange → Outcome → Outcome
clock_change_by Advance g = record g { state = record g.state { now = g.state.now + 1 } }
clock_change_by (Set alarm) g = record g { state = record g.state { alarm = alarm } }
clock_change_by Ring g = record { state = record g.state { alarm = None }; report = record g.report { alarm = true } }

-- what a small change makes of the machine and of what is told
abbrev pub change_by : Change → Outcome → Outcome
change_by (OfThread t change) g = thread_change_by change t g
change_by (OfMutex m change) g = record g { state = set_mutex g.state m (mutex_change_by change (g.state.mutexes m)) }
change_by (OfCondition c change) g = record g { state = set_condition g.state c (condition_change_by change (g.state.conditions c)) }
change_by (OfSignal signal change) g = signal_change_by change signal g
change_by (OfClock change) g = clock_change_by change g
change_by (Retake t m count reply) g = retake g m t count reply
change_by (Output descriptor buffer length) g = record g { report = record g.report { out_fd = descriptor; out_buf = buffer; out_len = length } }
change_by (Over ending) g = record g { state = record g.state { over = Some ending } }
change_by (Kill signal count) g = killed_by signal count g

-- a thread is there, and in the ready list
abbrev pub IsListed : State → ℕ → Type 0
IsListed s t = (exists s t ≡ true) × (is_in t s.ready ≡ true) × (is_ready (s.threads t).standing ≡ true)

-- a thread has no mutex
abbrev pub HasNoMutex : State → ℕ → Type 0
HasNoMutex s t = (m : ℕ) → is_held_by (holder_in (s.mutexes m)) t ≡ false

-- a thread waits for no mutex
abbrev pub WaitsForNoMutex : (ℕ → Option Mutex) → ℕ → Type 0
WaitsForNoMutex mutexes t = (m : ℕ) → is_in t (waiters_in (mutexes m)) ≡ false

-- a thread waits for no condition
abbrev pub WaitsForNoCondition : (ℕ → Option Condition) → ℕ → Type 0
WaitsForNoCondition conditions t = (c : ℕ) → is_in t (cond_waiters (conditions c)) ≡ false

-- when a change of one thread may be made
abbrev pub CanThread : ThreadChange → ℕ → State → Type 0
CanThread (Reply error value) t s = exists s t ≡ true
CanThread ToEnd t s = IsListed s t
CanThread (Create beginning) t s = (free_number s ≡ Some t) × (is_in t s.ready ≡ false)
CanThread (StartExit value) t s = exists s t ≡ true
CanThread (Await wait) t s = IsListed s t
CanThread (Answer error value) t s = (is_in t s.ready ≡ false) × (is_live (s.threads t).standing ≡ true)
CanThread Resume t s = (is_in t s.ready ≡ false) × (is_live (s.threads t).standing ≡ true)
CanThread (Block mask) t s = exists s t ≡ true
CanThread (Handle signal at mask) t s = (exists s t ≡ true) × (length (s.threads t).frames < most_frames)
CanThread GoBack t s = exists s t ≡ true
CanThread (Schedule policy base) t s = (exists s t ≡ true) × (is_in t s.ready ≡ is_ready (s.threads t).standing)
CanThread Charge t s = (exists s t ≡ true) × ((s.threads t).used + 1 < 2 ^ 32)
CanThread Detach t s = exists s t ≡ true
CanThread Free t s = (exists s t ≡ true) × (is_in t s.ready ≡ false)
CanThread (End value joined) t s = IsListed s t × ((sig : ℕ) → s.pending t sig ≡ 0) × HasNoMutex s t × (s.keys ≡ no_keys)

-- when a change of one mutex may be made
abbrev pub CanMutex : MutexChange → ℕ → (ℕ → Option Mutex) → Type 0
CanMutex (MakeMutex kind protocol) m mutexes = (m < 256) × IsNone (mutexes m)
CanMutex DestroyMutex m mutexes = IsSome (mutexes m) × (waiters_in (mutexes m) ≡ [])
CanMutex (Hold holder) m mutexes = IsSome (mutexes m)
CanMutex (AddWaiter t) m mutexes = IsSome (mutexes m) × WaitsForNoMutex mutexes t
CanMutex (DropWaiter t) m mutexes = is_in t (waiters_in (mutexes m)) ≡ true

-- when a change of one condition may be made
abbrev pub CanCondition : ConditionChange → ℕ → (ℕ → Option Condition) → Type 0
CanCondition MakeCondition c conditions = (c < 256) × IsNone (conditions c)
CanCondition DestroyCondition c conditions = IsSome (conditions c) × (cond_waiters (conditions c) ≡ [])
CanCondition (Enter t m) c conditions = IsSome (conditions c) × WaitsForNoCondition conditions t × ForSome (cond_mutex (conditions c)) (λ k. k ≡ m)
CanCondition (Leave t) c conditions = is_in t (cond_waiters (conditions c)) ≡ true

-- nothing of a signal was told to be dropped
abbrev pub HasDroppedNone : ℕ → Outcome → Type 0
HasDroppedNone signal g = slice_index g.report.drops signal ≡ 0

-- when a change of what pends of a signal, or of what it does, may be made: the sum of all counts fits, and a move drops a
-- signal once
abbrev pub CanSignal : SignalChange → ℕ → Outcome → Type 0
CanSignal (Pend place count) signal g = pending_in_all g.state + count < 2 ^ 63
CanSignal (Take place) signal g = Unit {0}
CanSignal (Accept place) signal g = Unit {0}
CanSignal (DropAll place) signal g = HasDroppedNone signal g
CanSignal (Lose count) signal g = HasDroppedNone signal g
CanSignal (Act action) signal g = HasDroppedNone signal g

-- when a change of the clock may be made: the time fits
abbrev pub CanClock : ClockChange → State → Type 0
CanClock Advance s = s.now + 1 < 2 ^ 63
CanClock (Set alarm) s = Unit {0}
CanClock Ring s = Unit {0}

-- a thread may take a mutex back: it has not ended and is not ready, the mutex is there, and where it is not free the
-- thread waits for no mutex
pub record CanRetake (t m : ℕ) (s : State) : Type 0 where
  pub there : IsSome (s.mutexes m)
  pub away : is_in t s.ready ≡ false
  pub live : is_live (s.threads t).standing ≡ true
  pub free : is_free (holder_in (s.mutexes m)) ≡ false → WaitsForNoMutex s.mutexes t

-- when a small change may be made
abbrev pub Can : Change → Outcome → Type 0
Can (OfThread t change) g = CanThread change t g.state
Can (OfMutex m change) g = CanMutex change m g.state.mutexes
Can (OfCondition c change) g = CanCondition change c g.state.conditions
Can (OfSignal signal change) g = CanSignal change signal g
Can (OfClock change) g = CanClock change g.state
Can (Retake t m count reply) g = CanRetake t m g.state
Can (Output descriptor buffer size) g = IsTrue (is_inside (length g.state.memory) buffer size)
Can (Over ending) g = Unit {0}
Can (Kill signal count) g = Unit {0}

-- what a list of changes still makes, one after another
abbrev pub owed : Outcome → List Change → Outcome
owed g [] = g
owed g (change ∷ rest) = owed (change_by change g) rest

-- each of a list of changes may be made in its turn
abbrev pub AllCan : Outcome → List Change → Type 0
AllCan g [] = Unit {0}
AllCan g (change ∷ rest) = Can change g × AllCan (change_by change g) rest
