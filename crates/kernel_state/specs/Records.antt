-- What is kept of threads, and the threads, what pends and the actions of signals that it shows.
use Rattle.std.specs.Prelude.{ℕ, ◌≡◌, ◌&&◌, Bool, false, not, if◌then◌else◌, map, reverse, List, [], ◌∷◌, Option, Some, None}
use Rattle.thread_base.specs.Deliveries.{next_delivery}
use Rattle.thread_base.specs.Maps.{put, numbered}
use Rattle.thread_base.specs.Numbers.{has_signal}
use Rattle.thread_base.specs.declared.Policy.TheVariants.{Other}
use Rattle.thread_base.specs.declared.action.Action.{Action}
use Rattle.thread_base.specs.declared.frame.FrameKind.{FrameKind}
use Rattle.rv_exec.specs.declared.Regs.{Regs}
use Rattle.thread_table.specs.Rows.{rows}
use Rattle.thread_table.specs.declared.Row.{Row}
use Rattle.thread_table.specs.declared.Threads.{Threads}
use Rattle.context_frames.specs.Contexts.{Contexts, saved_of, stack_of}
use Rattle.context_frames.specs.declared.Frame.{Frame as KeptFrame}
use Rattle.context_frames.specs.declared.Saved.{Saved}
use Rattle.context_frames.specs.declared.Saved.TheVariants.{User, Tail, Fresh}
use Rattle.thread_signals.specs.SignalState.{Table, state_of}
use Rattle.time_queue.specs.Deadlines.{deadlines as deadlines_of}
use Rattle.time_queue.specs.declared.TimeQueue.{TimeQueue}
use Rattle.posix_model.specs.State.{Thread, Registers, Frame, Phase, Normal, Leaving, Cancellation, Standing, Ready, Waits, Ended, no_thread, first_cancellation, is_absent, is_of_handler, target, wait_of, set_at, deadline_by}
use Rattle.posix_model.specs.Changes.{no_cancellation}
use Rattle.posix_model.specs.Deliveries.{may_take}
use Rattle.posix_model.specs.declared.Wait.{Wait}
use Rattle.kernel_state.specs.declared.activity.Activity.{Activity}
use Rattle.kernel_state.specs.declared.activity.Activities.{Activities}
use Rattle.kernel_state.specs.declared.records.ThreadRecord.{ThreadRecord}

-- rows, waits and exits, frames and saved contexts, masks with all that signals need, deadlines, and the registers in
-- place with their thread
pub record RecordsState : Type 0 where
  pub rows : Threads
  pub activities : Activities
  pub frames : Contexts
  pub signals : Table
  pub deadlines : TimeQueue
  pub regs : Regs
  pub placed : ℕ

-- the registers of a context
abbrev pub registers_of : Regs → Registers
registers_of r = record { pc = r.pc; x = r.x }

-- the registers that were saved of a thread
abbrev pub context_of : Saved → Registers
context_of (User r) = registers_of r
context_of (Tail r step) = registers_of r
context_of (Fresh r) = registers_of r

-- a frame that is kept
abbrev pub frame_of : KeptFrame → Frame
frame_of f = record { registers = registers_of f.regs; mask = f.mask; kind = f.kind }

-- the frames of a stack, the top first
unfoldable pub frames_of : List KeptFrame → List Frame
frames_of stack = reverse (map frame_of stack)

-- nothing is kept beside a row and a context
abbrev pub no_activity : Activity
no_activity = record { wait = None; leaving = None }

-- what is kept of each thread beside its row and its context
unfoldable pub activities_of : Activities → ℕ → Activity
activities_of table = numbered no_activity table.activities

-- a thread is in its exit where a value of it is kept; no key has a destructor yet (POSIX.1 pthread_exit)
abbrev pub phase_of : Option ℕ → Phase
phase_of None = Normal
phase_of (Some value) = Leaving value 0 0

-- nobody is cancelled yet, and in its exit nobody can be (POSIX.1 pthread_exit)
abbrev pub cancellation_of : Option ℕ → Cancellation
cancellation_of None = first_cancellation
cancellation_of (Some value) = no_cancellation

-- a thread has ended where its value is kept, and else waits where a wait is, and else is ready (POSIX.1 thread states)
abbrev pub standing_of : Option ℕ → Option Wait → Standing
standing_of (Some value) wait = Ended value
standing_of None (Some wait) = Waits wait
standing_of None None = Ready

-- a thread's record; it has no cleanup routine yet
abbrev pub thread_by : Row → Activity → ℕ → List Frame → Registers → Thread
thread_by row activity mask frames registers = record {
  registers = registers;
  base = row.base;
  policy = row.policy;
  used = row.used;
  mask = mask;
  frames = frames;
  cleanups = [];
  cancellation = cancellation_of activity.leaving;
  detached = row.detached;
  phase = phase_of activity.leaving;
  standing = standing_of row.ended activity.wait;
}

-- a number's record: none is there where no row is kept
abbrev pub thread_of : Option Row → Activity → ℕ → List Frame → Registers → Thread
thread_of None activity mask frames registers = no_thread
thread_of (Some row) activity mask frames registers = thread_by row activity mask frames registers

-- all numbers' records
abbrev pub threads_of : (ℕ → Option Row) → (ℕ → Activity) → (ℕ → ℕ) → (ℕ → List Frame) → (ℕ → Registers) → ℕ → Thread
threads_of rows activities masks frames contexts t = thread_of (rows t) (activities t) (masks t) (frames t) (contexts t)

-- a thread's record as it is kept, but for its frames
abbrev pub thread_in : ThreadRecord → List Frame → Thread
thread_in k frames = thread_by k.row k.activity k.mask frames (registers_of k.regs)

-- what a thread is doing, as it is kept
abbrev pub standing_in : ThreadRecord → Standing
standing_in k = standing_of k.row.ended k.activity.wait

-- the registers of each thread: those in place, and else those that were saved
abbrev pub contexts_of : RecordsState → ℕ → Registers
contexts_of r = put (λ t. context_of (saved_of r.frames t)) r.placed (registers_of r.regs)

-- the masks of all threads (POSIX.1 signal masks)
abbrev pub masks_in : RecordsState → ℕ → ℕ
masks_in r = (state_of r.signals).masks

-- the frames of each thread, the last first
abbrev pub frames_in : RecordsState → ℕ → List Frame
frames_in r t = frames_of (stack_of r.frames t)

-- all threads by their numbers
unfoldable pub threads_in : RecordsState → ℕ → Thread
threads_in r = threads_of (rows r.rows) (activities_of r.activities) (masks_in r) (frames_in r) (contexts_of r)

-- how many of each signal pend in each place: on a thread, or under the number 0 on the process
unfoldable pub pending_in : RecordsState → ℕ → ℕ → ℕ
pending_in r = (state_of r.signals).counts

-- what signals do to the process
unfoldable pub actions_in : RecordsState → ℕ → Action
actions_in r = (state_of r.signals).actions

-- there is a thread of a number
abbrev pub has_thread : RecordsState → ℕ → Bool
has_thread r t = not (is_absent (threads_in r t).standing)

-- the row of thread 1 at the start
abbrev pub main_row : Row
main_row = record { base = 8; policy = Other; used = 0; detached = false; joiner = None; ended = None }

-- all threads at the start: thread 1 alone
abbrev pub first_threads : Registers → ℕ → Thread
first_threads registers = put (λ t. no_thread) 1 (thread_by main_row no_activity 0 [] registers)

-- what is kept apart of what each thread is doing is right: for signals what it waits for and whether it may take signals,
-- and when its wait ends by itself
pub record AreCached (r : RecordsState) : Type 0 where
  pub waits : (t : ℕ) → (state_of r.signals).waits t ≡ set_at (target (threads_in r t).standing)
  pub is_open : (t : ℕ) → (state_of r.signals).is_open t ≡ may_take (threads_in r t)
  pub deadlines : (t : ℕ) → deadlines_of r.deadlines t ≡ deadline_by (wait_of (threads_in r t).standing)

-- what pends and the actions are as they were
abbrev pub SameSignals : RecordsState → RecordsState → Type 0
SameSignals r q = (pending_in q ≡ pending_in r) × (actions_in q ≡ actions_in r)

-- a thread with one frame more, which keeps its registers and its mask, and other registers and another mask in their
-- place (POSIX.1 handlers that interrupt one another)
abbrev pub entered : Thread → FrameKind → Registers → ℕ → Thread
entered thread kind registers mask = record thread {
  registers = registers;
  mask = mask;
  frames = record { registers = thread.registers; mask = thread.mask; kind = kind } ∷ thread.frames;
}

-- a thread without its last frame, of a list of its frames: it goes back to that frame; the mask of a handler's frame is back too
abbrev pub left_by : Thread → List Frame → Thread
left_by thread [] = thread
left_by thread (frame ∷ frames) = record thread {
  registers = frame.registers;
  mask = if is_of_handler frame.kind then frame.mask else thread.mask;
  frames = frames;
}

-- a thread without its last frame, where it has one
abbrev pub left : Thread → Thread
left thread = left_by thread thread.frames

-- what the last frame is for
abbrev pub top_kind : List Frame → Option FrameKind
top_kind [] = None
top_kind (frame ∷ frames) = Some frame.kind

-- a thread is free for a signal
abbrev pub free_in : RecordsState → ℕ → ℕ → Bool
free_in r t sig = may_take (threads_in r t) && not (has_signal (threads_in r t).mask sig)

-- the next delivery of a signal: thread, signal, whether it pends on the process
abbrev pub next_signal : RecordsState → (ℕ → ℕ) → Option (ℕ × ℕ × Bool)
next_signal r key = next_delivery (λ t. set_at (target (threads_in r t).standing)) (free_in r) (pending_in r) key
