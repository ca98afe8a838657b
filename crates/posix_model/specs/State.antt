-- What the machine consists of.
use Rattle.std.specs.Prelude.{ℕ, Bool, true, false, List, [], replicate, Option, None}
use Rattle.thread_base.specs.declared.Policy.{Policy}
use Rattle.thread_base.specs.declared.Policy.TheVariants.{Other}
pub use Rattle.thread_base.specs.Objects.{Mutex, Condition}
pub use Rattle.posix_model.specs.Standings.{Standing, Absent, Ready, Waits, Ended, is_absent, is_ready, is_live, aim, target, is_target, joins, wants, waits_on, wait_of, mutex_beside, count_by, mutex_with, count_due, set_at, deadline_by, takes_back, is_at_condition, is_reading, Target, ASignal, ATime, Input, Nothing, EndOf, MutexAt, ConditionAt}
use Rattle.posix_model.specs.declared.Ending.{Ending}
use Rattle.thread_base.specs.declared.action.Action.{Action}
use Rattle.thread_base.specs.declared.action.Action.TheVariants.{Default}
use Rattle.thread_base.specs.declared.frame.Cleanup.{Cleanup}
use Rattle.thread_base.specs.declared.frame.FrameKind.{FrameKind}
use Rattle.thread_base.specs.declared.frame.FrameKind.TheVariants.{Handler as OfHandler, Cleanup as OfCleanup}

-- the program counter, and x0 to x31 (RISC-V)
pub record Registers : Type 0 where
  pub pc : ℕ
  pub x : List ℕ

-- whether a thread is in its exit: with which value, how many rounds of destructors have ended, and which key is looked
-- at next (POSIX.1 pthread_exit, pthread_key_create)
pub data Phase : Type 0 where
  Normal : Phase
  Leaving : (value rounds next : ℕ) → Phase

-- it is a handler's
abbrev pub is_of_handler : FrameKind → Bool
is_of_handler OfHandler = true
is_of_handler OfCleanup = false

-- what a thread goes back to where a handler or a cleanup routine returns
pub record Frame : Type 0 where
  pub registers : Registers
  pub mask : ℕ
  pub kind : FrameKind

-- what a thread does where it is cancelled, and whether it was (POSIX.1 pthread_setcancelstate, pthread_cancel)
pub record Cancellation : Type 0 where
  pub enabled : Bool
  pub asynchronous : Bool
  pub pending : Bool

-- a key of values of threads (POSIX.1 pthread_key_create)
pub record Key : Type 0 where
  pub destructor : ℕ  -- 0 where it has none
  pub values : ℕ → ℕ  -- by thread

-- a thread (POSIX.1 threads)
pub record Thread : Type 0 where
  pub registers : Registers
  pub base : ℕ  -- its own priority
  pub policy : Policy
  pub used : ℕ  -- the ticks used of its turn
  pub detached : Bool
  pub mask : ℕ  -- the signals that it blocks
  pub frames : List Frame  -- the last first
  pub cleanups : List Cleanup  -- the last first
  pub cancellation : Cancellation
  pub phase : Phase
  pub standing : Standing

-- the machine
pub record State : Type 0 where
  pub threads : ℕ → Thread  -- by number
  pub ready : List ℕ  -- the ready list
  pub mutexes : ℕ → Option Mutex  -- by number
  pub conditions : ℕ → Option Condition  -- by number
  pub keys : ℕ → Option Key  -- by number
  pub actions : ℕ → Action  -- by signal
  pub pending : ℕ → ℕ → ℕ  -- of a thread, or of the process under the number 0, and of a signal: how many pend
  pub now : ℕ  -- the ticks that have come
  pub alarm : Option ℕ  -- when it goes off
  pub input : List ℕ  -- the bytes that are not read yet
  pub is_input_over : Bool
  pub memory : List ℕ  -- the bytes of the window
  pub over : Option Ending

-- a new thread's: enabled, deferred, not cancelled
abbrev pub first_cancellation : Cancellation
first_cancellation = record { enabled = true; asynchronous = false; pending = false }

-- a number that no thread has
abbrev pub no_thread : Thread
no_thread = record {
  registers = record { pc = 0; x = replicate 32 0 };
  base = 0;
  policy = Other;
  used = 0;
  detached = false;
  mask = 0;
  frames = [];
  cleanups = [];
  cancellation = first_cancellation;
  phase = Normal;
  standing = Absent;
}

-- no signal pends anywhere
abbrev pub none_pending : ℕ → ℕ → ℕ
none_pending t sig = 0

-- there is no mutex
abbrev pub no_mutexes : ℕ → Option Mutex
no_mutexes m = None

-- there is no condition
abbrev pub no_conditions : ℕ → Option Condition
no_conditions c = None

-- there is no key
abbrev pub no_keys : ℕ → Option Key
no_keys k = None

-- all actions are the default
abbrev pub default_actions : ℕ → Action
default_actions sig = Default
