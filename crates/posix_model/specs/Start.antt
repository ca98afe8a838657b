-- The start of a run.
use Rattle.std.specs.Prelude.{ℕ, ◌+◌, false, List, [], ◌∷◌, length, replicate, slice_set, None}
use Rattle.thread_base.specs.Maps.{put}
use Rattle.thread_base.specs.declared.Policy.TheVariants.{Other}
use Rattle.rv_exec.specs.Window.{base}
use Rattle.posix_model.specs.State.{State, Thread, Registers, Normal, Ready, no_thread, none_pending, no_mutexes, no_conditions, no_keys, default_actions, first_cancellation}
use Rattle.posix_model.specs.Threads.{start_return}
use Rattle.posix_model.specs.Journals.{nothing_taken}
use Rattle.posix_model.specs.Runs.{Moment}

-- the registers of thread 1: it stands at the entry, with its stack at the window's end (this project's own)
abbrev pub start_registers : ℕ → ℕ → Registers
start_registers size entry = record { pc = entry; x = slice_set (slice_set (replicate 32 0) 1 start_return) 2 (base + size) }

-- thread 1: policy OTHER, priority 8
abbrev pub main_thread : ℕ → ℕ → Thread
main_thread size entry = record {
  registers = start_registers size entry;
  base = 8;
  policy = Other;
  used = 0;
  detached = false;
  mask = 0;
  frames = [];
  cleanups = [];
  cancellation = first_cancellation;
  phase = Normal;
  standing = Ready;
}

-- the machine at its start, over a memory
abbrev pub start_state : List ℕ → ℕ → State
start_state memory entry = record {
  threads = put (λ t. no_thread) 1 (main_thread (length memory) entry);
  ready = 1 ∷ [];
  mutexes = no_mutexes;
  conditions = no_conditions;
  keys = no_keys;
  actions = default_actions;
  pending = none_pending;
  now = 0;
  alarm = None;
  input = [];
  is_input_over = false;
  memory = memory;
  over = None;
}

-- a run at its start
abbrev pub start : List ℕ → ℕ → Moment
start memory entry = record { state = start_state memory entry; instructions = 0; last = None; taken = nothing_taken }
