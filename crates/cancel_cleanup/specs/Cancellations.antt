-- What is kept of each thread for its cancellation: its flags, and its cleanup records in the order of the pushes.
use Rattle.std.specs.Prelude.{ℕ, ◌-◌, Bool, true, false, List, Option, length, slice_get, take}
use Rattle.link_arena.specs.Stacking.{stack_at, stacked}
use Rattle.thread_base.specs.Maps.{numbered}
use Rattle.thread_base.specs.declared.frame.Cleanup.{Cleanup}
use Rattle.cancel_cleanup.specs.declared.Flags.{Flags}

-- flags and a stack of nodes for each thread, in the order of their numbers, and a cleanup record for each node
pub record Cancellations : Type 0 where
  pub flags : List Flags
  pub lists : List (List ℕ)
  pub records : List Cleanup

-- the flags of a thread that begins (POSIX.1: PTHREAD_CANCEL_ENABLE, PTHREAD_CANCEL_DEFERRED, no request)
abbrev pub first_flags : Flags
first_flags = record { enabled = true; asynchronous = false; pending = false }

-- the flags of each number (POSIX.1 cancelability state and type, and whether a request pends)
unfoldable pub flags_of : Cancellations → ℕ → Flags
flags_of cancellations = numbered first_flags cancellations.flags

-- the cleanup records of each number, the last pushed at the end (POSIX.1 thread-specific cleanup handlers)
unfoldable pub cleanups_of : Cancellations → ℕ → List Cleanup
cleanups_of cancellations t = stacked cancellations.records (stack_at cancellations.lists t)

-- three flags by their names, in the order enabled, asynchronous, pending
abbrev pub flags_from : Bool × Bool × Bool → Flags
flags_from f = record { enabled = f.0; asynchronous = f.1; pending = f.2 }

-- the last record of a list, if there is one
abbrev pub last_of : List Cleanup → Option Cleanup
last_of cleanups = slice_get cleanups (length cleanups - 1)

-- the records before the last
abbrev pub before_last : List Cleanup → List Cleanup
before_last cleanups = take (length cleanups - 1) cleanups
