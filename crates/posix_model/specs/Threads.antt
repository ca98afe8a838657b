-- Threads by their numbers, their attributes, and new threads (POSIX.1 pthread_create).
use Rattle.std.specs.Prelude.{ℕ, ◌/◌, ◌%◌, ◌==◌, ◌&&◌, Bool, not, if◌then◌else◌, find, Option, [], replicate, slice_set, bit_and}
use Rattle.std.specs.Int.{bit_at}
use Rattle.std.specs.List.{list_any}
use Rattle.thread_base.specs.Numbers.{policy_of}
use Rattle.thread_base.specs.Priority.{tids}
use Rattle.thread_base.specs.declared.Policy.{Policy}
use Rattle.posix_model.specs.State.{State, Thread, Registers, Normal, Ready, is_absent, is_live, joins, first_cancellation}
use Rattle.posix_model.specs.declared.Arguments.{Arguments}

-- there is a thread of a number, which may have ended
abbrev pub exists : State → ℕ → Bool
exists s t = not (is_absent (s.threads t).standing)

-- the least number that no thread has
abbrev pub free_number : State → Option ℕ
free_number s = find (λ t. is_absent (s.threads t).standing) tids

-- the thread that waits for the end of a thread
abbrev pub joiner : State → ℕ → Option ℕ
joiner s t = find (λ u. joins t (s.threads u).standing) tids

-- some thread waits for the end of a thread
abbrev pub has_joiner : State → ℕ → Bool
has_joiner s t = list_any (λ u. joins t (s.threads u).standing) tids

-- some thread has not ended
abbrev pub some_live : State → Bool
some_live s = list_any (λ u. is_live (s.threads u).standing) tids

-- The attributes of a new thread in one word (this project's own packing): bits 0 to 4 are a priority,
-- bits 8 and 9 a policy, bit 16 says that it is detached, bit 17 that priority and policy count.

-- whether priority and policy count
abbrev pub tells_scheduling : ℕ → Bool
tells_scheduling word = bit_at word 17 == 1

-- the policy's number
abbrev pub policy_bits : ℕ → ℕ
policy_bits word = word / 256 % 4

-- no other bit is set, and a policy that counts is one
abbrev pub are_attributes : ℕ → Bool
are_attributes word = bit_and word 0xFFFCFCE0 == 0 && not (tells_scheduling word && policy_bits word == 3)

-- whether the thread is detached (POSIX.1 PTHREAD_CREATE_DETACHED)
abbrev pub says_detached : ℕ → Bool
says_detached word = bit_at word 16 == 1

-- the base priority, which else is the creator's (POSIX.1 PTHREAD_INHERIT_SCHED)
abbrev pub base_by : ℕ → ℕ → ℕ
base_by base word = if tells_scheduling word then word % 32 else base

-- the policy, which else is the creator's
abbrev pub policy_by : Policy → ℕ → Policy
policy_by policy word = if tells_scheduling word then policy_of (policy_bits word) else policy

-- the return address of a thread's first routine: a special address (this project's own)
abbrev pub start_return : ℕ
start_return = 0xFFFFFFD0

-- the registers of a new thread: it stands at its routine, with its argument and its stack
abbrev pub first_registers : ℕ → ℕ → ℕ → Registers
first_registers routine argument stack =
    record { pc = routine; x = slice_set (slice_set (slice_set (replicate 32 0) 1 start_return) 2 stack) 10 argument }

-- a new thread
abbrev pub new_thread : Thread → Arguments → Thread
new_thread creator c = record {
  registers = first_registers c.a0 c.a1 c.a2;
  base = base_by creator.base c.a3;
  policy = policy_by creator.policy c.a3;
  used = 0;
  detached = says_detached c.a3;
  mask = creator.mask;
  frames = [];
  cleanups = [];
  cancellation = first_cancellation;
  phase = Normal;
  standing = Ready;
}
