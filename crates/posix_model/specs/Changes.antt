-- The small changes of which moves are made.
use Rattle.std.specs.Prelude.{ℕ, ◌+◌, ◌-◌, ◌^◌, ◌%◌, ◌==◌, if◌then◌else◌, false, [], ◌∷◌, ◌++◌, nat_lt, slice_index, slice_set, bit_or}
use Rattle.thread_base.specs.Maps.{put}
use Rattle.thread_base.specs.Orders.{without}
use Rattle.thread_base.specs.declared.Policy.{Policy}
use Rattle.posix_model.specs.State.{State, Thread, Registers, Phase, Normal, Leaving, Cancellation, Ready, Waits, is_ready}
use Rattle.posix_model.specs.declared.RetakeReply.{RetakeReply}
use Rattle.posix_model.specs.declared.RetakeReply.TheVariants.{Answer, Cancel}
use Rattle.posix_model.specs.declared.Wait.{Wait}
use Rattle.posix_model.specs.Reports.{nothing_told}
use Rattle.posix_model.specs.declared.Report.{Report}

-- a state, and what has been told so far of the move that leads to it
pub record Outcome : Type 0 where
  pub state : State
  pub report : Report

-- a move begins: nothing has changed, and nothing is told
abbrev pub begun : State → Outcome
begun s = record { state = s; report = nothing_told }

-- one thread's record changes
abbrev pub set_thread : State → ℕ → Thread → State
set_thread s t thread = record s { threads = put s.threads t thread }

-- one thread's registers change
abbrev pub set_registers : State → ℕ → Registers → State
set_registers s t r = set_thread s t (record (s.threads t) { registers = r })

-- the registers after an answer: a call below 256 answers in a0 the value or 2^32 minus the error,
-- another answers the error in a0 and the value in a1; the thread goes on after its call
-- (this project's own packing; the first is that of Linux on RISC-V)
abbrev pub answered : Registers → ℕ → ℕ → Registers
answered r error value = record {
  pc = (r.pc + 4) % 2 ^ 32;
  x = if nat_lt (slice_index r.x 17) 256
      then slice_set r.x 10 (if error == 0 then value else 2 ^ 32 - error)
      else slice_set (slice_set r.x 10 error) 11 value;
}

-- a thread after an answer
abbrev pub with_reply : Thread → ℕ → ℕ → Thread
with_reply thread error value = record thread { registers = answered thread.registers error value }

-- the caller of a call is answered, and goes on
abbrev pub reply : State → ℕ → ℕ → ℕ → State
reply s t error value = set_thread s t (with_reply (s.threads t) error value)

-- a thread becomes ready: it goes to the end of the ready list, and its turn begins (POSIX.1 scheduling)
abbrev pub append : State → ℕ → Thread → State
append s t thread = record s {
  threads = put s.threads t (record thread { standing = Ready; used = 0 });
  ready = s.ready ++ t ∷ [];
}

-- a ready thread goes to the end of the ready list, and its turn begins (POSIX.1 sched_yield)
abbrev pub to_end : State → ℕ → State
to_end s t = record s {
  threads = put s.threads t (record (s.threads t) { used = 0 });
  ready = without t s.ready ++ t ∷ [];
}

-- a thread with another priority of its own and another policy, whose turn begins
abbrev pub with_schedule : Thread → Policy → ℕ → Thread
with_schedule thread policy base = record thread { base = base; policy = policy; used = 0 }

-- a thread gets another priority of its own and another policy; where it is ready it goes to the end of the ready list
-- (POSIX.1 pthread_setschedparam)
abbrev pub rescheduled : State → ℕ → Policy → ℕ → State
rescheduled s t policy base = record s {
  threads = put s.threads t (with_schedule (s.threads t) policy base);
  ready = if is_ready (s.threads t).standing then without t s.ready ++ t ∷ [] else s.ready;
}

-- a ready thread waits from now on, its pc at its call
abbrev pub await : State → ℕ → Wait → State
await s t wait = record s {
  threads = put s.threads t (record (s.threads t) { standing = Waits wait });
  ready = without t s.ready;
}

-- the address at which a thread in its exit makes its next exit action: a special address (this project's own)
abbrev pub cleanup_return : ℕ
cleanup_return = 0xFFFFFFE0

-- in its exit a thread is not cancelled (POSIX.1 pthread_exit)
abbrev pub no_cancellation : Cancellation
no_cancellation = record { enabled = false; asynchronous = false; pending = false }

-- a thread that starts its exit with a value: its frames are dropped (POSIX.1 pthread_exit)
abbrev pub in_exit : Thread → ℕ → Thread
in_exit thread value = record thread {
  frames = [];
  cancellation = no_cancellation;
  phase = Leaving value 0 0;
  registers = record thread.registers { pc = cleanup_return };
}

-- a thread that exits with a value: outside its exit it starts it, and within it goes on with another value, its frames
-- dropped (POSIX.1 pthread_exit)
abbrev pub exiting : Phase → Thread → ℕ → Thread
exiting Normal thread value = in_exit thread value
exiting (Leaving old rounds next) thread value =
    record thread { frames = []; phase = Leaving value rounds next; registers = record thread.registers { pc = cleanup_return } }

-- a stack pointer without its low four bits (System V ABI)
abbrev pub aligned : ℕ → ℕ
aligned sp = sp - sp % 16

-- the registers at a routine with an argument, which returns to an address (System V ABI)
abbrev pub called_at : Registers → ℕ → ℕ → ℕ → Registers
called_at r routine argument back = record {
  pc = routine;
  x = slice_set (slice_set (slice_set r.x 10 argument) 1 back) 2 (aligned (slice_index r.x 2));
}

-- it is told that a waiting thread was answered
abbrev pub with_answer : Report → ℕ → ℕ → ℕ → Report
with_answer report t error value = record report {
  done = bit_or report.done (2 ^ (t - 1));
  values = slice_set report.values (t - 1) (error, value);
}

-- a waiting thread is answered: it goes on after its call, and becomes ready
abbrev pub answer : Outcome → ℕ → ℕ → ℕ → Outcome
answer g t error value = record {
  state = append g.state t (with_reply (g.state.threads t) error value);
  report = with_answer g.report t error value;
}

-- the value with which a cancelled thread exits (POSIX.1 PTHREAD_CANCELED)
abbrev pub canceled : ℕ
canceled = 0xFFFFFFFF

-- a thread that has its mutex back: it is answered, or starts its exit (POSIX.1 pthread_cond_wait)
abbrev pub resumed : Thread → RetakeReply → Thread
resumed thread (Answer error) = with_reply thread error 0
resumed thread Cancel = in_exit thread canceled

-- an answer is told, and a start of an exit is not
abbrev pub with_resumed : Report → ℕ → RetakeReply → Report
with_resumed report t (Answer error) = with_answer report t error 0
with_resumed report t Cancel = report

-- a waiting thread goes on with its mutex: it becomes ready
abbrev pub go_on : Outcome → ℕ → RetakeReply → Outcome
go_on g t reply = record {
  state = append g.state t (resumed (g.state.threads t) reply);
  report = with_resumed g.report t reply;
}
