-- What the instruction at which a thread stands comes to (the RISC-V manual), and when that is a fault.
use Rattle.std.specs.Prelude.{ℕ, ◌==◌, ◌&&◌, Bool, true, false, not, Option, Some, None}
use Rattle.thread_base.specs.declared.frame.FrameKind.{FrameKind}
use Rattle.thread_base.specs.declared.frame.FrameKind.TheVariants.{Handler as OfHandler, Cleanup as OfCleanup}
use Rattle.rv_exec.specs.Meaning.{Effect, Goes, Calls, Faults, Returns, SIGSEGV}
use Rattle.rv_exec.specs.declared.Event.{Event}
use Rattle.rv_exec.specs.declared.Event.TheVariants.{Next, Ecall, Fault, Return}
use Rattle.rv_exec.specs.declared.Special.{Special}
use Rattle.rv_exec.specs.declared.Special.TheVariants.{Handler, Cleanup, Start}
use Rattle.posix_model.specs.State.{Phase}
use Rattle.posix_model.specs.Deliveries.{is_normal}

-- the event of an effect
abbrev pub event_of : Effect → Event
event_of (Goes pc x memory) = Next
event_of Calls = Ecall
event_of (Faults signal) = Fault signal
event_of (Returns which) = Return which

-- a special return is due: a handler's or a cleanup routine's where the last frame is such a one; without a frame a
-- cleanup routine's in the exit, and a first routine's outside it (this project's own)
abbrev pub is_due : Special → Option FrameKind → Phase → Bool
is_due Handler (Some OfHandler) phase = true
is_due Handler (Some OfCleanup) phase = false
is_due Handler None phase = false
is_due Cleanup (Some OfHandler) phase = false
is_due Cleanup (Some OfCleanup) phase = true
is_due Cleanup None phase = not (is_normal phase)
is_due Start (Some kind) phase = false
is_due Start None phase = is_normal phase

-- an event is a fault with this signal, or a special return that is not due
abbrev pub faults_by : ℕ → Event → Option FrameKind → Phase → Bool
faults_by signal Next top phase = false
faults_by signal Ecall top phase = false
faults_by signal (Fault sig) top phase = sig == signal
faults_by signal (Return which) top phase = not (is_due which top phase) && (SIGSEGV == signal)
