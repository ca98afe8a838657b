-- One instruction of a thread (RISC-V), with its call, its return or its fault.
use Rattle.std.specs.Prelude.{ℕ, List, [], ◌∷◌, if◌then◌else◌, slice_index}
use Rattle.rv_exec.specs.Meaning.{Effect, Goes, Calls, Faults, Returns, effect}
use Rattle.rv_exec.specs.declared.Special.{Special}
use Rattle.rv_exec.specs.declared.Special.TheVariants.{Handler, Cleanup, Start}
use Rattle.posix_model.specs.State.{State, Registers, Frame, Phase, Normal, Leaving, is_of_handler}
use Rattle.posix_model.specs.Changes.{Outcome, begun, set_registers, set_thread}
use Rattle.posix_model.specs.Calls.{call, call_number, arguments}
use Rattle.posix_model.specs.Leaving.{start_exit}
use Rattle.posix_model.specs.Exits.{next_exit_action}
use Rattle.posix_model.specs.Deliveries.{faulted}
use Rattle.posix_model.specs.declared.Head.TheVariants.{Ret}

-- the fault of a special return that is not due: SIGSEGV
abbrev pub segmentation_fault : ℕ
segmentation_fault = 11

-- a thread's registers and the memory change, and nothing is told but who it was
abbrev pub went_on : State → ℕ → Registers → List ℕ → Outcome
went_on s t r memory = record {
  state = record (set_registers s t r) { memory = memory };
  report = record (begun s).report { tid = t };
}

-- a special return that was made is told
abbrev pub told_return : ℕ → Special → Outcome → Outcome
told_return t which g = record g { report = record g.report { tid = t; head = Ret which } }

-- the return of a handler: registers and mask are those before it (POSIX.1 sigaction)
abbrev pub handler_returned : State → ℕ → List Frame → Outcome
handler_returned s t (frame ∷ frames) =
    if is_of_handler frame.kind
    then told_return t Handler (begun (set_thread s t (record (s.threads t) { registers = frame.registers; mask = frame.mask; frames = frames })))
    else faulted s t segmentation_fault
handler_returned s t [] = faulted s t segmentation_fault

-- the return of a cleanup routine: of one that was taken off the list and run the registers are those before it, and the
-- mask stays; in the exit the next exit action is made (POSIX.1 pthread_cleanup_pop, pthread_exit)
abbrev pub cleanup_returned : State → ℕ → List Frame → Phase → Outcome
cleanup_returned s t (frame ∷ frames) phase =
    if is_of_handler frame.kind
    then faulted s t segmentation_fault
    else told_return t Cleanup (begun (set_thread s t (record (s.threads t) { registers = frame.registers; frames = frames })))
cleanup_returned s t [] Normal = faulted s t segmentation_fault
cleanup_returned s t [] (Leaving value rounds next) = told_return t Cleanup (next_exit_action s t value rounds next)

-- the return of a thread's first routine: it starts the exit with the value in a0 (POSIX.1 pthread_create)
abbrev pub start_returned : State → ℕ → List Frame → Phase → Outcome
start_returned s t (frame ∷ frames) phase = faulted s t segmentation_fault
start_returned s t [] Normal = told_return t Start (begun (start_exit s t (slice_index (s.threads t).registers.x 10)))
start_returned s t [] (Leaving value rounds next) = faulted s t segmentation_fault

-- a special return, where it is due; one that is not due faults (this project's own)
abbrev pub returned : State → ℕ → Special → Outcome
returned s t Handler = handler_returned s t (s.threads t).frames
returned s t Cleanup = cleanup_returned s t (s.threads t).frames (s.threads t).phase
returned s t Start = start_returned s t (s.threads t).frames (s.threads t).phase

-- what an effect makes of the state
abbrev pub by_effect : State → ℕ → Effect → Outcome
by_effect s t (Goes pc x memory) = went_on s t (record { pc = pc; x = x }) memory
by_effect s t Calls = call s t (call_number (s.threads t).registers) (arguments (s.threads t).registers)
by_effect s t (Faults sig) = faulted s t sig
by_effect s t (Returns which) = returned s t which

-- the instruction at which a thread stands
unfoldable pub instruction : State → ℕ → Outcome
instruction s t = by_effect s t (effect (s.threads t).registers.pc (s.threads t).registers.x s.memory)
