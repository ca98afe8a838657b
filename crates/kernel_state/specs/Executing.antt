-- What one instruction of the thread in place makes of the machine, and what its event tells.
use Rattle.std.specs.Prelude.{ℕ, ◌≡◌, Bool, List, Option}
use Rattle.std.specs.Option.{option_map}
use Rattle.rv_exec.specs.Meaning.{Effect, Goes, Calls, Faults, Returns, effect}
use Rattle.rv_exec.specs.declared.Event.{Event}
use Rattle.rv_exec.specs.declared.Event.TheVariants.{Next, Ecall, Fault, Return}
use Rattle.posix_model.specs.State.{State, Registers}
use Rattle.posix_model.specs.Changes.{set_registers}
use Rattle.posix_model.specs.Deliveries.{Delivery, gives}

-- the effect of the instruction at which a thread stands (RISC-V)
abbrev pub effect_at : State → ℕ → Effect
effect_at s t = effect (s.threads t).registers.pc (s.threads t).registers.x s.memory

-- the thread's instruction was made where its event is Next; with another event the machine stays, and the
-- event tells the effect
abbrev pub HasExecuted : State → ℕ → Event → State → Type 0
HasExecuted s t Next r =
    (registers : Registers) × (memory : List ℕ) × (effect_at s t ≡ Goes registers.pc registers.x memory)
    × (r ≡ record (set_registers s t registers) { memory = memory })
HasExecuted s t Ecall r = (effect_at s t ≡ Calls) × (r ≡ s)
HasExecuted s t (Fault signal) r = (effect_at s t ≡ Faults signal) × (r ≡ s)
HasExecuted s t (Return which) r = (effect_at s t ≡ Returns which) × (r ≡ s)

-- the delivery of a signal, which pends on the process or on its thread
abbrev pub delivery_by : Option (ℕ × ℕ × Bool) → Option Delivery
delivery_by o = option_map gives o
