-- What an instruction's event, registers and memory say of its effect.
use Rattle.std.specs.Prelude.{ℕ, List, ◌≡◌}
use Rattle.rv_exec.specs.declared.Event.{Event}
use Rattle.rv_exec.specs.declared.Event.TheVariants.{Next, Ecall, Fault, Return}
use Rattle.rv_exec.specs.Meaning.{Effect, Goes, Calls, Faults, Returns}

-- from pc, registers and memory before, an event with those after it is this effect;
-- with an event other than Next nothing changes
abbrev pub HasEffect : Effect → Event → ℕ → List ℕ → List ℕ → ℕ → List ℕ → List ℕ → Type 0
HasEffect (Goes pc x mem) event pc0 x0 mem0 pc1 x1 mem1 =
    (event ≡ Next) × (pc1 ≡ pc) × (x1 ≡ x) × (mem1 ≡ mem)
HasEffect Calls event pc0 x0 mem0 pc1 x1 mem1 =
    (event ≡ Ecall) × (pc1 ≡ pc0) × (x1 ≡ x0) × (mem1 ≡ mem0)
HasEffect (Faults signal) event pc0 x0 mem0 pc1 x1 mem1 =
    (event ≡ Fault signal) × (pc1 ≡ pc0) × (x1 ≡ x0) × (mem1 ≡ mem0)
HasEffect (Returns which) event pc0 x0 mem0 pc1 x1 mem1 =
    (event ≡ Return which) × (pc1 ≡ pc0) × (x1 ≡ x0) × (mem1 ≡ mem0)
