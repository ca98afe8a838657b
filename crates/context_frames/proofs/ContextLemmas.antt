-- The contexts before anything was saved, and the frames by the stacks of their nodes.
use Rattle.std.proofs.Common.{◌≡◌, ◌∙◌, refl, ap, ℕ, List, get_or, replicate}
use Rattle.std.proofs.Math.Nat.{ℕ_set}
use Rattle.thread_base.specs.Maps.{numbered}
use Rattle.thread_base.proofs.MapLemmas.{numbered_blank}
use Rattle.context_frames.specs.declared.Frame.{Frame}
use Rattle.context_frames.specs.Contexts.{Contexts, saved_of, zero_registers}
use Rattle.context_frames.specs.declared.Saved.TheVariants.{Fresh}

abbrev IsZeroFirst : Type 0
IsZeroFirst = let xs : List ℕ = replicate 32 0 in get_or xs 0 0 ≡ 0

-- registers are told apart by their values, not by how it is known that x0 is 0
zero_again : (h : IsZeroFirst) → Fresh (record { pc = 0; x = replicate 32 0; zero = h }) ≡ Fresh zero_registers
zero_again h =
    let one : IsProp IsZeroFirst = hlevel ℕ_set in
    λ i. Fresh (record { pc = 0; x = replicate 32 0; zero = one h refl i })

-- of one context alone, each number has it
pub saved_blank : (v : Contexts) (h : IsZeroFirst)
    → v.saved ≡ replicate 64 (Fresh (record { pc = 0; x = replicate 32 0; zero = h })) → saved_of v ≡ (λ t. Fresh zero_registers)
unfolding saved_of
saved_blank v h e =
    ap (numbered (Fresh zero_registers)) (e ∙ ap (replicate 64) (zero_again h)) ∙ numbered_blank (Fresh zero_registers) 64

-- a frame that is a default where none is read
pub any_frame : Frame
any_frame = record { regs = zero_registers; mask = 0; kind = Rattle.thread_base.specs.declared.frame.FrameKind.TheVariants.Handler }
