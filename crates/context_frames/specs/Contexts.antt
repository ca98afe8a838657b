-- What is kept of each thread beside its row: a stack of frames, and the context that was saved last.
use Rattle.std.specs.Prelude.{ℕ, ◌-◌, refl, List, Option, length, replicate, slice_get, take}
use Rattle.link_arena.specs.Stacking.{stack_at, stacked}
use Rattle.rv_exec.specs.declared.Regs.{Regs}
use Rattle.thread_base.specs.Maps.{numbered}
use Rattle.context_frames.specs.declared.Frame.{Frame}
use Rattle.context_frames.specs.declared.Saved.{Saved}
use Rattle.context_frames.specs.declared.Saved.TheVariants.{Fresh}

-- a stack of nodes for each thread, a frame for each node, and a context for each thread, in the order of their numbers
pub record Contexts : Type 0 where
  pub lists : List (List ℕ)
  pub frames : List Frame
  pub saved : List Saved

-- registers that are 0, the address of the next instruction too
abbrev pub zero_registers : Regs
zero_registers = record { pc = 0; x = replicate 32 0; zero = refl }

-- the frames of each number, from the first that was pushed to the top (POSIX.1 handlers that interrupt one another)
unfoldable pub stack_of : Contexts → ℕ → List Frame
stack_of contexts t = stacked contexts.frames (stack_at contexts.lists t)

-- the context of each number (this project's own)
unfoldable pub saved_of : Contexts → ℕ → Saved
saved_of contexts = numbered (Fresh zero_registers) contexts.saved

-- the frame on top of a stack
abbrev pub top_of : List Frame → Option Frame
top_of frames = slice_get frames (length frames - 1)

-- the frames below the top
abbrev pub below_top : List Frame → List Frame
below_top frames = take (length frames - 1) frames
