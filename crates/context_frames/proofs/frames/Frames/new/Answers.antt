use Rattle.context_frames.proofs.ContextLemmas.{saved_blank}
use Rattle.context_frames.proofs.frames.Frames.new.Goals as goal

pub returns-clause-saved : goal.returns-clause-saved
returns-clause-saved c =
    saved_blank (record { lists = c.in_ok-stacks.stacks; frames = c.in_ok-frames.frames.items; saved = c.in-Ok.saved.items }) _ c.in-Ok.ensures.items
