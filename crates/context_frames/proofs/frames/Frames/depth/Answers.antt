use Rattle.std.proofs.Common.{◌∙◌, sym, ap, length}
use Rattle.link_arena.specs.Stacking.{stack_at}
use Rattle.link_arena.proofs.KeptLemmas.{depth_is}
use Rattle.context_frames.specs.Contexts.{stack_of}
use Rattle.context_frames.proofs.ContextLemmas.{any_frame}
use Rattle.context_frames.proofs.frames.Frames.depth.Goals as goal

pub returns-clause-frames : goal.returns-clause-frames
unfolding stack_of
returns-clause-frames c =
    c.depth.ensures.stack
    ∙ sym (depth_is c.self.inside.frames.items (stack_at c.self.inside.stacks) (stack_at c.self.inside.stacks) c.self.invariant.0 c.args.t any_frame)
    ∙ ap (λ v. length (stack_of v c.args.t)) c.self.view_is
