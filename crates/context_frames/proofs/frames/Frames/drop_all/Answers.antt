use Rattle.std.proofs.Common.{◌∙◌, ap, []}
use Rattle.thread_base.specs.Maps.{put}
use Rattle.link_arena.specs.Stacking.{stack_at}
use Rattle.link_arena.proofs.KeptLemmas.{kept_change, change_places, none_in}
use Rattle.context_frames.specs.Contexts.{stack_of}
use Rattle.context_frames.proofs.frames.Frames.drop_all.Goals as goal

pub invariant_of-self : goal.invariant_of-self
invariant_of-self c = (change_places c.self.inside.frames.items (stack_at c.self.inside.stacks) (stack_at c.clear.new.self) c.self.invariant.0 c.args.t [] c.clear.ensures (none_in (stack_at c.self.inside.stacks c.args.t)), c.self.invariant.1)

pub returns-clause-frames : goal.returns-clause-frames
unfolding stack_of
returns-clause-frames c =
    kept_change c.self.inside.frames.items (stack_at c.self.inside.stacks) (stack_at c.clear.new.self) c.self.invariant.0 c.args.t [] c.clear.ensures (none_in (stack_at c.self.inside.stacks c.args.t))
    ∙ ap (λ v. put (stack_of v) c.args.t []) c.self.view_is
