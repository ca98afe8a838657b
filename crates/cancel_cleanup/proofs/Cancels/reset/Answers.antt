use Rattle.std.proofs.Common.{◌∙◌, ap, [], length-set}
use Rattle.thread_base.specs.Maps.{put}
use Rattle.link_arena.specs.Stacking.{stack_at}
use Rattle.link_arena.proofs.KeptLemmas.{kept_change, change_places, none_in}
use Rattle.cancel_cleanup.specs.Cancellations.{cleanups_of, first_flags}
use Rattle.cancel_cleanup.proofs.Cancels.reset.Goals as goal

pub invariant_of-self : goal.invariant_of-self
invariant_of-self c = (
  length-set c.self.inside.flags c.index.result first_flags ∙ c.self.invariant.0,
  change_places c.self.inside.records.items (stack_at c.self.inside.stacks) (stack_at c.clear.new.self) c.self.invariant.1 c.args.t [] c.clear.ensures (none_in (stack_at c.self.inside.stacks c.args.t)),
)

pub returns-clause-cleanups : goal.returns-clause-cleanups
unfolding cleanups_of
returns-clause-cleanups c =
    kept_change c.self.inside.records.items (stack_at c.self.inside.stacks) (stack_at c.clear.new.self) c.self.invariant.1 c.args.t [] c.clear.ensures (none_in (stack_at c.self.inside.stacks c.args.t))
    ∙ ap (λ v. put (cleanups_of v) c.args.t []) c.self.view_is
