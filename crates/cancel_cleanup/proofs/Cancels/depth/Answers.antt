use Rattle.std.proofs.Common.{◌∙◌, sym, ap, length}
use Rattle.link_arena.specs.Stacking.{stack_at}
use Rattle.link_arena.proofs.KeptLemmas.{depth_is}
use Rattle.cancel_cleanup.specs.Cancellations.{cleanups_of}
use Rattle.cancel_cleanup.proofs.Cancels.depth.Goals as goal

pub returns-clause-cleanups : goal.returns-clause-cleanups
unfolding cleanups_of
returns-clause-cleanups c =
    c.depth.ensures.stack
    ∙ sym (depth_is c.self.inside.records.items (stack_at c.self.inside.stacks) (stack_at c.self.inside.stacks) c.self.invariant.1 c.args.t (record { routine = 0; arg = 0 }))
    ∙ ap (λ v. length (cleanups_of v c.args.t)) c.self.view_is
