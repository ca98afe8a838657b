use Rattle.kernel_state.specs.View.{view}
use Rattle.kernel_state.proofs.ConditionLemmas.{used_shown}
use Rattle.kernel_state.proofs.tables.Tables.is_used.Goals as goal

pub returns : goal.returns
unfolding view
returns g c =
    used_shown (view g.R.Ready.order c.args.self.now) c.args.m c.uses.result c.requires c.uses.ensures.0 (λ d e. c.uses.ensures.1 (d, e))
