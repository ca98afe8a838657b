use Rattle.std.proofs.Common.{◌∙◌}
use Rattle.kernel_state.specs.View.{view}
use Rattle.kernel_state.proofs.CurrentLemmas.{chosen_is}
use Rattle.kernel_state.proofs.tables.Tables.chosen.Goals as goal

pub returns : goal.returns
unfolding view
returns g c =
    let k = c.args.self.now in
    c.chosen.ensures.first ∙ chosen_is (view g.R.Ready.order k) (g.R.Ready.prio k.ready) c.requires
