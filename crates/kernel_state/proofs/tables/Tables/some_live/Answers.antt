use Rattle.kernel_state.proofs.ViewLemmas.{view_live}
use Rattle.kernel_state.proofs.tables.Tables.some_live.Goals as goal

pub returns : goal.returns
returns g c = view_live g.R.Ready.order c.args.self.now c.live.result c.live.ensures
