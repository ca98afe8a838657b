use Rattle.std.proofs.Common.{◌∙◌, ap, arith, length-set}
use Rattle.posix_model.specs.Scheduling.{eff}
use Rattle.kernel_state.specs.View.{view}
use Rattle.kernel_state.proofs.MutexLemmas.{level_more}
use Rattle.kernel_state.proofs.tables.Tables.levels.Goals as goal

pub loop-index-preserved : goal.loop-index-preserved
loop-index-preserved g c =
    let s = view g.R.Ready.order c.args.self.now in
    let levels = c.loop-index.levels in
    let before = c.loop-index.invariant in (
      length-set levels c.loop-index.index c.level.result ∙ before.0,
      level_more levels (eff s) c.loop-index.index c.level.result (omega (arith, before.0)) (c.level.ensures ∙ ap (eff s) c.at.ensures) before.1,
    )
