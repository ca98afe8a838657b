use Rattle.std.proofs.Common.{◌∙◌, arith}
use Rattle.thread_base.proofs.MapLemmas.{numbered_get}
use Rattle.kernel_state.proofs.ConditionLemmas.{level_beyond}
use Rattle.kernel_state.proofs.conditions.level_of.Goals as goal

pub returns-in-Some : goal.returns-in-Some
returns-in-Some c =
    numbered_get 0 0 c.args.levels.now c.index.result c.args.number (c.index.ensures.value ∙ c.in-Some.ensures.1) (omega (arith, c.index.ensures.range, c.fits-levels))

pub returns-in-None : goal.returns-in-None
returns-in-None c = level_beyond c.args.levels.now c.args.number c.told-levels c.in-None.ensures
