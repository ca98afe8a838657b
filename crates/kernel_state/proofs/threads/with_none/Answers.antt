use Rattle.kernel_state.proofs.ViewLemmas.{none_dropped}
use Rattle.kernel_state.proofs.threads.with_none.Goals as goal

pub returns : goal.returns
returns c = none_dropped c.args.drops.now c.told-drops
