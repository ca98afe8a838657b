use Rattle.thread_base.proofs.ReachLemmas.{effective_is_greatest}
use Rattle.thread_base.proofs.effective_is_greatest.Goals as goal

pub returns : goal.returns
returns c = effective_is_greatest
