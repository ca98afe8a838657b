use Rattle.posix_model.proofs.OneRun.{one_run}
use Rattle.posix_model.proofs.one_run.Goals as goal

pub returns : goal.returns
returns c = one_run
