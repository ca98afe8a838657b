use Rattle.posix_model.proofs.GoodMoves.{instructions_keep_good}
use Rattle.posix_model.proofs.instructions_keep_good.Goals as goal

pub returns : goal.returns
returns c = instructions_keep_good
