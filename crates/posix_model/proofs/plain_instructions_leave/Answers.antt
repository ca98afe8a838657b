use Rattle.posix_model.proofs.PlainLemmas.{plain_instructions_leave}
use Rattle.posix_model.proofs.plain_instructions_leave.Goals as goal

pub returns : goal.returns
returns c = plain_instructions_leave
