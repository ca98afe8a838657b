use Rattle.thread_base.proofs.SetLemmas.{set_members}
use Rattle.thread_base.proofs.SigSet.of.Goals as goal

pub returns-clause-members : goal.returns-clause-members
returns-clause-members c = λ sig. set_members c.args.word sig
