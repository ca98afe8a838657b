use Rattle.kernel_state.proofs.LawLemmas.{drained_may_arrive}
use Rattle.kernel_state.proofs.outside.arrivals.Goals as goal

pub returns-clause-may_arrive : goal.returns-clause-may_arrive
returns-clause-may_arrive c = drained_may_arrive
