use Rattle.run_laws.proofs.MoveWeightLemmas.{moves_since_last}
use Rattle.run_laws.proofs.weights.moves_since_last.Goals as goal

pub returns : goal.returns
returns c = moves_since_last
