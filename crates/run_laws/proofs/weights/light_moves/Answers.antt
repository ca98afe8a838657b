use Rattle.run_laws.proofs.LightMoveLemmas.{end_weighs_nothing}
use Rattle.run_laws.proofs.weights.light_moves.Goals as goal

pub returns-clause-end : goal.returns-clause-end
returns-clause-end c = end_weighs_nothing
