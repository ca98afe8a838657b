use Rattle.ready_queues.proofs.LevelLemmas.{first_in_range}
use Rattle.ready_queues.proofs.levels.Levels.first.Goals as goal

pub returns-clause-range : goal.returns-clause-range
returns-clause-range c = first_in_range c.self.inside.links c.self.inside.bits c.number.result c.first.result c.self.invariant c.first.ensures.first
