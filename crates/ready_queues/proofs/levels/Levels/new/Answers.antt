use Rattle.ready_queues.proofs.LevelLemmas.{new_is, new_marks}
use Rattle.ready_queues.proofs.levels.Levels.new.Goals as goal

pub invariant_of-result : goal.invariant_of-result
invariant_of-result c = new_marks c.in_ok-new.field-0 c.in_ok-new.ensures

pub returns : goal.returns
returns c = new_is c.in_ok-new.field-0 c.in_ok-new.ensures
