use Rattle.link_arena.proofs.WaitingLemmas.{no_queues, new_queues}
use Rattle.link_arena.proofs.waits.WaitQueues.new.Goals as goal

pub invariant_of-result : goal.invariant_of-result
invariant_of-result c = new_queues c.in_ok-new.field-0 c.in_ok-new.ensures

pub returns : goal.returns
returns c = no_queues c.in_ok-new.field-0 c.in_ok-new.ensures
