use Rattle.ready_queues.proofs.RankLemmas.{ranks_number}
use Rattle.ready_queues.proofs.numbers.Numbers.make_room.Goals as goal

pub returns-clause-order : goal.returns-clause-order
returns-clause-order c = λ order stands all are. ranks_number c.args.self.now.given c.args.lists.now c.args.self.now.next order c.ranks-self.result stands all are c.ranks-self.ensures
