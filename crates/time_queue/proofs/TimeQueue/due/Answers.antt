use Rattle.std.proofs.Common.{◌∙◌, arith}
use Rattle.time_queue.proofs.Searches.{from_one, is_due, is_lowest, is_none}
use Rattle.time_queue.proofs.TimeQueue.due.Goals as goal

pub returns-clause-least : goal.returns-clause-least
returns-clause-least c = c.due_from.ensures ∙ from_one c.args.now c.args.self.now

pub returns-clause-due : goal.returns-clause-due
returns-clause-due c = is_due c.args.now c.args.self.now (omega arith) c.due_from.result c.due_from.ensures

pub returns-clause-lowest : goal.returns-clause-lowest
returns-clause-lowest c = is_lowest c.args.now c.args.self.now (omega arith) c.due_from.result c.due_from.ensures

pub returns-clause-none : goal.returns-clause-none
returns-clause-none c = is_none c.args.now c.args.self.now (omega arith) c.due_from.result c.due_from.ensures
