use Rattle.std.proofs.Common.{◌∙◌, sym, arith}
use Rattle.time_queue.proofs.Searches.{found_within, is_made}
use Rattle.time_queue.proofs.TimeQueue.due_from.Goals as goal

pub returns-in-Some : goal.returns-in-Some
returns-in-Some c =
    let found = sym c.least_from.ensures ∙ c.in-Some.is in
    is_made c.new.result c.in-Some.found c.new.ensures (found_within c.args.now c.args.self.now c.args.number c.in-Some.found (omega arith) found) ∙ sym found
