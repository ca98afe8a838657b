use Rattle.std.proofs.Common.{◌∙◌, ap}
use Rattle.cond_table.specs.ConditionMap.{conditions}
use Rattle.cond_table.proofs.ConditionLemmas.{no_conditions}
use Rattle.cond_table.proofs.Conds.new.Goals as goal

pub returns : goal.returns
returns c = ap (λ mutexes. conditions (record { mutexes = mutexes; queues = c.in_ok-new.field-0 })) c.in-Ok.ensures.items ∙ no_conditions 256 c.in_ok-new.field-0
