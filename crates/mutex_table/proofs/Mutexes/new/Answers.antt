use Rattle.std.proofs.Common.{◌∙◌, ap}
use Rattle.mutex_table.specs.MutexMap.{mutexes}
use Rattle.mutex_table.proofs.MutexLemmas.{no_mutexes}
use Rattle.mutex_table.proofs.Mutexes.new.Goals as goal

pub returns : goal.returns
returns c = ap (λ states. mutexes (record { states = states; queues = c.in_ok-new.field-0 })) c.in-Ok.ensures.items ∙ no_mutexes 256 c.in_ok-new.field-0
