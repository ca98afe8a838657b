use Rattle.thread_base.proofs.MapLemmas.{numbered_blank}
use Rattle.thread_keys.specs.KeyTable.{values_of}
use Rattle.thread_keys.proofs.key.Key.new.Goals as goal

pub returns-clause-values : goal.returns-clause-values
unfolding values_of
returns-clause-values c = numbered_blank 0 64
