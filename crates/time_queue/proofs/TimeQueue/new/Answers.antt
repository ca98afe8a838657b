use Rattle.std.proofs.Common.{None}
use Rattle.thread_base.proofs.MapLemmas.{numbered_blank}
use Rattle.time_queue.proofs.TimeQueue.new.Goals as goal

pub returns : goal.returns
returns c = numbered_blank None 64
