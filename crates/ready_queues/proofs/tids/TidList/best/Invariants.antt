use Rattle.std.proofs.Common.{◌≡◌, take}
use Rattle.thread_base.specs.Priority.{first_greatest}
use Rattle.thread_base.specs.Maps.{numbered}
use Rattle.ready_queues.proofs.tids.TidList.best.Given as goal

abbrev pub invariant-loop-t : goal.invariant-loop-t
invariant-loop-t l = l.best ≡ first_greatest (numbered 0 l.levels) (take l.t-index l.t-items)
