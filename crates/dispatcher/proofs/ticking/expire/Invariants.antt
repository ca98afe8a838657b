use Rattle.std.proofs.Common.{◌-◌}
use Rattle.dispatcher.proofs.TickNotes.{HasExpiredBelow}
use Rattle.dispatcher.proofs.ticking.expire.Given as goal

abbrev pub invariant-loop-t : goal.invariant-loop-t
invariant-loop-t g l = HasExpiredBelow g.R.Ready.order l.fn.k l.k l.from

abbrev pub decreases-loop-t : goal.decreases-loop-t
decreases-loop-t g l = 65 - l.from
