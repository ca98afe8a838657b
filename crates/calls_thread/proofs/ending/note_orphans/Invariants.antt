use Rattle.std.proofs.Common.{◌-◌}
use Rattle.calls_thread.proofs.OrphanLemmas.{HasNotedBelow}
use Rattle.calls_thread.proofs.ending.note_orphans.Given as goal

abbrev pub invariant-loop-m : goal.invariant-loop-m
invariant-loop-m g l = HasNotedBelow g.R.Ready.order l.fn.k l.k l.t l.from

abbrev pub decreases-loop-m : goal.decreases-loop-m
decreases-loop-m g l = 256 - l.from
