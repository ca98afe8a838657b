use Rattle.std.proofs.Common.{◌-◌}
use Rattle.calls_thread.proofs.DropLemmas.{HasNotedDrops}
use Rattle.calls_thread.proofs.ending.note_drops.Given as goal

abbrev pub invariant-loop-s : goal.invariant-loop-s
invariant-loop-s g l = HasNotedDrops g.R.Ready.order l.fn.k l.k l.t l.from

abbrev pub decreases-loop-s : goal.decreases-loop-s
decreases-loop-s g l = 32 - l.from
