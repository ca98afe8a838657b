use Rattle.thread_base.specs.Maps.{numbered}
use Rattle.prio_inherit.proofs.SetLemmas.{IsChangedTo}
use Rattle.prio_inherit.proofs.walks.changed.Given as goal

abbrev pub invariant-loop-index : goal.invariant-loop-index
invariant-loop-index l = IsChangedTo l.index l.set (numbered 0 l.before) (numbered 0 l.now)
