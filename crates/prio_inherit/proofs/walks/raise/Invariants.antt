use Rattle.std.proofs.Common.{◌≡◌, None, length}
use Rattle.thread_base.specs.Maps.{numbered}
use Rattle.prio_inherit.specs.Priorities.{IsChanged}
use Rattle.prio_inherit.proofs.RaiseLemmas.{Rising, below_all}
use Rattle.prio_inherit.proofs.walks.raise.Given as goal

abbrev pub invariant-loop-next : goal.invariant-loop-next
invariant-loop-next l = record {
  sized : length l.prios ≡ 64;
  rising : Rising (numbered None l.edges) (numbered 0 l.fn.prios) (numbered 0 l.prios) l.fn.from l.next l.p;
  changed : IsChanged l.raised (numbered 0 l.fn.prios) (numbered 0 l.prios);
}

abbrev pub decreases-loop-next : goal.decreases-loop-next
decreases-loop-next l = below_all (numbered 0 l.prios) l.p
