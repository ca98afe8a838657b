use Rattle.std.proofs.Common.{◌≡◌, None, length}
use Rattle.thread_base.specs.Maps.{numbered}
use Rattle.prio_inherit.proofs.SettleLemmas.{Settling}
use Rattle.prio_inherit.proofs.walks.settle.Given as goal

abbrev pub invariant-loop-index : goal.invariant-loop-index
invariant-loop-index l = record {
  sized : length l.prios ≡ 64;
  settling : Settling (numbered None l.edges) (numbered 0 l.fn.prios) (numbered 0 l.prios) l.index;
}
