use Rattle.std.proofs.Common.{◌≡◌, ◌-◌, None, length}
use Rattle.thread_base.specs.Maps.{numbered}
use Rattle.prio_inherit.proofs.GiveLemmas.{Giving}
use Rattle.prio_inherit.proofs.walks.give_back.Given as goal

abbrev pub invariant-loop-step : goal.invariant-loop-step
invariant-loop-step l = record {
  sized : length l.prios ≡ 64;
  giving : Giving (numbered 0 l.own) (numbered None l.edges) (numbered 0 l.fn.prios) (numbered 0 l.prios) l.fn.from l.at (64 - l._step);
}
