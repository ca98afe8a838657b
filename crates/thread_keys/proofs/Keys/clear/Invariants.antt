use Rattle.std.proofs.Common.{◌≡◌}
use Rattle.thread_base.specs.Maps.{put}
use Rattle.thread_keys.specs.KeyTable.{destructor_of, value_of}
use Rattle.thread_keys.proofs.KeyLemmas.{cleared_below}
use Rattle.thread_keys.proofs.Keys.clear.Given as goal

abbrev pub invariant-loop-slot : goal.invariant-loop-slot
invariant-loop-slot l = record {
  destructors : destructor_of l.slot-items ≡ destructor_of l.initial.slot-items;
  values : value_of l.slot-items ≡ put (value_of l.initial.slot-items) l.t (cleared_below (value_of l.initial.slot-items l.t) l.slot-index);
}
