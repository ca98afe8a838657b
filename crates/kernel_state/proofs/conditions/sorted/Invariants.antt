use Rattle.std.proofs.Common.{◌≡◌, ◌+◌, drop, length}
use Rattle.thread_base.specs.Maps.{numbered}
use Rattle.posix_model.specs.Conditions.{in_order}
use Rattle.kernel_state.proofs.conditions.sorted.Given as goal

abbrev pub invariant-loop-index : goal.invariant-loop-index
invariant-loop-index l =
    (l.order.items ≡ in_order (numbered 0 l.levels) (drop l.index l.threads)) × (length l.order.items + l.index ≡ length l.threads)

abbrev pub decreases-loop-index : goal.decreases-loop-index
decreases-loop-index l = l.index
