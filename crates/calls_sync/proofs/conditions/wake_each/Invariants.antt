use Rattle.std.proofs.Common.{◌≡◌, ◌*◌, take, length}
use Rattle.posix_model.specs.Changes.{begun}
use Rattle.posix_model.specs.Conditions.{wake_all}
use Rattle.kernel_state.specs.View.{view}
use Rattle.kernel_state.specs.Begun.{HasNoted}
use Rattle.calls_sync.proofs.conditions.wake_each.Given as goal

abbrev pub invariant-loop-number : goal.invariant-loop-number
invariant-loop-number g l =
    HasNoted g.R.Ready.order l.fn.k l.k (wake_all (begun (view g.R.Ready.order l.fn.k.tables)) (take l.number-index l.wake_order))
    × (length l.k.rest.noted.items ≡ 2 * l.number-index)
