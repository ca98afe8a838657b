use Rattle.std.proofs.Common.{◌≡◌, length}
use Rattle.kernel_state.specs.View.{outcome, StayCurrent}
use Rattle.kernel_state.specs.Changing.{AllCan, owed}
use Rattle.kernel_state.specs.Kernels.{remaining}
use Rattle.kernel_state.proofs.kernel.Kernel.finish.Given as goal

abbrev pub invariant-loop-self : goal.invariant-loop-self
invariant-loop-self g l =
    (owed (outcome g.R.Ready.order l.self-inside.tables) (remaining l.self-inside.rest) ≡ owed (outcome g.R.Ready.order l.fn.self.tables) (remaining l.fn.self.rest))
    × AllCan (outcome g.R.Ready.order l.self-inside.tables) (remaining l.self-inside.rest)
    × (l.self-inside.main ≡ l.fn.self.main)
    × (l.self-inside.settings ≡ l.fn.self.settings)
    × StayCurrent g.R.Ready.order g.R.Ready.prio l.fn.self.tables l.self-inside.tables
    × (l.self-inside.outside ≡ l.fn.self.outside)

abbrev pub decreases-loop-self : goal.decreases-loop-self
decreases-loop-self g l = length (remaining l.self-inside.rest)
