use Rattle.std.proofs.Common.{sym, subst}
use Rattle.kernel_state.specs.Begun.{CanStart}
use Rattle.kernel_state.proofs.KernelLemmas.{sound_begun}
use Rattle.kernel_state.proofs.kernel.Kernel.begin_arrival.Goals as goal

pub invariant_of-self : goal.invariant_of-self
invariant_of-self g c =
    let can = subst (CanStart g.R.Ready.order) (sym c.self.view_is) c.requires in
    sound_begun g.R.Ready.order g.R.Ready.prio _ c.self.invariant _ can.some can.can can.good
