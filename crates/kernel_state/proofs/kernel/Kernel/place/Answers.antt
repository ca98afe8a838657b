use Rattle.kernel_state.proofs.KernelLemmas.{sound_placed}
use Rattle.kernel_state.proofs.kernel.Kernel.place.Goals as goal

pub invariant_of-self : goal.invariant_of-self
invariant_of-self g c =
    let to = c.place.ensures in
    sound_placed g.R.Ready.order g.R.Ready.prio _ c.self.invariant _ to.view to.report to.current
