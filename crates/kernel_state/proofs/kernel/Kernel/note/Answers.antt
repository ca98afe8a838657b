use Rattle.std.proofs.Common.{◌∙◌, ap}
use Rattle.kernel_state.specs.Kernels.{KernelState}
use Rattle.kernel_state.proofs.KernelLemmas.{sound_noted}
use Rattle.kernel_state.proofs.kernel.Kernel.note.Goals as goal

pub invariant_of-self : goal.invariant_of-self
invariant_of-self g c =
    let idle = ap (λ (x : KernelState _). x.main) c.self.view_is ∙ c.requires.idle in
    sound_noted g.R.Ready.order g.R.Ready.prio _ c.self.invariant _ idle
