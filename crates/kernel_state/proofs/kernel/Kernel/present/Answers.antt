use Rattle.std.proofs.Common.{ap, subst}
use Rattle.kernel_state.specs.Kernels.{KernelState}
use Rattle.kernel_state.specs.Outside.{OutsideState}
use Rattle.kernel_state.specs.Presented.{KeepsStanding}
use Rattle.kernel_state.proofs.kernel.Kernel.present.Goals as goal

pub returns-clause-stands : goal.returns-clause-stands
returns-clause-stands g c =
    subst (λ (o : OutsideState). KeepsStanding o c.present.new.self) (ap (λ (k : KernelState _). k.outside) c.self.view_is) c.present.ensures.stands
