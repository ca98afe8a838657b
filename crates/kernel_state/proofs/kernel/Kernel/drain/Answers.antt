use Rattle.std.proofs.Common.{ap, subst}
use Rattle.kernel_state.specs.Kernels.{KernelState}
use Rattle.kernel_state.specs.Outside.{OutsideState}
use Rattle.kernel_state.specs.Presented.{TakesDrained}
use Rattle.kernel_state.proofs.kernel.Kernel.drain.Goals as goal

pub returns-clause-stands : goal.returns-clause-stands
returns-clause-stands g c =
    subst (λ (o : OutsideState). TakesDrained o c.drain.result c.drain.new.self) (ap (λ (k : KernelState _). k.outside) c.self.view_is)
    (λ taken d is stands. c.drain.ensures.stands taken d is (c.gather.ensures.stands taken stands))
