use Rattle.std.proofs.Common.{◌∙◌, ap, sym, subst}
use Rattle.posix_model.specs.State.{State}
use Rattle.kernel_state.specs.Begun.{HasRoom}
use Rattle.kernel_state.proofs.KernelLemmas.{chosen_alone}
use Rattle.calls_thread.proofs.tests.go_on.Goals as goal

pub returns-clause-ready : goal.returns-clause-ready
returns-clause-ready g c = record {
  idle = c.finish-report.ensures.idle;
  going_on = ap (λ (s : State). s.over) c.finish-report.ensures.state ∙ c.requires.alone.0;
  few = subst HasRoom (sym c.finish-report.ensures.state) c.requires.alone.2;
  first = chosen_alone _ 1 (ap (λ (s : State). s.ready) c.finish-report.ensures.state ∙ c.requires.alone.1);
}
