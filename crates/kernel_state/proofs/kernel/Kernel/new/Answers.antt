use Rattle.std.proofs.Common.{ap, sym, refl, subst}
use Rattle.posix_model.specs.State.{State}
use Rattle.posix_model.specs.Good.{IsGood}
use Rattle.kernel_state.specs.Begun.{HasRoom}
use Rattle.posix_model.proofs.GoodMoves.{goodness}
use Rattle.kernel_state.proofs.KernelLemmas.{chosen_alone}
use Rattle.kernel_state.proofs.StartLemmas.{start_room}
use Rattle.kernel_state.proofs.kernel.Kernel.new.Goals as goal

pub invariant_of-result : goal.invariant_of-result
invariant_of-result g c =
    let tables = c.in_ok-new.ensures in
    record { current = tables.current; phase = (subst IsGood (sym tables.start) (goodness.0 c.args.memory c.args.entry.0), tables.untold) }

pub returns-clause-ready : goal.returns-clause-ready
returns-clause-ready g c =
    let start = c.in_ok-new.ensures.start in
    record {
      idle = record { main = refl; rest = c.new-2.ensures };
      going_on = ap (λ (s : State). s.over) start;
      few = subst HasRoom (sym start) (start_room c.args.memory c.args.entry.0);
      first = chosen_alone _ 1 (ap (λ (s : State). s.ready) start);
    }
