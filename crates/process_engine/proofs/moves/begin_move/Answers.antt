use Rattle.std.proofs.Common.{subst}
use Rattle.rv_exec.specs.Meaning.{Calls, Faults, Returns}
use Rattle.kernel_state.specs.Executing.{HasExecuted}
use Rattle.kernel_state.specs.View.{view}
use Rattle.process_engine.proofs.InstructionLemmas.{call_main, fault_main, return_main, by_event, begun_by}
use Rattle.process_engine.proofs.moves.begin_move.Goals as goal

pub returns-in-Ecall : goal.returns-in-Ecall
returns-in-Ecall g c =
    let s = view g.R.Ready.order c.args.k.now.tables in
    let told = subst (λ e. HasExecuted s c.args.t e s) c.in-Ecall.is c.requires.event in
    begun_by g.R.Ready.order c.args.k.now c.begin_call.new.k _ _ c.requires.untold c.begin_call.ensures (call_main s c.args.t _ _) (by_event s c.args.t Calls told.0)

pub returns-in-Fault : goal.returns-in-Fault
returns-in-Fault g c =
    let s = view g.R.Ready.order c.args.k.now.tables in
    let told = subst (λ e. HasExecuted s c.args.t e s) c.in-Fault.is c.requires.event in
    begun_by g.R.Ready.order c.args.k.now c.begin_fault.new.k _ _ c.requires.untold c.begin_fault.ensures (fault_main _) (by_event s c.args.t (Faults _) told.0)

pub returns-in-Return : goal.returns-in-Return
returns-in-Return g c =
    let s = view g.R.Ready.order c.args.k.now.tables in
    let told = subst (λ e. HasExecuted s c.args.t e s) c.in-Return.is c.requires.event in
    begun_by g.R.Ready.order c.args.k.now c.begin_return.new.k _ _ c.requires.untold c.begin_return.ensures (return_main s c.args.t c.in-Return.which) (by_event s c.args.t (Returns _) told.0)
