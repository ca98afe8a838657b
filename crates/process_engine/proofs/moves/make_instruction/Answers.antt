use Rattle.std.proofs.Common.{◌∙◌, ap, sym, subst}
use Rattle.posix_model.specs.Instructions.{instruction}
use Rattle.kernel_state.specs.Executing.{HasExecuted}
use Rattle.kernel_state.specs.Begun.{CanBegin}
use Rattle.kernel_state.specs.Kernels.{KernelState}
use Rattle.kernel_state.specs.View.{view}
use Rattle.kernel_state.specs.declared.tables.Tables.{Tables}
use Rattle.kernel_state.proofs.KernelLemmas.{rests}
use Rattle.process_engine.specs.Advancing.{BeginsInstruction}
use Rattle.process_engine.proofs.InstructionLemmas.{goes_on, can_begin, stays}
use Rattle.process_engine.proofs.moves.make_instruction.Goals as goal

pub returns-in-Next : goal.returns-in-Next
returns-in-Next g c =
    let after = c.execute.ensures in
    let order = g.R.Ready.order in
    let k = c.args.k.now in
    let l = c.execute.new.self in
    goes_on order k l c.requires.idle c.requires.turn after.placed after.others
    (subst (λ e. HasExecuted (view order k.tables) k.tables.records.placed e (view order l.tables)) c.in-Next.is after.executed)

pub begin_move-requires : goal.begin_move-requires
begin_move-requires g c =
    let after = c.execute.ensures in
    let order = g.R.Ready.order in
    let k = c.args.k.now in
    let l = c.execute.new.self in
    let here = c.placed-t.ensures ∙ ap (λ (x : Tables _). x.records.placed) c.tables.ensures.tables in
    let same = stays (view order k.tables) (view order l.tables) k.tables.records.placed c.execute.result after.executed c.in_default.not-Next in
    let can = can_begin order k l c.requires.idle c.requires.turn after.placed after.others same c.requires.room in
    record {
      ready = subst (CanBegin order l) (sym here) can;
      event = subst (λ t. HasExecuted (view order l.tables) t c.execute.result (view order l.tables)) (sym (here ∙ after.placed))
          (subst (λ s. HasExecuted s k.tables.records.placed c.execute.result (view order l.tables)) (sym same) after.executed);
      asks = c.in_default.not-Next;
      untold = (rests order g.R.Ready.prio l c.tables.ensures.sound can.idle.main).1;
    }

pub returns-in_default : goal.returns-in_default
returns-in_default g c =
    let after = c.execute.ensures in
    let order = g.R.Ready.order in
    let k = c.args.k.now in
    let l = c.execute.new.self in
    let q = c.begin_move.new.k in
    let here = c.placed-t.ensures ∙ ap (λ (x : Tables _). x.records.placed) c.tables.ensures.tables ∙ after.placed in
    let same = stays (view order k.tables) (view order l.tables) k.tables.records.placed c.execute.result after.executed c.in_default.not-Next in
    let begun = subst (BeginsInstruction order l q) (λ i. instruction (same i) (here i)) c.begin_move.ensures in
    let has = begun.0 in (
      record {
        owed = has.owed;
        call = has.call;
        some = has.some;
        few = has.few;
        shown = has.shown ∙ same;
        main = has.main;
        settings = has.settings ∙ ap (λ (x : KernelState _). x.settings) after.others;
        outside = has.outside ∙ ap (λ (x : KernelState _). x.outside) after.others;
      },
      begun.1,
      begun.2,
    )
