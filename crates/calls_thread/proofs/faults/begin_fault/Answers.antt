use Rattle.posix_model.proofs.GoodMoves.{instructions_keep_good}
use Rattle.kernel_state.specs.View.{view}
use Rattle.kernel_state.proofs.KernelLemmas.{rests, can_note}
use Rattle.kernel_state.proofs.NoteLemmas.{can_start}
use Rattle.calls_thread.proofs.faults.begin_fault.Goals as goal

pub note_fault-requires : goal.note_fault-requires
note_fault-requires g c = can_note g.R.Ready.order g.R.Ready.prio c.args.k.now c.tables-sound.ensures.sound c.args.t c.requires

pub begin_move-requires : goal.begin_move-requires
begin_move-requires g c =
    let order = g.R.Ready.order in
    let k = c.args.k.now in
    let good = (rests order g.R.Ready.prio k c.tables-sound.ensures.sound c.requires.idle.main).0 in
    can_start order k c.note_fault.new.k _ c.note_fault.ensures ((instructions_keep_good (view order k.tables) c.args.t good c.requires.first).3 c.args.s)
