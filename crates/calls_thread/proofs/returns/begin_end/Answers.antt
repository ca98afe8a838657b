use Rattle.rv_exec.specs.declared.Special.TheVariants.{Cleanup}
use Rattle.posix_model.specs.Leaving.{end_of_thread}
use Rattle.kernel_state.specs.View.{view}
use Rattle.kernel_state.proofs.KernelLemmas.{rests, can_note}
use Rattle.kernel_state.proofs.SteadyLemmas.{ends_at_once}
use Rattle.kernel_state.proofs.ViewLemmas.{view_plain}
use Rattle.calls_thread.proofs.ReturnLemmas.{return_starts, return_begun}
use Rattle.calls_thread.proofs.returns.begin_end.Goals as goal

pub note_end-requires : goal.note_end-requires
note_end-requires g c = can_note g.R.Ready.order g.R.Ready.prio c.args.k.now c.tables-sound.ensures.sound c.args.t c.requires.ready

pub begin_move-requires : goal.begin_move-requires
begin_move-requires g c =
    let order = g.R.Ready.order in
    let k = c.args.k.now in
    let s = view order k.tables in
    let t = c.args.t in
    return_starts order k c.note_end.new.k t Cleanup (end_of_thread s t c.args.value) c.note_end.ensures
    (ends_at_once s t c.args.value 0 0 (view_plain order k.tables) c.requires.bare c.requires.phase)
    (rests order g.R.Ready.prio k c.tables-sound.ensures.sound c.requires.ready.idle.main).0 c.requires.ready.first

pub returns : goal.returns
returns g c =
    let order = g.R.Ready.order in
    let k = c.args.k.now in
    let s = view order k.tables in
    let t = c.args.t in
    return_begun order k c.note_end.new.k t Cleanup (end_of_thread s t c.args.value) c.note_end.ensures
    (ends_at_once s t c.args.value 0 0 (view_plain order k.tables) c.requires.bare c.requires.phase)
    c.begin_move.new.self c.begin_move.ensures
