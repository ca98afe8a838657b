use Rattle.rv_exec.specs.declared.Special.TheVariants.{Start}
use Rattle.std.specs.Prelude.{slice_index}
use Rattle.posix_model.specs.Changes.{begun}
use Rattle.posix_model.specs.Leaving.{exit_with}
use Rattle.kernel_state.specs.View.{view}
use Rattle.kernel_state.proofs.KernelLemmas.{rests, can_note}
use Rattle.calls_thread.proofs.ReturnLemmas.{starts_exit, return_starts}
use Rattle.calls_thread.proofs.returns.begin_exit.Goals as goal

pub note_exit-requires : goal.note_exit-requires
note_exit-requires g c = can_note g.R.Ready.order g.R.Ready.prio c.args.k.now c.tables-sound.ensures.sound c.args.t c.requires.ready

pub begin_move-requires : goal.begin_move-requires
begin_move-requires g c =
    let order = g.R.Ready.order in
    let k = c.args.k.now in
    let s = view order k.tables in
    let t = c.args.t in
    return_starts order k c.note_exit.new.k t Start (begun (exit_with s t (slice_index (s.threads t).registers.x 10))) c.note_exit.ensures (starts_exit s t c.requires.bare c.requires.phase)
    (rests order g.R.Ready.prio k c.tables-sound.ensures.sound c.requires.ready.idle.main).0 c.requires.ready.first
