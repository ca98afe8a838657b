use Rattle.std.proofs.Common.{sym, subst}
use Rattle.kernel_state.specs.Begun.{CanNote}
use Rattle.kernel_state.proofs.KernelLemmas.{can_note}
use Rattle.calls_thread.proofs.tests.prepare.Goals as goal

pub note_one-requires-clause-ready : goal.note_one-requires-clause-ready
note_one-requires-clause-ready g c =
    let order = g.R.Ready.order in
    let k = c.args.k.now in
    subst (CanNote order k) (sym c.at-thread.ensures) (can_note order g.R.Ready.prio k c.tables-sound.ensures.sound 1 c.requires.ready)
