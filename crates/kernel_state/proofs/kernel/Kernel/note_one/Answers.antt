use Rattle.std.proofs.Common.{ap, arith, length}
use Rattle.posix_model.specs.Changes.{begun}
use Rattle.kernel_state.specs.View.{view}
use Rattle.kernel_state.specs.declared.change.Change.{Change}
use Rattle.kernel_state.proofs.NoteLemmas.{noted_none}
use Rattle.kernel_state.proofs.kernel.Kernel.note_one.Goals as goal

pub note_more-requires-clause-room : goal.note_more-requires-clause-room
note_more-requires-clause-room g c = let e = ap (length {A = Change}) c.requires.ready.idle.rest.none in omega (arith, e)

pub returns : goal.returns
returns g c =
    let k = c.args.self.now in
    c.note_more.ensures.noted k (begun (view g.R.Ready.order k.tables)) (noted_none g.R.Ready.order k c.requires.ready.idle c.requires.ready.untold) c.requires.can
