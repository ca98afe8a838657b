use Rattle.std.proofs.Common.{ap, arith, length}
use Rattle.posix_model.specs.Changes.{begun}
use Rattle.kernel_state.specs.View.{view}
use Rattle.kernel_state.specs.declared.change.Change.{Change}
use Rattle.kernel_state.proofs.NoteLemmas.{noted_none, noted_two}
use Rattle.kernel_state.proofs.kernel.Kernel.note_two.Goals as goal

pub note_more-requires-clause-room : goal.note_more-requires-clause-room
note_more-requires-clause-room g c = let e = ap (length {A = Change}) c.requires.ready.idle.rest.none in omega (arith, e)

pub returns : goal.returns
returns g c =
    let k = c.args.self.now in
    noted_two g.R.Ready.order k k (begun (view g.R.Ready.order k.tables)) (noted_none g.R.Ready.order k c.requires.ready.idle c.requires.ready.untold)
    c.note_more.new.self c.args.first c.note_more.ensures.noted c.requires.first
    c.note_more-2.new.self c.args.second c.note_more-2.ensures.noted c.requires.second
