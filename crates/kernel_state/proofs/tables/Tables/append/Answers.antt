use Rattle.std.proofs.Common.{refl}
use Rattle.kernel_state.specs.View.{view, with_ready}
use Rattle.kernel_state.proofs.CurrentLemmas.{come_current, moved_current}
use Rattle.kernel_state.proofs.tables.Tables.append.Goals as goal

pub returns-clause-current : goal.returns-clause-current
unfolding view
returns-clause-current g c =
    let k = c.args.self.now in
    let s = view g.R.Ready.order k in
    let range = c.number-in_range.ensures.range in
    λ current.
    moved_current _ _ _ _ refl (λ i. with_ready s (c.append.ensures.order i))
    (come_current s c.args.t c.args.base (g.R.Ready.prio k.ready) (g.R.Ready.prio c.append.new.self) range.0 range.1 c.requires.base c.append.ensures.prio current)
