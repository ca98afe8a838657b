use Rattle.std.proofs.Common.{refl}
use Rattle.kernel_state.specs.View.{view, with_ready}
use Rattle.kernel_state.proofs.CurrentLemmas.{out_current, moved_current}
use Rattle.kernel_state.proofs.tables.Tables.take_out.Goals as goal

pub returns-clause-current : goal.returns-clause-current
unfolding view
returns-clause-current g c =
    let k = c.args.self.now in
    let s = view g.R.Ready.order k in
    λ current.
    moved_current _ _ _ _ refl (λ i. with_ready s (c.remove.ensures.order i))
    (out_current s c.args.t (g.R.Ready.prio k.ready) (g.R.Ready.prio c.remove.new.self) c.remove.ensures.prio current)
