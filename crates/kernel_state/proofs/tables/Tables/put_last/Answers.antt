use Rattle.std.proofs.Common.{refl}
use Rattle.kernel_state.specs.View.{view, with_ready}
use Rattle.kernel_state.proofs.CurrentLemmas.{last_current, moved_current}
use Rattle.kernel_state.proofs.tables.Tables.put_last.Goals as goal

pub returns-clause-current : goal.returns-clause-current
unfolding view
returns-clause-current g c =
    let k = c.args.self.now in
    let s = view g.R.Ready.order k in
    λ current.
    moved_current _ _ _ _ refl (λ i. with_ready s (c.to_tail.ensures.order i))
    (last_current s c.args.t (g.R.Ready.prio k.ready) (g.R.Ready.prio c.to_tail.new.self) c.requires c.to_tail.ensures.prio current)
