use Rattle.std.proofs.Common.{refl, []}
use Rattle.kernel_state.specs.Records.{thread_in}
use Rattle.kernel_state.specs.View.{view}
use Rattle.kernel_state.proofs.CurrentLemmas.{kept_current, moved_current}
use Rattle.kernel_state.proofs.ViewLemmas.{view_changed}
use Rattle.kernel_state.proofs.tables.Tables.put_bare.Goals as goal

pub put_bare-requires : goal.put_bare-requires
unfolding view
put_bare-requires g c = c.requires

pub returns-clause-view : goal.returns-clause-view
unfolding view
returns-clause-view g c = view_changed g.R.Ready.order c.args.self.now c.put_bare.new.self _ c.put_bare.ensures.threads c.put_bare.ensures.signals

pub returns-clause-current : goal.returns-clause-current
returns-clause-current g c =
    let k = c.args.self.now in
    λ base current.
    moved_current _ _ _ _ refl (returns-clause-view g c)
    (kept_current (view g.R.Ready.order k) c.args.t (thread_in c.args.known []) (g.R.Ready.prio k.ready) base current)
