use Rattle.std.proofs.Common.{refl}
use Rattle.kernel_state.specs.Records.{left}
use Rattle.kernel_state.specs.View.{view}
use Rattle.kernel_state.proofs.CurrentLemmas.{kept_current, moved_current}
use Rattle.kernel_state.proofs.ViewLemmas.{view_changed, left_base}
use Rattle.kernel_state.proofs.tables.Tables.leave_frame.Goals as goal

pub leave-requires : goal.leave-requires
unfolding view
leave-requires g c = record { there = c.requires }

pub returns-clause-view : goal.returns-clause-view
unfolding view
returns-clause-view g c = view_changed g.R.Ready.order c.args.self.now c.leave.new.self _ c.leave.ensures.threads c.leave.ensures.signals

pub returns-clause-current : goal.returns-clause-current
returns-clause-current g c =
    let k = c.args.self.now in
    λ current.
    moved_current _ _ _ _ refl (returns-clause-view g c)
    (kept_current (view g.R.Ready.order k) c.args.t (left ((view g.R.Ready.order k).threads c.args.t)) (g.R.Ready.prio k.ready) (left_base _) current)
