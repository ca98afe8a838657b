use Rattle.std.proofs.Common.{refl}
use Rattle.posix_model.specs.State.{no_thread}
use Rattle.kernel_state.specs.View.{view}
use Rattle.kernel_state.proofs.CurrentLemmas.{away_current, moved_current}
use Rattle.kernel_state.proofs.ViewLemmas.{view_changed}
use Rattle.kernel_state.proofs.tables.Tables.remove_record.Goals as goal

pub remove-requires : goal.remove-requires
unfolding view
remove-requires g c = c.requires

pub returns-clause-view : goal.returns-clause-view
unfolding view
returns-clause-view g c = view_changed g.R.Ready.order c.args.self.now c.remove.new.self _ c.remove.ensures.threads c.remove.ensures.signals

pub returns-clause-current : goal.returns-clause-current
returns-clause-current g c =
    let k = c.args.self.now in
    λ away current. moved_current _ _ _ _ refl (returns-clause-view g c) (away_current (view g.R.Ready.order k) c.args.t no_thread (g.R.Ready.prio k.ready) away current)
