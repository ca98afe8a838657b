use Rattle.std.proofs.Common.{refl}
use Rattle.kernel_state.specs.View.{view}
use Rattle.kernel_state.proofs.CurrentLemmas.{moved_current}
use Rattle.kernel_state.proofs.ViewLemmas.{view_changed}
use Rattle.kernel_state.proofs.tables.Tables.place.Goals as goal

pub returns-clause-view : goal.returns-clause-view
unfolding view
returns-clause-view g c = view_changed g.R.Ready.order c.args.self.now c.place.new.self _ c.place.ensures.threads c.place.ensures.signals

pub returns-clause-current : goal.returns-clause-current
returns-clause-current g c = λ current. moved_current _ _ _ _ refl (returns-clause-view g c) current
