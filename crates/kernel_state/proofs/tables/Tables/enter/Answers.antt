use Rattle.std.proofs.Common.{refl}
use Rattle.kernel_state.specs.Records.{registers_of, entered}
use Rattle.kernel_state.specs.View.{view}
use Rattle.kernel_state.proofs.CurrentLemmas.{kept_current, moved_current}
use Rattle.kernel_state.proofs.ViewLemmas.{view_changed}
use Rattle.kernel_state.proofs.tables.Tables.enter.Goals as goal

pub enter-requires-clause-there : goal.enter-requires-clause-there
unfolding view
enter-requires-clause-there g c = c.requires.there

pub enter-requires-clause-room : goal.enter-requires-clause-room
unfolding view
enter-requires-clause-room g c = c.requires.room

pub returns-clause-view : goal.returns-clause-view
unfolding view
returns-clause-view g c = view_changed g.R.Ready.order c.args.self.now c.enter.new.self _ c.enter.ensures.threads c.enter.ensures.signals

pub returns-clause-current : goal.returns-clause-current
returns-clause-current g c =
    let k = c.args.self.now in
    λ current.
    moved_current _ _ _ _ refl (returns-clause-view g c)
    (kept_current (view g.R.Ready.order k) c.args.t (entered ((view g.R.Ready.order k).threads c.args.t) c.args.kind (registers_of c.args.regs) c.args.mask) (g.R.Ready.prio k.ready) (refl) current)
