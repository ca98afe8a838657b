use Rattle.std.proofs.Common.{refl}
use Rattle.kernel_state.specs.Records.{thread_in}
use Rattle.kernel_state.specs.View.{view}
use Rattle.kernel_state.proofs.CurrentLemmas.{away_current, moved_current}
use Rattle.kernel_state.proofs.ViewLemmas.{view_changed}
use Rattle.kernel_state.proofs.tables.Tables.put_away.Goals as goal

pub put-requires : goal.put-requires
unfolding view
put-requires g c = c.requires.there

pub returns-clause-view : goal.returns-clause-view
unfolding view
returns-clause-view g c = view_changed g.R.Ready.order c.args.self.now c.put.new.self _ c.put.ensures.threads c.put.ensures.signals

pub returns-clause-current : goal.returns-clause-current
returns-clause-current g c =
    let k = c.args.self.now in
    λ current.
    moved_current _ _ _ _ refl (returns-clause-view g c)
    (away_current (view g.R.Ready.order k) c.args.t (thread_in c.args.known ((view g.R.Ready.order k).threads c.args.t).frames) (g.R.Ready.prio k.ready) c.requires.away current)
