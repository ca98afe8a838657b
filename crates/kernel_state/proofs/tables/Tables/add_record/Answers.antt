use Rattle.std.proofs.Common.{◌∙◌, sym, refl, []}
use Rattle.kernel_state.specs.Records.{thread_in}
use Rattle.kernel_state.specs.View.{view}
use Rattle.kernel_state.proofs.CurrentLemmas.{away_current, moved_current}
use Rattle.kernel_state.proofs.ViewLemmas.{view_changed, view_free}
use Rattle.kernel_state.proofs.tables.Tables.add_record.Goals as goal

pub add-requires : goal.add-requires
add-requires g c = sym (view_free g.R.Ready.order c.args.self.now) ∙ c.requires

pub returns-clause-view : goal.returns-clause-view
unfolding view
returns-clause-view g c = view_changed g.R.Ready.order c.args.self.now c.add.new.self _ c.add.ensures.threads c.add.ensures.signals

pub returns-clause-current : goal.returns-clause-current
returns-clause-current g c =
    let k = c.args.self.now in
    λ away current.
    moved_current _ _ _ _ refl (returns-clause-view g c)
    (away_current (view g.R.Ready.order k) c.args.t (thread_in c.args.known []) (g.R.Ready.prio k.ready) away current)
