use Rattle.std.proofs.Common.{◌∙◌, ap, sym, refl, Bool, Some}
use Rattle.std.specs.Prelude.{if◌then◌else◌}
use Rattle.posix_model.specs.State.{State}
use Rattle.posix_model.specs.declared.Ending.TheVariants.{Exit}
use Rattle.kernel_state.specs.View.{view}
use Rattle.kernel_state.proofs.CurrentLemmas.{alike}
use Rattle.kernel_state.proofs.tables.Tables.end_with_last.Goals as goal

pub returns-then-not-some_live-clause-view : goal.returns-then-not-some_live-clause-view
unfolding view
returns-then-not-some_live-clause-view g c =
    let s : State = view g.R.Ready.order c.args.self.now in
    ap (λ (b : Bool). if b then s else record s { over = Some (Exit 0) }) (sym c.if-not-some_live.true ∙ c.some_live.ensures)

pub returns-then-not-some_live-clause-current : goal.returns-then-not-some_live-clause-current
unfolding view
returns-then-not-some_live-clause-current g c =
    let k = c.args.self.now in
    alike (view g.R.Ready.order k) (view g.R.Ready.order (record k { over = Some (Exit 0) })) (g.R.Ready.prio k.ready) (g.R.Ready.prio k.ready) refl refl refl
