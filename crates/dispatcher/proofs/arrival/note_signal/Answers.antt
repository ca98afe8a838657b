use Rattle.std.proofs.Common.{◌∙◌, ap, sym, subst}
use Rattle.thread_base.specs.Actions.{ignores}
use Rattle.thread_base.specs.declared.action.Action.{Action}
use Rattle.kernel_state.specs.View.{view}
use Rattle.kernel_state.specs.Begun.{HasNotedSome}
use Rattle.kernel_state.specs.declared.tables.Tables.{Tables}
use Rattle.dispatcher.proofs.ArrivalLemmas.{comes_kill, comes_ignored, comes_pending}
use Rattle.dispatcher.proofs.arrival.note_signal.Goals as goal

pub returns-then-number-eq-KILL-clause-comes : goal.returns-then-number-eq-KILL-clause-comes
returns-then-number-eq-KILL-clause-comes g c = λ first before noted can.
    subst (HasNotedSome g.R.Ready.order first c.note_more.new.self) (comes_kill before c.args.s c.args.count (sym c.number.ensures.value ∙ c.if-number-eq-KILL.true))
    (c.note_more.ensures.noted first before noted tt)

pub returns-then-ignores-clause-comes : goal.returns-then-ignores-clause-comes
returns-then-ignores-clause-comes g c = λ first before noted can.
    let order = g.R.Ready.order in
    let action = c.action.ensures ∙ ap (λ (x : Tables _). (view order x).actions c.args.s) c.tables.ensures.tables ∙ sym (ap (λ (f : _ → Action). f c.args.s) can.actions) in
    let is = sym (ap (λ (a : Action). ignores a c.args.s) action) ∙ sym c.ignores.ensures ∙ c.if-ignores.true in
    subst (HasNotedSome order first c.note_more-then-ignores.new.self) (comes_ignored before c.args.s c.args.count (λ e. c.if-number-eq-KILL.false (c.number.ensures.value ∙ e)) is)
    (c.note_more-then-ignores.ensures.noted first before noted can.drops)

pub returns-else-ignores-clause-comes : goal.returns-else-ignores-clause-comes
returns-else-ignores-clause-comes g c = λ first before noted can.
    let order = g.R.Ready.order in
    let action = c.action.ensures ∙ ap (λ (x : Tables _). (view order x).actions c.args.s) c.tables.ensures.tables ∙ sym (ap (λ (f : _ → Action). f c.args.s) can.actions) in
    let un = sym (ap (λ (a : Action). ignores a c.args.s) action) ∙ sym c.ignores.ensures ∙ c.if-ignores.false in
    subst (HasNotedSome order first c.note_more-else-ignores.new.self) (comes_pending before c.args.s c.args.count (λ e. c.if-number-eq-KILL.false (c.number.ensures.value ∙ e)) un)
    (c.note_more-else-ignores.ensures.noted first before noted can.few)
