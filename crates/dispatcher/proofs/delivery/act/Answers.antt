use Rattle.std.proofs.Common.{◌≡◌, ◌∙◌, ap, sym, subst}
use Rattle.thread_base.specs.declared.action.Action.TheVariants.{Default, Handler}
use Rattle.posix_model.specs.Deliveries.{by_action}
use Rattle.posix_model.specs.declared.Head.TheVariants.{Deliver}
use Rattle.kernel_state.specs.View.{view}
use Rattle.kernel_state.specs.declared.tables.Tables.{Tables}
use Rattle.dispatcher.specs.Delivering.{ComesTo}
use Rattle.dispatcher.proofs.WaitLemmas.{same_action}
use Rattle.dispatcher.proofs.DeliverLemmas.{ends}
use Rattle.dispatcher.proofs.delivery.act.Goals as goal

pub returns-in-Default-clause-noted : goal.returns-in-Default-clause-noted
returns-in-Default-clause-noted g c = λ first s noted taken room.
    let order = g.R.Ready.order in
    let k = c.args.k.now in
    let t = c.args.t in
    let sig = c.args.s in
    let q = c.note_more.new.self in
    let acts : s.actions sig ≡ Default =
    same_action (view order k.tables) s sig taken ∙ sym (c.action.ensures ∙ ap (λ (x : Tables _). (view order x).actions sig) c.tables.ensures.tables) ∙ c.in-Default.is in
    subst (λ action. ComesTo order first q t (Deliver c.number.result sig c.args.count) (by_action s t sig c.args.count action)) (sym acts)
    (ends order first s t c.number.result sig c.args.count c.number.ensures.value k q noted c.note_more.ensures.noted)

pub returns-in-Handler-clause-noted : goal.returns-in-Handler-clause-noted
returns-in-Handler-clause-noted g c = λ first s noted taken room.
    let order = g.R.Ready.order in
    let t = c.args.t in
    let sig = c.args.s in
    let acts : s.actions sig ≡ Handler c.in-Handler.at c.in-Handler.mask =
    same_action (view order c.args.k.now.tables) s sig taken ∙ sym (c.action.ensures ∙ ap (λ (x : Tables _). (view order x).actions sig) c.tables.ensures.tables) ∙ c.in-Handler.is in
    subst (λ action. ComesTo order first c.handle.new.k t c.handle.result (by_action s t sig c.args.count action)) (sym acts)
    (c.handle.ensures.noted first s noted taken room)
