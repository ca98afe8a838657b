use Rattle.std.proofs.Common.{◌≡◌, ◌∙◌, ap, sym, subst, true, false}
use Rattle.thread_base.specs.Deliveries.{waits_for}
use Rattle.posix_model.specs.State.{Thread, target, set_at}
use Rattle.posix_model.specs.Deliveries.{awaited}
use Rattle.kernel_state.specs.Begun.{NotesMore}
use Rattle.kernel_state.specs.View.{view}
use Rattle.kernel_state.specs.declared.change.Change.TheVariants.{Thread as OfThread}
use Rattle.kernel_state.specs.declared.change.ThreadChange.TheVariants.{Answer}
use Rattle.kernel_state.specs.declared.tables.Tables.{Tables}
use Rattle.dispatcher.specs.Delivering.{ComesTo}
use Rattle.dispatcher.proofs.WaitLemmas.{same_thread}
use Rattle.dispatcher.proofs.DeliverLemmas.{accepts, acted}
use Rattle.dispatcher.proofs.delivery.give.Goals as goal

pub returns-then-awaits-clause-noted : goal.returns-then-awaits-clause-noted
returns-then-awaits-clause-noted g c = λ first s noted taken room.
    let order = g.R.Ready.order in
    let k = c.args.k.now in
    let t = c.args.t in
    let sig = c.args.s in
    let q = c.note_more.new.self in
    let waits : waits_for (awaited s t) sig ≡ true =
    ap (λ (x : Thread). waits_for (set_at (target x.standing)) sig)
    (same_thread (view order k.tables) s t taken ∙ sym (c.known.ensures ∙ ap (λ (x : Tables _). (view order x).threads t) c.tables.ensures.tables))
    ∙ sym c.awaits.ensures ∙ c.if-awaits.true in
    accepts order first s t c.number.result sig c.args.count c.number.ensures.value k q noted taken.good waits
    (subst (λ n. NotesMore order k q (OfThread t (Answer 0 n))) c.number-value.ensures.value c.note_more.ensures.noted)

pub returns-clause-noted : goal.returns-clause-noted
returns-clause-noted g c = λ first s noted taken room.
    let order = g.R.Ready.order in
    let t = c.args.t in
    let sig = c.args.s in
    let waits : waits_for (awaited s t) sig ≡ false =
    ap (λ (x : Thread). waits_for (set_at (target x.standing)) sig)
    (same_thread (view order c.args.k.now.tables) s t taken ∙ sym (c.known.ensures ∙ ap (λ (x : Tables _). (view order x).threads t) c.tables.ensures.tables))
    ∙ sym c.awaits.ensures ∙ c.if-awaits.false in
    subst (ComesTo order first c.act.new.k t c.act.result) (acted s t sig c.args.count waits) (c.act.ensures.noted first s noted taken room)
