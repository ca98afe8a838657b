use Rattle.std.proofs.Common.{◌≡◌, ◌∙◌, ap, sym, subst, rules, true, false, Some}
use Rattle.posix_model.specs.State.{State, Thread, wait_of, target, is_at_condition}
use Rattle.posix_model.specs.Deliveries.{may_take}
use Rattle.posix_model.specs.declared.Wait.TheVariants.{Cond}
use Rattle.kernel_state.specs.View.{view}
use Rattle.kernel_state.specs.declared.tables.Tables.{Tables}
use Rattle.dispatcher.specs.Delivering.{ComesTo}
use Rattle.dispatcher.proofs.WaitLemmas.{waits_still, same_thread}
use Rattle.dispatcher.proofs.TakeLemmas.{open_there, open_room}
use Rattle.dispatcher.proofs.DeliverLemmas.{handled_later, enters}
use Rattle.dispatcher.proofs.delivery.handle.Goals as goal

pub returns-in-Some-Cond-clause-noted : goal.returns-in-Some-Cond-clause-noted
returns-in-Some-Cond-clause-noted g c = λ first s noted taken room.
    let order = g.R.Ready.order in
    let before : State = view order c.args.k.now.tables in
    let t = c.args.t in
    let known = c.wait.ensures ∙ ap (λ (x : Thread). wait_of x.standing) (c.known.ensures ∙ ap (λ (x : Tables _). (view order x).threads t) c.tables.ensures.tables) in
    let cond = Cond c.in-Some-Cond.cond c.in-Some-Cond.mutex c.in-Some-Cond.field-0-2 c.in-Some-Cond.field-0-3 in
    let has : c.wait.result ≡ Some cond = subst (λ w. c.wait.result ≡ Some w) c.in-Some-Cond.field-0-is c.in-Some-Cond.is in
    let waits = waits_still before s t cond taken (sym known ∙ has) in
    subst (ComesTo order first c.interrupt.new.k t c.interrupt.result) (handled_later s t c.args.s c.args.count c.args.at c.args.mask c.in-Some-Cond.cond (ap target waits))
    (c.interrupt.ensures.noted first s noted taken room)

pub returns-in_default-clause-noted : goal.returns-in_default-clause-noted
returns-in_default-clause-noted g c = λ first s noted taken room.
    let order = g.R.Ready.order in
    let before : State = view order c.args.k.now.tables in
    let t = c.args.t in
    let apart : is_at_condition (target (before.threads t).standing) ≡ false = search rules in
    let same = same_thread before s t taken in
    let may = subst (λ (x : Thread). may_take x ≡ true) (sym same) c.requires.open in
    enters order first s t c.number.result c.args.s c.args.count c.number.ensures.value c.end_wait.new.k c.note_more.new.self c.args.at c.args.mask
    (ap (λ (x : Thread). is_at_condition (target x.standing)) same ∙ apart) (open_there (s.threads t) may) (open_room (s.threads t) may)
    (c.end_wait.ensures.noted first s noted taken) c.note_more.ensures.noted
