use Rattle.std.proofs.Common.{◌≡◌, ◌∙◌, ap, sym, subst, refl, Some}
use Rattle.posix_model.specs.State.{Thread, Standing, wait_of, target, waits_on, mutex_with}
use Rattle.posix_model.specs.Arrivals.{expire_at}
use Rattle.posix_model.specs.Conditions.{wake}
use Rattle.posix_model.specs.declared.Wait.TheVariants.{Cond, Sleep}
use Rattle.posix_model.specs.declared.RetakeReply.TheVariants.{Answer}
use Rattle.std.proofs.lemmas.Bool.{eq-eqb}
use Rattle.kernel_state.specs.View.{view}
use Rattle.kernel_state.specs.Begun.{HasNotedSome, NotesMore}
use Rattle.kernel_state.specs.Waking.{WaitsOn}
use Rattle.kernel_state.specs.declared.tables.Tables.{Tables}
use Rattle.dispatcher.proofs.WaitLemmas.{stands}
use Rattle.dispatcher.proofs.TickNotes.{sleep_expires}
use Rattle.dispatcher.proofs.ticking.end_wait.Goals as goal

pub returns-in-Some-Sleep-clause-noted : goal.returns-in-Some-Sleep-clause-noted
returns-in-Some-Sleep-clause-noted g c =
    let order = g.R.Ready.order in
    let k = c.args.k.now in
    let t = c.args.t in
    let until = c.in-Some-Sleep.field-0-0 in
    let known = c.wait.ensures ∙ ap (λ (x : Thread). wait_of x.standing) (c.known.ensures ∙ ap (λ (x : Tables _). (view order x).threads t) c.tables.ensures.tables) in
    let has : c.wait.result ≡ Some (Sleep until) = subst (λ w. c.wait.result ≡ Some w) c.in-Some-Sleep.field-0-is c.in-Some-Sleep.is in
    let waits = stands ((view order k.tables).threads t).standing (Sleep until) (sym known ∙ has) in
    sleep_expires order k c.note_more.new.self t until waits (subst (NotesMore order k c.note_more.new.self) c.of_thread.ensures c.note_more.ensures.noted)

pub returns-in-Some-Cond-clause-noted : goal.returns-in-Some-Cond-clause-noted
returns-in-Some-Cond-clause-noted g c = λ first before noted good same.
    let order = g.R.Ready.order in
    let k = c.args.k.now in
    let t = c.args.t in
    let cond = c.in-Some-Cond.cond in
    let m = c.in-Some-Cond.mutex in
    let known = c.wait.ensures ∙ ap (λ (x : Thread). wait_of x.standing) (c.known.ensures ∙ ap (λ (x : Tables _). (view order x).threads t) c.tables.ensures.tables) in
    let wait = Cond cond m c.in-Some-Cond.field-0-2 c.in-Some-Cond.field-0-3 in
    let has : c.wait.result ≡ Some wait = subst (λ w. c.wait.result ≡ Some w) c.in-Some-Cond.field-0-is c.in-Some-Cond.is in
    let waits = ap (λ (x : Thread). x.standing) same ∙ stands ((view order k.tables).threads t).standing wait (sym known ∙ has) in
    let waiting_on : WaitsOn before.state t cond m = record { waits = ap (waits_on cond) waits ∙ eq-eqb cond cond refl; beside = ap mutex_with waits } in
    let woken = c.wake.ensures.noted first before noted.so_far (view order k.tables).now good waiting_on same in
    let error : wake before t (Answer c.code.result) ≡ wake before t (Answer 110) = ap (λ n. wake before t (Answer n)) c.code.ensures in
    subst (HasNotedSome order first c.wake.new.self) (error ∙ sym (ap (λ (st : Standing). expire_at before t (target st)) waits)) woken
