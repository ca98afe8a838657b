use Rattle.std.proofs.Common.{◌≡◌, ◌∙◌, ap, sym, subst, Some}
use Rattle.posix_model.specs.State.{State}
use Rattle.posix_model.specs.Changes.{Outcome, begun, reply}
use Rattle.thread_base.specs.Objects.{cond_mutex, cond_waiters}
use Rattle.posix_model.specs.Conditions.{in_order, wake_all}
use Rattle.posix_model.specs.Scheduling.{eff}
use Rattle.kernel_state.specs.View.{view}
use Rattle.kernel_state.specs.Begun.{HasNotedSome}
use Rattle.kernel_state.specs.Changing.{Can, change_by}
use Rattle.kernel_state.specs.declared.change.Change.{Change}
use Rattle.kernel_state.specs.declared.tables.Tables.{Tables}
use Rattle.calls_sync.proofs.WakeLemmas.{there_all}
use Rattle.calls_sync.proofs.conditions.broadcast.Goals as goal

pub returns-in-Some : goal.returns-in-Some
returns-in-Some g c = λ condition here.
    let order = g.R.Ready.order in
    let k = c.args.k.now in
    let s : State = view order k.tables in
    let ready = c.requires.ready in
    let bound : cond_mutex (s.conditions c.args.c) ≡ Some c.in-Some.m =
    sym (c.condition_mutex.ensures.mutex ∙ ap (λ (x : Tables _). cond_mutex ((view order x).conditions c.args.c)) c.tables.ensures.tables) ∙ c.in-Some.is in
    let all : c.deref.result.now ≡ in_order (eff s) (cond_waiters (s.conditions c.args.c)) =
    c.deref.ensures.0 ∙ c.wake_order-wake_order.ensures
    ∙ ap (λ (x : Tables _). in_order (eff (view order x)) (cond_waiters ((view order x).conditions c.args.c))) c.tables-in-Some.ensures.tables in
    let woken : Outcome = wake_all (begun s) c.deref.result.now in
    let there = there_all s c.args.c c.in-Some.m ready.good bound c.deref.result.now all c.args.t ready.listed in
    let is : woken ≡ wake_all (begun s) (in_order (eff s) condition.waiters) = ap (wake_all (begun s)) (all ∙ ap (λ o. in_order (eff s) (cond_waiters o)) here) in
    subst (λ (x : Outcome). HasNotedSome order k c.note_more.new.self (record x { state = reply x.state c.args.t 0 0 })) is
    (subst (λ (x : Change). HasNotedSome order k c.note_more.new.self (change_by x woken)) c.answer-in-Some.ensures
    (c.note_more.ensures.noted k woken c.wake_each.ensures.noted (subst (λ (x : Change). Can x woken) (sym c.answer-in-Some.ensures) there)))
