use Rattle.std.proofs.Common.{◌≡◌, ◌∙◌, ap, sym, refl, subst, Some}
use Rattle.posix_model.specs.State.{State}
use Rattle.posix_model.specs.Changes.{Outcome, begun}
use Rattle.thread_base.specs.Objects.{cond_mutex}
use Rattle.posix_model.specs.Conditions.{wake}
use Rattle.posix_model.specs.declared.RetakeReply.TheVariants.{Answer}
use Rattle.kernel_state.specs.View.{view}
use Rattle.kernel_state.specs.Begun.{HasNotedSome}
use Rattle.kernel_state.specs.Changing.{Can, change_by}
use Rattle.kernel_state.specs.declared.change.Change.{Change}
use Rattle.kernel_state.specs.declared.tables.Tables.{Tables}
use Rattle.kernel_state.proofs.NoteLemmas.{noted_none}
use Rattle.calls_sync.proofs.WakeLemmas.{is_waiter_on, there_woken}
use Rattle.calls_sync.proofs.conditions.wake_best.Goals as goal

pub returns : goal.returns
returns g c =
    let order = g.R.Ready.order in
    let k = c.args.k.now in
    let s : State = view order k.tables in
    let ready = c.requires.ready in
    let bound : cond_mutex (s.conditions c.args.c) ≡ Some c.in-Some.m =
    sym (c.condition_mutex.ensures.mutex ∙ ap (λ (x : Tables _). cond_mutex ((view order x).conditions c.args.c)) c.tables.ensures.tables) ∙ c.in-Some.is in
    let waiting_on = is_waiter_on s c.args.u c.args.c c.in-Some.m ready.good c.requires.waits bound in
    let woken : Outcome = wake (begun s) c.args.u (Answer 0) in
    let noted = c.wake.ensures.noted k (begun s) (noted_none order k ready.idle ready.untold) s.now ready.good waiting_on refl in
    subst (λ (x : Change). HasNotedSome order k c.note_more.new.self (change_by x woken)) c.answer.ensures
    (c.note_more.ensures.noted k woken noted.so_far
    (subst (λ (x : Change). Can x woken) (sym c.answer.ensures) (there_woken s c.args.t c.args.u c.args.c c.in-Some.m ready.listed waiting_on)))
