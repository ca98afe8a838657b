use Rattle.std.proofs.Common.{◌≡◌, ◌∙◌, ap, sym, subst, ℕ, Option, Some, is_some}
use Rattle.thread_base.specs.Objects.{waiters_in}
use Rattle.thread_base.specs.Priority.{first_greatest}
use Rattle.posix_model.specs.State.{State, Mutex}
use Rattle.posix_model.specs.Scheduling.{eff}
use Rattle.posix_model.specs.Changes.{Outcome, begun}
use Rattle.posix_model.specs.Arrivals.{timed_out}
use Rattle.posix_model.specs.Mutexes.{best_waiter, hand_off}
use Rattle.posix_model.specs.ConditionCalls.{await_back}
use Rattle.posix_model.specs.declared.RetakeReply.TheVariants.{Answer}
use Rattle.posix_model.specs.declared.Wait.TheVariants.{Reacquire}
use Rattle.kernel_state.specs.View.{view}
use Rattle.kernel_state.specs.Begun.{HasNotedSome}
use Rattle.kernel_state.specs.declared.change.Change.TheVariants.{Thread as OfThread, Mutex as OfMutex}
use Rattle.kernel_state.specs.declared.change.MutexChange.TheVariants.{AddWaiter}
use Rattle.kernel_state.specs.declared.change.ThreadChange.TheVariants.{Await}
use Rattle.kernel_state.proofs.NoteLemmas.{noted_none, noted_two}
use Rattle.calls_sync.proofs.MutexLemmas.{leaves_at_first}
use Rattle.calls_sync.proofs.WaitLemmas.{waits_back, given_to, passed_mutex, passed_listed, passed_none}
use Rattle.calls_sync.proofs.conditions.pass_on.Goals as goal

pub returns : goal.returns
returns g c = λ mutex there often.
    let order = g.R.Ready.order in
    let k = c.args.k.now in
    let s : State = view order k.tables in
    let t = c.args.t in
    let m = c.args.m in
    let u = c.args.u in
    let ready = c.requires.ready in
    let good = ready.good in
    let best : best_waiter s mutex ≡ Some u = ap (λ o. first_greatest (eff s) (waiters_in o)) (sym there) ∙ c.requires.best in
    let passed : Outcome = hand_off (begun s) m mutex (Some u) in
    let noted =
    subst (λ (o : Option ℕ). HasNotedSome order k c.hand_off.new.self (hand_off (begun s) m mutex o)) best
    (c.hand_off.ensures.noted k (begun s) mutex (noted_none order k ready.idle ready.untold) there (leaves_at_first s m good)) in
    let is = passed_mutex s t m u mutex good ready.listed there best in
    subst (λ (x : Outcome). HasNotedSome order k c.note_more-2.new.self x)
    (waits_back passed t m c.args.count (given_to s u mutex) is ∙ ap (await_back passed t m (passed.state.mutexes m)) often)
    (noted_two order k c.hand_off.new.self passed noted.so_far
    c.note_more.new.self (OfMutex m (AddWaiter t)) c.note_more.ensures.noted (ap is_some is, passed_none s t m u mutex good ready.listed there best)
    c.note_more-2.new.self (OfThread t (Await (Reacquire m (Answer timed_out) c.args.count))) c.note_more-2.ensures.noted
    (passed_listed s t m u mutex good ready.listed there best))
