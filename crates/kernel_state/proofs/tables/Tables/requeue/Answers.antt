use Rattle.std.proofs.Common.{◌∙◌, ap}
use Rattle.thread_base.specs.Objects.{with_waiters, appended}
use Rattle.posix_model.specs.State.{State, Waits, is_live}
use Rattle.posix_model.specs.Changes.{Outcome, set_thread}
use Rattle.posix_model.specs.Mutexes.{set_mutex}
use Rattle.posix_model.specs.declared.Wait.TheVariants.{Reacquire}
use Rattle.kernel_state.specs.View.{outcome}
use Rattle.kernel_state.proofs.tables.Tables.requeue.Goals as goal

pub wait_for-requires : goal.wait_for-requires
unfolding outcome
wait_for-requires g c = ap (λ (x : Outcome). is_live (x.state.threads c.args.t).standing) c.change_mutex.ensures.outcome ∙ c.requires.live

pub returns-clause-outcome : goal.returns-clause-outcome
unfolding outcome
returns-clause-outcome g c = λ mutex is.
    let before : Outcome = outcome g.R.Ready.order c.args.self.now in
    let waits : State → State = λ s. set_thread s c.args.t (record (s.threads c.args.t) { standing = Waits (Reacquire c.args.m c.args.reply c.args.count) }) in
    let queued = c.change_mutex.ensures.outcome ∙ ap (λ o. record before { state = set_mutex before.state c.args.m (with_waiters (appended c.args.t) o) }) is in
    (λ i. record { state = c.wait_for.ensures.view i; report = c.wait_for.ensures.report i })
    ∙ ap (λ (x : Outcome). record x { state = waits x.state }) queued
