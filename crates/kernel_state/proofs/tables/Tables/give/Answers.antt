use Rattle.std.proofs.Common.{◌∙◌, ap}
use Rattle.thread_base.specs.Objects.{with_holder}
use Rattle.thread_base.specs.declared.mutex.Holder.TheVariants.{Held}
use Rattle.thread_base.specs.Orders.{is_in}
use Rattle.posix_model.specs.State.{is_live}
use Rattle.posix_model.specs.Changes.{Outcome, go_on}
use Rattle.posix_model.specs.Mutexes.{set_mutex}
use Rattle.kernel_state.specs.View.{outcome}
use Rattle.kernel_state.proofs.tables.Tables.give.Goals as goal

pub returns-clause-outcome : goal.returns-clause-outcome
unfolding outcome
returns-clause-outcome g c =
    let before : Outcome = outcome g.R.Ready.order c.args.self.now in
    λ mutex is.
    c.go_on.ensures.outcome
    ∙ ap (λ (x : Outcome). go_on x c.args.t c.args.reply)
    (c.change_mutex.ensures.outcome ∙ ap (λ o. record before { state = set_mutex before.state c.args.m (with_holder (Held c.args.t c.args.count) o) }) is)

pub go_on-requires-clause-away : goal.go_on-requires-clause-away
unfolding outcome
go_on-requires-clause-away g c = ap (λ (x : Outcome). is_in c.args.t x.state.ready) c.change_mutex.ensures.outcome ∙ c.requires.away

pub go_on-requires-clause-live : goal.go_on-requires-clause-live
unfolding outcome
go_on-requires-clause-live g c = ap (λ (x : Outcome). is_live (x.state.threads c.args.t).standing) c.change_mutex.ensures.outcome ∙ c.requires.live
