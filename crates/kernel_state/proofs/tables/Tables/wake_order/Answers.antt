use Rattle.std.proofs.Common.{◌∙◌, ap, sym, subst, ℕ, List, ◌<◌, length}
use Rattle.thread_base.specs.Maps.{numbered}
use Rattle.thread_base.specs.Objects.{cond_waiters}
use Rattle.thread_base.proofs.OrderLemmas.{within}
use Rattle.posix_model.specs.State.{State}
use Rattle.posix_model.specs.Conditions.{in_order}
use Rattle.posix_model.specs.Scheduling.{eff}
use Rattle.kernel_state.specs.View.{view}
use Rattle.kernel_state.proofs.ConditionLemmas.{few_threads, in_order_agree}
use Rattle.kernel_state.proofs.tables.Tables.wake_order.Goals as goal

pub waiters-requires : goal.waiters-requires
unfolding view
waiters-requires g c = c.requires.exists

pub sorted-requires : goal.sorted-requires
unfolding view
sorted-requires g c = subst (λ (ts : List ℕ). length ts < 65) (sym (c.deref.ensures.0 ∙ c.waiters.ensures.queue)) (few_threads _ (c.requires.good.conditions c.args.c).order)

pub returns : goal.returns
unfolding view
returns g c =
    let s : State = view g.R.Ready.order c.args.self.now in
    let levels : ℕ → ℕ = numbered 0 c.levels.result in
    let waiters : List ℕ = cond_waiters (s.conditions c.args.c) in
    c.sorted.ensures
    ∙ ap (in_order levels) (c.deref.ensures.0 ∙ c.waiters.ensures.queue)
    ∙ in_order_agree levels (eff s) waiters
    (λ u h. (let range = within waiters u (c.requires.good.conditions c.args.c).order h in c.levels.ensures u range.0 range.1))
