use Rattle.std.proofs.Common.{◌∙◌}
use Rattle.thread_base.specs.Maps.{numbered}
use Rattle.thread_base.specs.Objects.{waiters_in}
use Rattle.thread_base.proofs.OrderLemmas.{within}
use Rattle.thread_base.proofs.PriorityLemmas.{first_agree}
use Rattle.posix_model.specs.State.{State}
use Rattle.posix_model.specs.Scheduling.{eff}
use Rattle.kernel_state.specs.View.{view}
use Rattle.kernel_state.proofs.tables.Tables.best_waiter.Goals as goal

pub best_waiter-requires : goal.best_waiter-requires
unfolding view
best_waiter-requires g c = c.requires.exists

pub returns-clause-first : goal.returns-clause-first
unfolding view
returns-clause-first g c =
    let s : State = view g.R.Ready.order c.args.self.now in
    let waiters = waiters_in (s.mutexes c.args.m) in
    c.best_waiter.ensures.first
    ∙ first_agree (numbered 0 c.levels.result) (eff s) waiters
    (λ u h. (let range = within waiters u (c.requires.good.mutexes c.args.m).order h in c.levels.ensures u range.0 range.1))

pub returns-clause-member : goal.returns-clause-member
unfolding view
returns-clause-member g c = c.best_waiter.ensures.member
