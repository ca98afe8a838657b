use Rattle.std.proofs.Common.{◌∙◌, ap, subst, arith, ℕ, ◌+◌, ◌≤◌, Some}
use Rattle.thread_base.specs.Holders.{count_of}
use Rattle.thread_base.specs.declared.mutex.Holder.TheVariants.{Held}
use Rattle.posix_model.specs.State.{State}
use Rattle.posix_model.specs.Changes.{begun}
use Rattle.thread_base.specs.Objects.{holder_in}
use Rattle.posix_model.specs.Mutexes.{set_mutex}
use Rattle.posix_model.specs.Replies.{values}
use Rattle.kernel_state.specs.View.{view}
use Rattle.kernel_state.specs.Begun.{HasNotedSome}
use Rattle.calls_sync.proofs.MutexLemmas.{few_locks}
use Rattle.calls_sync.proofs.mutexes.take.Goals as goal

pub overflow_add-count : goal.overflow_add-count
overflow_add-count g c =
    let s : State = view g.R.Ready.order c.args.k.now.tables in
    let most : count_of (holder_in (s.mutexes c.args.m)) ≤ 65535 = few_locks s c.args.m c.requires.ready.good in
    let count = c.requires.count in
    omega (arith, most, count)

pub returns : goal.returns
returns g c =
    let s : State = view g.R.Ready.order c.args.k.now.tables in
    λ mutex is.
    subst (λ (n : ℕ). HasNotedSome g.R.Ready.order c.args.k.now c.hold.new.k (values (begun (set_mutex s c.args.m (Some (record mutex { holder = Held c.args.t (n + 1) })))) c.args.t 0 0).outcome)
    (c.requires.count ∙ ap (λ o. count_of (holder_in o)) is) (c.hold.ensures mutex is)
