use Rattle.std.proofs.Common.{◌∙◌, sym, subst}
use Rattle.posix_model.specs.State.{State, Mutex}
use Rattle.thread_base.specs.Objects.{waiters_in}
use Rattle.posix_model.specs.Replies.{Called}
use Rattle.kernel_state.specs.View.{view, mutex_of}
use Rattle.kernel_state.specs.Begun.{HasNotedSome}
use Rattle.calls_sync.proofs.MutexLemmas.{lock_open, lock_waits}
use Rattle.calls_sync.proofs.mutexes.lock_mutex.Goals as goal

pub returns-then-is_open-clause-noted : goal.returns-then-is_open-clause-noted
returns-then-is_open-clause-noted g c =
    let s : State = view g.R.Ready.order c.args.k.now.tables in
    let mutex : Mutex = mutex_of c.args.mutex (waiters_in (s.mutexes c.args.m)) in
    subst (λ (x : Called). HasNotedSome g.R.Ready.order c.args.k.now c.take.new.k x.outcome)
    (lock_open s c.args.t c.args.m mutex (sym c.is_checked.ensures ∙ c.if-is_checked.false) (sym c.is_full.ensures ∙ c.if-is_full.false) (sym c.is_open.ensures ∙ c.if-is_open.true))
    (c.take.ensures mutex c.requires.found)

pub returns-clause-noted : goal.returns-clause-noted
returns-clause-noted g c =
    let s : State = view g.R.Ready.order c.args.k.now.tables in
    let mutex : Mutex = mutex_of c.args.mutex (waiters_in (s.mutexes c.args.m)) in
    subst (λ (x : Called). HasNotedSome g.R.Ready.order c.args.k.now c.queue.new.k x.outcome)
    (lock_waits s c.args.t c.args.m mutex (sym c.is_checked.ensures ∙ c.if-is_checked.false) (sym c.is_full.ensures ∙ c.if-is_full.false) (sym c.is_open.ensures ∙ c.if-is_open.false))
    (c.queue.ensures mutex c.requires.found)
