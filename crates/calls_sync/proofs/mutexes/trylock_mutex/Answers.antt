use Rattle.std.proofs.Common.{◌∙◌, sym, subst}
use Rattle.posix_model.specs.State.{State, Mutex}
use Rattle.thread_base.specs.Objects.{waiters_in}
use Rattle.posix_model.specs.Replies.{Called}
use Rattle.kernel_state.specs.View.{view, mutex_of}
use Rattle.kernel_state.specs.Begun.{HasNotedSome}
use Rattle.calls_sync.proofs.MutexLemmas.{trylock_open}
use Rattle.calls_sync.proofs.mutexes.trylock_mutex.Goals as goal

pub returns-clause-noted : goal.returns-clause-noted
returns-clause-noted g c =
    let s : State = view g.R.Ready.order c.args.k.now.tables in
    let mutex : Mutex = mutex_of c.args.mutex (waiters_in (s.mutexes c.args.m)) in
    subst (λ (x : Called). HasNotedSome g.R.Ready.order c.args.k.now c.take.new.k x.outcome)
    (trylock_open s c.args.t c.args.m mutex (sym c.is_full.ensures ∙ c.if-is_full.false) (sym c.is_open.ensures ∙ c.if-not-is_open.false))
    (c.take.ensures mutex c.requires.found)
