use Rattle.std.proofs.Common.{◌≡◌, ◌∙◌, ap, sym, subst, true, false}
use Rattle.thread_base.specs.Holders.{is_held_by}
use Rattle.thread_base.specs.Objects.{cond_mutex, waiters_in}
use Rattle.posix_model.specs.State.{State, Mutex}
use Rattle.posix_model.specs.Arrivals.{has_come}
use Rattle.posix_model.specs.Conditions.{is_other}
use Rattle.posix_model.specs.Replies.{Called}
use Rattle.kernel_state.specs.View.{view, mutex_of}
use Rattle.kernel_state.specs.Begun.{HasNotedSome}
use Rattle.kernel_state.specs.declared.tables.Tables.{Tables}
use Rattle.calls_sync.proofs.WaitLemmas.{wait_over, wait_held}
use Rattle.calls_sync.proofs.conditions.wait_with.Goals as goal

pub returns-then-has_come-clause-noted : goal.returns-then-has_come-clause-noted
returns-then-has_come-clause-noted g c = λ condition here.
    let order = g.R.Ready.order in
    let s : State = view order c.args.k.now.tables in
    let m = c.args.m in
    let mutex : Mutex = mutex_of c.args.mutex (waiters_in (s.mutexes m)) in
    let held : is_held_by mutex.holder c.args.t ≡ true = sym c.is_held_by.ensures ∙ c.if-not-is_held_by.false in
    let same : is_other m condition.mutex ≡ false =
    sym (c.is_other.ensures
    ∙ ap (is_other m) (c.condition_mutex.ensures.mutex ∙ ap (λ (x : Tables _). cond_mutex ((view order x).conditions c.args.c)) c.tables.ensures.tables ∙ ap cond_mutex here))
    ∙ c.if-is_other.false in
    let passed : has_come s.now c.args.deadline ≡ true =
    sym (c.has_come.ensures ∙ ap (λ n. has_come n c.args.deadline) (c.ticks.ensures ∙ ap (λ (x : Tables _). (view order x).now) c.tables-2.ensures.tables))
    ∙ c.if-has_come.true in
    subst (λ (x : Called). HasNotedSome order c.args.k.now c.time_out.new.k x.outcome) (wait_over s c.args.t c.args.c m condition mutex c.args.deadline held same passed)
    (c.time_out.ensures.noted mutex c.requires.found c.count-count.ensures)

pub returns-then-has_come-clause-reply : goal.returns-then-has_come-clause-reply
returns-then-has_come-clause-reply g c = λ condition here.
    let order = g.R.Ready.order in
    let s : State = view order c.args.k.now.tables in
    let m = c.args.m in
    let mutex : Mutex = mutex_of c.args.mutex (waiters_in (s.mutexes m)) in
    let held : is_held_by mutex.holder c.args.t ≡ true = sym c.is_held_by.ensures ∙ c.if-not-is_held_by.false in
    let same : is_other m condition.mutex ≡ false =
    sym (c.is_other.ensures
    ∙ ap (is_other m) (c.condition_mutex.ensures.mutex ∙ ap (λ (x : Tables _). cond_mutex ((view order x).conditions c.args.c)) c.tables.ensures.tables ∙ ap cond_mutex here))
    ∙ c.if-is_other.false in
    let passed : has_come s.now c.args.deadline ≡ true =
    sym (c.has_come.ensures ∙ ap (λ n. has_come n c.args.deadline) (c.ticks.ensures ∙ ap (λ (x : Tables _). (view order x).now) c.tables-2.ensures.tables))
    ∙ c.if-has_come.true in
    c.time_out.ensures.reply mutex c.requires.found
    ∙ ap (λ (x : Called). x.reply) (wait_over s c.args.t c.args.c m condition mutex c.args.deadline held same passed)

pub returns-clause-noted : goal.returns-clause-noted
returns-clause-noted g c = λ condition here.
    let order = g.R.Ready.order in
    let s : State = view order c.args.k.now.tables in
    let m = c.args.m in
    let mutex : Mutex = mutex_of c.args.mutex (waiters_in (s.mutexes m)) in
    let held : is_held_by mutex.holder c.args.t ≡ true = sym c.is_held_by.ensures ∙ c.if-not-is_held_by.false in
    let same : is_other m condition.mutex ≡ false =
    sym (c.is_other.ensures
    ∙ ap (is_other m) (c.condition_mutex.ensures.mutex ∙ ap (λ (x : Tables _). cond_mutex ((view order x).conditions c.args.c)) c.tables.ensures.tables ∙ ap cond_mutex here))
    ∙ c.if-is_other.false in
    let coming : has_come s.now c.args.deadline ≡ false =
    sym (c.has_come.ensures ∙ ap (λ n. has_come n c.args.deadline) (c.ticks.ensures ∙ ap (λ (x : Tables _). (view order x).now) c.tables-2.ensures.tables))
    ∙ c.if-has_come.false in
    subst (λ (x : Called). HasNotedSome order c.args.k.now c.wait_and_release.new.k x.outcome)
    (wait_held s c.args.t c.args.c m condition mutex c.args.deadline held same coming)
    (c.wait_and_release.ensures condition mutex here c.requires.found c.count-count.ensures)
