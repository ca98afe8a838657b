use Rattle.std.proofs.Common.{◌≡◌, ◌∙◌, ap, sym, subst, true, Option, Some, is_some}
use Rattle.posix_model.specs.State.{State, Mutex, Condition}
use Rattle.posix_model.specs.ConditionCalls.{cond_wait_of}
use Rattle.thread_base.specs.Objects.{waiters_in}
use Rattle.kernel_state.specs.View.{view, mutex_by, mutex_of}
use Rattle.kernel_state.specs.Begun.{HasNotedSome}
use Rattle.kernel_state.specs.declared.tables.Tables.{Tables}
use Rattle.calls_sync.proofs.WakeLemmas.{a_condition}
use Rattle.calls_sync.proofs.conditions.wait.Goals as goal

pub returns-in-Some-clause-noted : goal.returns-in-Some-clause-noted
returns-in-Some-clause-noted g c =
    let order = g.R.Ready.order in
    let k = c.args.k.now in
    let s : State = view order k.tables in
    let t = c.args.t in
    let m = c.args.m in
    let there : is_some (s.conditions c.args.c) ≡ true =
    sym (c.has_condition.ensures.member ∙ ap (λ (x : Tables _). is_some ((view order x).conditions c.args.c)) c.tables.ensures.tables) ∙ c.if-not-has_condition.false in
    let condition = a_condition (s.conditions c.args.c) there in
    let found : s.mutexes m ≡ Some (mutex_of c.in-Some.mutex (waiters_in (s.mutexes m))) =
    subst (λ (x : Tables _). (view order x).mutexes m ≡ mutex_by c.mutex.result (waiters_in ((view order x).mutexes m))) c.tables-2.ensures.tables c.mutex.ensures.mutex
    ∙ ap (λ o. mutex_by o (waiters_in (s.mutexes m))) c.in-Some.is in
    subst (λ (o : Option Condition). HasNotedSome order k c.wait_with.new.k (cond_wait_of s t c.args.c o m (s.mutexes m) c.args.deadline).outcome) (sym condition.1)
    (subst (λ (o : Option Mutex). HasNotedSome order k c.wait_with.new.k (cond_wait_of s t c.args.c (Some condition.0) m o c.args.deadline).outcome) (sym found)
    (c.wait_with.ensures.noted condition.0 condition.1))
