use Rattle.std.proofs.Common.{◌≡◌, ◌∙◌, ap, sym, subst, true, Option, is_some}
use Rattle.posix_model.specs.State.{State, Condition}
use Rattle.posix_model.specs.ConditionCalls.{cond_broadcast_of}
use Rattle.kernel_state.specs.View.{view}
use Rattle.kernel_state.specs.Begun.{HasNotedSome}
use Rattle.kernel_state.specs.declared.tables.Tables.{Tables}
use Rattle.calls_sync.proofs.WakeLemmas.{a_condition}
use Rattle.calls_sync.proofs.conditions.cond_broadcast.Goals as goal

pub returns-clause-noted : goal.returns-clause-noted
returns-clause-noted g c =
    let order = g.R.Ready.order in
    let s : State = view order c.args.k.now.tables in
    let there : is_some (s.conditions c.args.c.a0) ≡ true =
    sym (c.has_condition.ensures.member ∙ ap (λ (x : Tables _). is_some ((view order x).conditions c.args.c.a0)) c.tables.ensures.tables) ∙ c.if-not-has_condition.false in
    let condition = a_condition (s.conditions c.args.c.a0) there in
    subst (λ (o : Option Condition). HasNotedSome order c.args.k.now c.broadcast.new.k (cond_broadcast_of s c.args.t o).outcome) (sym condition.1) (c.broadcast.ensures condition.0 condition.1)
