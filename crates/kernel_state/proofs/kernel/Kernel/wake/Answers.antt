use Rattle.std.proofs.Common.{◌∙◌, ap, sym, subst}
use Rattle.posix_model.specs.State.{Thread, count_due}
use Rattle.kernel_state.specs.Begun.{HasNotedSome}
use Rattle.kernel_state.specs.declared.change.Change.TheVariants.{Condition as OfCondition, Retake}
use Rattle.kernel_state.specs.declared.change.ConditionChange.TheVariants.{Leave}
use Rattle.kernel_state.specs.View.{view}
use Rattle.kernel_state.specs.declared.tables.Tables.{Tables}
use Rattle.kernel_state.proofs.NoteLemmas.{noted_two}
use Rattle.kernel_state.proofs.WakingLemmas.{can_leave, can_take_back, woken}
use Rattle.kernel_state.proofs.kernel.Kernel.wake.Goals as goal

pub returns-clause-noted : goal.returns-clause-noted
returns-clause-noted g c = λ first before noted time good waiting_on same.
    let order = g.R.Ready.order in
    let u = c.args.u in
    let m = c.args.m in
    let count = c.count_due-count.result in
    let reply = c.args.reply in
    let often = c.count_due-count.ensures ∙ ap (λ (x : Thread). count_due x.standing) (c.known.ensures ∙ ap (λ (x : Tables _). (view order x).threads u) c.tables.ensures.tables ∙ sym same) in
    subst (HasNotedSome order first c.note_more-2.new.self) (woken before c.args.c m u time good waiting_on count often reply)
    (noted_two order first c.args.self.now before noted
    c.note_more.new.self (OfCondition c.args.c (Leave u)) c.note_more.ensures.noted (can_leave before c.args.c m u time good waiting_on)
    c.note_more-2.new.self (Retake u m count reply) c.note_more-2.ensures.noted (can_take_back before c.args.c m u time good waiting_on))
