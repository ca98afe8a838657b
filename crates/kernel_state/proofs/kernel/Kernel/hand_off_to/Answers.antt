use Rattle.std.proofs.Common.{◌∙◌, ap, subst}
use Rattle.posix_model.specs.State.{State, Thread, count_due}
use Rattle.posix_model.specs.Mutexes.{reply_due}
use Rattle.thread_base.specs.declared.mutex.Holder.TheVariants.{Free}
use Rattle.kernel_state.specs.View.{view}
use Rattle.kernel_state.specs.Begun.{HasNotedSome, NotesMore}
use Rattle.kernel_state.specs.declared.change.Change.TheVariants.{Mutex as OfMutex, Retake}
use Rattle.kernel_state.specs.declared.change.MutexChange.TheVariants.{Hold, DropWaiter}
use Rattle.kernel_state.proofs.NoteLemmas.{noted_three}
use Rattle.kernel_state.proofs.WakingLemmas.{can_hold, can_drop, can_retake, handed_over}
use Rattle.kernel_state.specs.declared.tables.Tables.{Tables}
use Rattle.kernel_state.proofs.KernelLemmas.{rests}
use Rattle.kernel_state.proofs.kernel.Kernel.hand_off_to.Goals as goal

pub returns-clause-noted : goal.returns-clause-noted
returns-clause-noted g c = λ first before mutex noted there leaves.
    let order = g.R.Ready.order in
    let k = c.args.self.now in
    let s : State = view order k.tables in
    let m = c.args.m in
    let u = c.args.u in
    let count = c.count_due-count.result in
    let reply = c.reply_due-reply.result in
    let often = c.count_due-count.ensures ∙ ap (λ (x : Thread). count_due x.standing) (c.known.ensures ∙ ap (λ (x : Tables _). (view order x).threads u) c.tables.ensures.tables) in
    let due = c.reply_due-reply.ensures ∙ ap (λ (x : Thread). reply_due x.standing) (c.known-2.ensures ∙ ap (λ (x : Tables _). (view order x).threads u) c.tables-2.ensures.tables) in
    let waits = c.requires.waits in
    let good = (rests order g.R.Ready.prio k c.tables.ensures.sound c.requires.idle).0 in
    subst (HasNotedSome order first c.note_more-3.new.self) (handed_over s before m u mutex good there leaves waits count often reply due)
    (noted_three order first k before noted
    c.note_more.new.self (OfMutex m (Hold Free)) (subst (NotesMore order k c.note_more.new.self) c.freed.ensures c.note_more.ensures.noted) (can_hold s before m u mutex good there leaves waits)
    c.note_more-2.new.self (OfMutex m (DropWaiter u)) c.note_more-2.ensures.noted (can_drop s before m u mutex good there leaves waits)
    c.note_more-3.new.self (Retake u m count reply) c.note_more-3.ensures.noted (can_retake s before m u mutex good there leaves waits))
