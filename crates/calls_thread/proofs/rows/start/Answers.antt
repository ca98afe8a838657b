use Rattle.std.proofs.Common.{◌≡◌, ◌∙◌, ap, subst, ℕ, List}
use Rattle.kernel_state.specs.declared.tables.Tables.{Tables}
use Rattle.posix_model.specs.State.{State, Thread, Frame}
use Rattle.posix_model.specs.Threads.{new_thread}
use Rattle.posix_model.specs.Changes.{append, begun}
use Rattle.posix_model.specs.Calls.{values}
use Rattle.kernel_state.specs.Records.{thread_in}
use Rattle.kernel_state.specs.View.{view}
use Rattle.kernel_state.specs.Changing.{begun_thread, change_by}
use Rattle.kernel_state.specs.Begun.{HasNotedSome}
use Rattle.calls_thread.proofs.StayLemmas.{free_away, there_append, can_reply}
use Rattle.calls_thread.proofs.rows.start.Goals as goal

pub note_two-requires-clause-first : goal.note_two-requires-clause-first
note_two-requires-clause-first g c =
    (c.requires.free, free_away (view g.R.Ready.order c.args.k.now.tables) c.args.u c.requires.ready.good c.requires.free)

pub note_two-requires-clause-second : goal.note_two-requires-clause-second
note_two-requires-clause-second g c =
    let s = view g.R.Ready.order c.args.k.now.tables in
    can_reply c.reply.result c.args.t 0 c.number.result (begun (append s c.args.u (begun_thread c.first_of.result))) c.reply.ensures
    (there_append s c.args.t c.args.u (begun_thread c.first_of.result) c.requires.ready.listed.0)

pub returns-clause-noted : goal.returns-clause-noted
returns-clause-noted g c =
    let s : State = view g.R.Ready.order c.args.k.now.tables in
    let frames : List Frame = (s.threads c.args.t).frames in
    let known : thread_in c.known-creator.result frames ≡ s.threads c.args.t =
    subst (λ (x : Tables _). thread_in c.known-creator.result ((view g.R.Ready.order x).threads c.args.t).frames ≡ (view g.R.Ready.order x).threads c.args.t) c.tables.ensures.tables c.known-creator.ensures in
    let same = c.first_of.ensures frames ∙ ap (λ x. new_thread x c.args.c) known in
    let outcome : Thread → ℕ → Type 0 = λ x n. HasNotedSome g.R.Ready.order c.args.k.now c.note_two.new.self (values (begun (append s c.args.u x)) c.args.t 0 n).outcome in
    let noted = subst (λ y. HasNotedSome g.R.Ready.order c.args.k.now c.note_two.new.self (change_by y (begun (append s c.args.u (begun_thread c.first_of.result))))) c.reply.ensures c.note_two.ensures in
    subst (λ x. outcome x c.args.u) same (subst (outcome (begun_thread c.first_of.result)) c.number.ensures.value noted)
