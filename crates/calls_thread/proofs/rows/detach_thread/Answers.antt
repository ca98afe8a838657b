use Rattle.std.proofs.Common.{◌≡◌, ◌∙◌, ap, sym, subst, Option, true, false}
use Rattle.posix_model.specs.State.{Thread, no_thread, is_ready}
use Rattle.posix_model.specs.Changes.{begun}
use Rattle.posix_model.specs.Threads.{exists}
use Rattle.kernel_state.specs.Records.{standing_of, thread_in}
use Rattle.kernel_state.specs.View.{view}
use Rattle.kernel_state.specs.Changing.{thread_change_by}
use Rattle.kernel_state.specs.declared.change.ThreadChange.{ThreadChange}
use Rattle.kernel_state.specs.declared.tables.Tables.{Tables}
use Rattle.calls_thread.proofs.StayLemmas.{there_set, there_detached, ended_apart, can_reply}
use Rattle.calls_thread.proofs.rows.detach_thread.Goals as goal
use Rattle.calls_thread.proofs.rows.detach_thread.Goals.{in-Some, in-None}

pub note_two-requires-clause-second : goal.note_two-requires-clause-second
note_two-requires-clause-second g c =
    let s = view g.R.Ready.order c.args.k.now.tables in
    let can = can_reply c.reply.result c.args.t 0 0 (thread_change_by c.match-known.change c.args.u (begun s)) c.reply.ensures in
    let stays : ThreadChange → Type 0 = λ x. exists (thread_change_by x c.args.u (begun s)).state c.args.t ≡ true in
    elim c.match-known.branch [
      | in-Some w ↦
          let kept : thread_in c.known.result (s.threads c.args.u).frames ≡ s.threads c.args.u =
          subst (λ (x : Tables _). thread_in c.known.result ((view g.R.Ready.order x).threads c.args.u).frames ≡ (view g.R.Ready.order x).threads c.args.u) c.tables.ensures.tables c.known.ensures in
          let gone : is_ready (s.threads c.args.u).standing ≡ false =
          sym (ap (λ (x : Thread). is_ready x.standing) kept) ∙ ap (λ (o : Option _). is_ready (standing_of o c.known.result.activity.wait)) w.in-Some.is in
          can (subst stays (sym w.change-is) (there_set s c.args.t c.args.u no_thread (ended_apart s c.args.t c.args.u c.requires.ready.listed.2 gone) c.requires.ready.listed.0))
      | in-None w ↦ can (subst stays (sym w.change-is) (there_detached s c.args.t c.args.u c.requires.ready.listed.0))
    ]
