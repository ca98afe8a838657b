use Rattle.std.proofs.Common.{sym}
use Rattle.posix_model.specs.State.{no_thread}
use Rattle.posix_model.specs.Changes.{begun, set_thread}
use Rattle.kernel_state.specs.View.{view}
use Rattle.calls_thread.proofs.StayLemmas.{there_set, can_reply}
use Rattle.calls_thread.proofs.rows.join_thread.Goals as goal

pub note_two-requires-clause-second : goal.note_two-requires-clause-second
note_two-requires-clause-second g c =
    let s = view g.R.Ready.order c.args.k.now.tables in
    can_reply c.reply.result c.args.t 0 c.in-Some.value (begun (set_thread s c.args.u no_thread)) c.reply.ensures
    (there_set s c.args.t c.args.u no_thread (λ e. c.requires.apart (sym e)) c.requires.ready.listed.0)
