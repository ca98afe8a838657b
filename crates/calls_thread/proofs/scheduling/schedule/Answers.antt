use Rattle.posix_model.specs.Changes.{begun, rescheduled}
use Rattle.kernel_state.specs.View.{view}
use Rattle.calls_thread.proofs.StayLemmas.{there_scheduled, can_schedule, can_reply}
use Rattle.calls_thread.proofs.scheduling.schedule.Goals as goal

pub note_two-requires-clause-first : goal.note_two-requires-clause-first
note_two-requires-clause-first g c =
    can_schedule (view g.R.Ready.order c.args.k.now.tables) c.args.u c.args.policy c.args.base c.requires.ready.good c.requires.live

pub note_two-requires-clause-second : goal.note_two-requires-clause-second
note_two-requires-clause-second g c =
    let s = view g.R.Ready.order c.args.k.now.tables in
    can_reply c.reply.result c.args.t 0 0 (begun (rescheduled s c.args.u c.args.policy c.args.base)) c.reply.ensures
    (there_scheduled s c.args.t c.args.u c.args.policy c.args.base c.requires.ready.listed.0)
