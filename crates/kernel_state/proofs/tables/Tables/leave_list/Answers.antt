use Rattle.std.proofs.Common.{◌∙◌, ap}
use Rattle.thread_base.specs.Orders.{is_in}
use Rattle.thread_base.proofs.OrderLemmas.{not_in-without}
use Rattle.posix_model.specs.Changes.{set_thread}
use Rattle.posix_model.specs.State.{State, Thread}
use Rattle.posix_model.specs.Leaving.{over_with_last}
use Rattle.kernel_state.specs.View.{view}
use Rattle.kernel_state.specs.Changing.{remains_of}
use Rattle.kernel_state.proofs.ViewLemmas.{gone_calmly, view_plain}
use Rattle.kernel_state.proofs.tables.Tables.leave_list.Goals as goal

pub returns-clause-view : goal.returns-clause-view
returns-clause-view g c =
    let s : State = view g.R.Ready.order c.args.self.now in
    let left : Thread = remains_of (s.threads c.args.t) c.args.value c.args.joined in
    c.end_with_last.ensures.view
    ∙ ap over_with_last (
    c.leave.ensures.view
    ∙ ap (λ (x : State). set_thread x c.args.t (remains_of (x.threads c.args.t) c.args.value c.args.joined)) c.take_out.ensures.view
    ∙ gone_calmly s c.args.t left c.requires.calm c.requires.unheld (view_plain g.R.Ready.order c.args.self.now).keys)

pub leave-requires-clause-away : goal.leave-requires-clause-away
leave-requires-clause-away g c =
    let s : State = view g.R.Ready.order c.args.self.now in
    ap (λ (x : State). is_in c.args.t x.ready) c.take_out.ensures.view ∙ not_in-without c.args.t s.ready
