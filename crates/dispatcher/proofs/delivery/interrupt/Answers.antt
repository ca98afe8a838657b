use Rattle.posix_model.specs.Changes.{begun}
use Rattle.kernel_state.specs.View.{view}
use Rattle.dispatcher.proofs.WaitLemmas.{same_thread, waits_on_still}
use Rattle.dispatcher.proofs.DeliverLemmas.{interrupts}
use Rattle.dispatcher.proofs.delivery.interrupt.Goals as goal

pub returns-clause-noted : goal.returns-clause-noted
returns-clause-noted g c = λ first s noted taken room.
    let order = g.R.Ready.order in
    let before = view order c.args.k.now.tables in
    let t = c.args.t in
    let waiting_on = waits_on_still before s t c.args.c c.args.m taken c.requires.waits in
    let woken = c.wake.ensures.noted first (begun s) noted s.now taken.good waiting_on (same_thread before s t taken) in
    interrupts order first s t c.number.result c.args.s c.args.count c.number.ensures.value c.wake.new.self c.note_more.new.self c.args.c room woken.so_far c.note_more.ensures.noted
