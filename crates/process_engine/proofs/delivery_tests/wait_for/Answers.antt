use Rattle.posix_model.specs.Changes.{begun, await}
use Rattle.kernel_state.specs.View.{view}
use Rattle.kernel_state.proofs.KernelLemmas.{can_note}
use Rattle.kernel_state.proofs.NoteLemmas.{can_start}
use Rattle.process_engine.proofs.SettingLemmas.{good_await, await_most}
use Rattle.process_engine.proofs.delivery_tests.wait_for.Goals as goal

pub note_one-requires-clause-ready : goal.note_one-requires-clause-ready
note_one-requires-clause-ready g c =
    can_note g.R.Ready.order g.R.Ready.prio c.args.k.now c.tables-sound.ensures.sound c.in-Some.t c.in-Some.ensures

pub note_one-requires-clause-can : goal.note_one-requires-clause-can
note_one-requires-clause-can g c =
    (can_note g.R.Ready.order g.R.Ready.prio c.args.k.now c.tables-sound.ensures.sound c.in-Some.t c.in-Some.ensures).listed

pub begin_move-requires : goal.begin_move-requires
begin_move-requires g c =
    let order = g.R.Ready.order in
    let k = c.args.k.now in
    let t = c.in-Some.t in
    let may = can_note order g.R.Ready.prio k c.tables-sound.ensures.sound t c.in-Some.ensures in
    can_start order k c.note_one.new.self (begun (await (view order k.tables) t c.args.wait)) c.note_one.ensures
    (good_await (view order k.tables) t c.args.wait may.good may.listed.2 c.requires.joins_none c.requires.wants_none c.requires.waits_on_none c.requires.sound)

pub returns-in-Some-clause-most : goal.returns-in-Some-clause-most
returns-in-Some-clause-most g c =
    await_most g.R.Ready.order c.args.k.now c.note_one.new.self c.begin_move.new.self c.in-Some.t c.args.wait _ c.finish-report.new.self.tables c.note_one.ensures
    c.begin_move.ensures c.finish-report.ensures.state c.requires.most
