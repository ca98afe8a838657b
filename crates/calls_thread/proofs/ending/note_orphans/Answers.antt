use Rattle.std.proofs.Common.{arith, subst}
use Rattle.kernel_state.specs.Begun.{NotesMore}
use Rattle.calls_thread.proofs.OrphanLemmas.{found_still, within_still, none_still, noted_none, noted_below, noted_all}
use Rattle.calls_thread.proofs.ending.note_orphans.Goals as goal

pub loop-m-init : goal.loop-m-init
loop-m-init g c = noted_none g.R.Ready.order c.args.k.now c.args.t c.requires

pub overflow_add-from : goal.overflow_add-from
overflow_add-from g c =
    let range = within_still g.R.Ready.order c.args.k.now c.args.t c.tables.result.now c.loop-m.k c.loop-m.from c.next_owned.result c.loop-m.invariant c.tables.ensures.tables c.in-Some.m c.next_owned.ensures.least c.in-Some.is in
    let high = range.1 in
    omega (arith, high)

pub loop-m-smaller : goal.loop-m-smaller
loop-m-smaller g c =
    let range = within_still g.R.Ready.order c.args.k.now c.args.t c.tables.result.now c.loop-m.k c.loop-m.from c.next_owned.result c.loop-m.invariant c.tables.ensures.tables c.in-Some.m c.next_owned.ensures.least c.in-Some.is in
    let low = range.0 in
    let high = range.1 in
    omega (arith, low, high)

pub loop-m-preserved : goal.loop-m-preserved
loop-m-preserved g c =
    let found = found_still g.R.Ready.order c.args.k.now c.args.t c.tables.result.now c.loop-m.k c.loop-m.from c.next_owned.result c.loop-m.invariant c.tables.ensures.tables c.in-Some.m c.next_owned.ensures.least c.in-Some.is in
    noted_below g.R.Ready.order c.args.k.now c.args.t c.loop-m.k c.note_more.new.self c.loop-m.from c.in-Some.m c.loop-m.invariant found (subst (NotesMore g.R.Ready.order c.loop-m.k c.note_more.new.self) c.orphaned.ensures c.note_more.ensures.noted) c.note_more.ensures.length

pub returns-clause-noted : goal.returns-clause-noted
returns-clause-noted g c =
    noted_all g.R.Ready.order c.args.k.now c.args.t c.loop-m.k c.loop-m.from c.loop-m.invariant
    (none_still g.R.Ready.order c.args.k.now c.args.t c.tables.result.now c.loop-m.k c.loop-m.from c.next_owned.result c.loop-m.invariant c.tables.ensures.tables c.next_owned.ensures.none c.in_default.is)
