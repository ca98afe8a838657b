use Rattle.std.proofs.Common.{◌+◌, sym, subst, arith, ap}
use Rattle.kernel_state.specs.Begun.{NotesMore}
use Rattle.calls_thread.proofs.DropLemmas.{DropsBelow, drops_none, drop_within, drops_more, drops_all}
use Rattle.calls_thread.proofs.ending.note_drops.Goals as goal

pub loop-s-init : goal.loop-s-init
loop-s-init g c = drops_none g.R.Ready.order c.args.k.now c.args.t c.requires.idle

pub loop-s-smaller : goal.loop-s-smaller
loop-s-smaller g c =
    let range = drop_within g.R.Ready.order c.args.k.now c.args.t c.loop-s.k c.tables.result.now c.loop-s.from c.next_pending.result c.loop-s.invariant c.tables.ensures.tables c.in-Some.s c.next_pending.ensures.least c.in-Some.is in
    let low = range.0 in
    let high = range.1 in
    let same = c.number-from.ensures.value in
    omega (arith, low, high, same)

pub loop-s-preserved : goal.loop-s-preserved
loop-s-preserved g c =
    let order = g.R.Ready.order in
    let k = c.args.k.now in
    let t = c.args.t in
    let q = c.loop-s.k in
    let range = drop_within order k t q c.tables.result.now c.loop-s.from c.next_pending.result c.loop-s.invariant c.tables.ensures.tables c.in-Some.s c.next_pending.ensures.least c.in-Some.is in
    let low = range.0 in
    let high = range.1 in
    let same = c.number-from.ensures.value in
    let few = c.loop-s.invariant.2 in
    let count = c.note_more.ensures.length in
    let more = subst (NotesMore order q c.note_more.new.self) c.dropped.ensures c.note_more.ensures.noted in (
      omega (arith, high, same),
      c.note_more.ensures.idle,
      omega (arith, low, few, count, same),
      subst (DropsBelow order k c.note_more.new.self t) (ap (λ n. n + 1) (sym same))
          (drops_more order k t q c.tables.result.now c.loop-s.from c.next_pending.result c.loop-s.invariant c.tables.ensures.tables c.in-Some.s c.next_pending.ensures.least c.in-Some.is c.note_more.new.self more),
    )

pub returns-clause-noted : goal.returns-clause-noted
returns-clause-noted g c =
    drops_all g.R.Ready.order c.args.k.now c.args.t c.loop-s.k c.tables.result.now c.loop-s.from c.next_pending.result c.loop-s.invariant c.tables.ensures.tables c.next_pending.ensures.none c.in_default.is
