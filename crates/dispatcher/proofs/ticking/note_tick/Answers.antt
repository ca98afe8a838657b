use Rattle.std.proofs.Common.{◌∙◌, ◌+◌, ap, sym}
use Rattle.kernel_state.specs.View.{view}
use Rattle.kernel_state.specs.declared.tables.Tables.{Tables}
use Rattle.kernel_state.proofs.KernelLemmas.{rests}
use Rattle.dispatcher.proofs.TickNotes.{advanced, charged_tables, expired_tables, tick_noted}
use Rattle.dispatcher.proofs.ticking.note_tick.Goals as goal

pub expire-requires-clause-now : goal.expire-requires-clause-now
expire-requires-clause-now g c =
    let order = g.R.Ready.order in
    let k = c.args.k.now in
    let same = charged_tables order k c.note_more.new.self (advanced order k c.note_more.new.self c.clock.result c.requires.idle (rests order g.R.Ready.prio k c.tables-sound.ensures.sound c.requires.idle.main).1 c.requires.room.time c.clock.ensures c.note_more.ensures.noted) c.charge.new.k c.charge.ensures.noted in
    ap (λ n. n + 1) (c.ticks-now.ensures ∙ ap (λ (x : Tables _). (view order x).now) (c.tables.ensures.tables ∙ sym same))

pub ring-requires-clause-now : goal.ring-requires-clause-now
ring-requires-clause-now g c =
    let order = g.R.Ready.order in
    let k = c.args.k.now in
    let good = (rests order g.R.Ready.prio k c.tables-sound.ensures.sound c.requires.idle.main).0 in
    let same = expired_tables order k c.note_more.new.self (advanced order k c.note_more.new.self c.clock.result c.requires.idle (rests order g.R.Ready.prio k c.tables-sound.ensures.sound c.requires.idle.main).1 c.requires.room.time c.clock.ensures c.note_more.ensures.noted) c.charge.new.k c.charge.ensures.noted good c.expire.new.k c.expire.ensures.noted in
    ap (λ n. n + 1) (c.ticks-now.ensures ∙ ap (λ (x : Tables _). (view order x).now) (c.tables.ensures.tables ∙ sym same))

pub returns : goal.returns
returns g c =
    let order = g.R.Ready.order in
    let k = c.args.k.now in
    let good = (rests order g.R.Ready.prio k c.tables-sound.ensures.sound c.requires.idle.main).0 in
    tick_noted order k c.note_more.new.self (advanced order k c.note_more.new.self c.clock.result c.requires.idle (rests order g.R.Ready.prio k c.tables-sound.ensures.sound c.requires.idle.main).1 c.requires.room.time c.clock.ensures c.note_more.ensures.noted) c.charge.new.k c.charge.ensures.noted good c.expire.new.k c.expire.ensures.noted c.ring.new.k c.ring.ensures.noted c.requires.room.pends
