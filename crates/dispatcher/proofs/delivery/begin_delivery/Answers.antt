use Rattle.dispatcher.proofs.DeliverLemmas.{takes_still, heeded_still, can_begin, is_begun}
use Rattle.dispatcher.proofs.delivery.begin_delivery.Goals as goal

pub give-head-requires-clause-takes : goal.give-head-requires-clause-takes
give-head-requires-clause-takes g c =
    takes_still g.R.Ready.order g.R.Ready.prio c.args.k.now c.args.t c.args.s c.args.of_process c.tables.ensures.sound c.requires.idle c.requires.room c.requires.next
    c.origin-place.result c.origin-place.ensures c.note_more.new.self c.note_more.ensures.noted

pub give-head-requires-clause-heeded : goal.give-head-requires-clause-heeded
give-head-requires-clause-heeded g c =
    heeded_still g.R.Ready.order g.R.Ready.prio c.args.k.now c.args.t c.args.s c.args.of_process c.tables.ensures.sound c.requires.idle c.requires.room c.requires.next
    c.origin-place.result c.origin-place.ensures c.note_more.new.self c.note_more.ensures.noted

pub begin_move-requires : goal.begin_move-requires
begin_move-requires g c =
    can_begin g.R.Ready.order g.R.Ready.prio c.args.k.now c.args.t c.args.s c.args.of_process c.tables.ensures.sound c.requires.idle c.requires.room c.requires.next
    c.origin-place.result c.origin-place.ensures c.note_more.new.self c.note_more.ensures.noted
    c.origin.result c.origin.ensures c.tables.result.now c.tables.ensures.tables c.pending-count.result c.pending-count.ensures c.give-head.result c.give-head.new.k c.give-head.ensures.noted

pub returns : goal.returns
returns g c =
    is_begun g.R.Ready.order g.R.Ready.prio c.args.k.now c.args.t c.args.s c.args.of_process c.tables.ensures.sound c.requires.idle c.requires.room c.requires.next
    c.origin-place.result c.origin-place.ensures c.note_more.new.self c.note_more.ensures.noted
    c.origin.result c.origin.ensures c.tables.result.now c.tables.ensures.tables c.pending-count.result c.pending-count.ensures c.give-head.result c.give-head.new.k c.give-head.ensures.noted
    c.begin_move.new.self c.begin_move.ensures
