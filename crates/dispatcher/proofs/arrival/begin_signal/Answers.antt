use Rattle.posix_model.specs.Changes.{begun}
use Rattle.posix_model.specs.declared.Head.TheVariants.{ArriveSig}
use Rattle.posix_model.proofs.GoodSignals.{good_come}
use Rattle.kernel_state.specs.View.{view}
use Rattle.kernel_state.specs.declared.kernel.MainLine.TheVariants.{Arrival}
use Rattle.kernel_state.proofs.KernelLemmas.{rests}
use Rattle.kernel_state.proofs.NoteLemmas.{can_start, begun_by}
use Rattle.dispatcher.proofs.ArrivalLemmas.{signal_noted}
use Rattle.dispatcher.proofs.arrival.begin_signal.Goals as goal

pub begin_arrival-requires : goal.begin_arrival-requires
begin_arrival-requires g c =
    let order = g.R.Ready.order in
    let k = c.args.k.now in
    let good = (rests order g.R.Ready.prio k c.tables-sound.ensures.sound c.requires.idle.main).0 in
    let untold = (rests order g.R.Ready.prio k c.tables-sound.ensures.sound c.requires.idle.main).1 in
    let noted = signal_noted order k c.note_signal.new.k c.args.s c.args.count c.from.result c.requires.idle untold c.requires.room.pends c.ranges.count.fits c.number-in_scope.ensures.scope c.from.ensures c.note_signal.ensures.comes in
    can_start order k c.note_signal.new.k _ noted (good_come (begun (view order k.tables)) 0 c.args.s c.args.count good)

pub returns : goal.returns
returns g c =
    let order = g.R.Ready.order in
    let k = c.args.k.now in
    let untold = (rests order g.R.Ready.prio k c.tables-sound.ensures.sound c.requires.idle.main).1 in
    let noted = signal_noted order k c.note_signal.new.k c.args.s c.args.count c.from.result c.requires.idle untold c.requires.room.pends c.ranges.count.fits c.number-in_scope.ensures.scope c.from.ensures c.note_signal.ensures.comes in
    begun_by order k c.note_signal.new.k _ noted c.begin_arrival.new.self (Arrival (ArriveSig c.args.first c.args.count c.args.s) c.args.at) c.begin_arrival.ensures
