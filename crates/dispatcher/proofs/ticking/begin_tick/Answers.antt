use Rattle.std.proofs.Common.{Some}
use Rattle.journal_text.specs.declared.entry.What.TheVariants.{Tick}
use Rattle.posix_model.specs.declared.Head.TheVariants.{ArriveTick}
use Rattle.posix_model.proofs.GoodArrivals.{good_arrived}
use Rattle.kernel_state.specs.View.{view}
use Rattle.kernel_state.specs.declared.kernel.MainLine.TheVariants.{Arrival}
use Rattle.kernel_state.proofs.KernelLemmas.{rests}
use Rattle.kernel_state.proofs.NoteLemmas.{can_start, begun_by}
use Rattle.dispatcher.specs.Arriving.{rules_of}
use Rattle.dispatcher.proofs.ticking.begin_tick.Goals as goal

pub begin_arrival-requires : goal.begin_arrival-requires
begin_arrival-requires g c =
    let order = g.R.Ready.order in
    let k = c.args.k.now in
    let good = (rests order g.R.Ready.prio k c.tables-sound.ensures.sound c.requires.idle.main).0 in
    can_start order k c.note_tick.new.k _ c.note_tick.ensures
    (good_arrived (rules_of k) (view order k.tables) c.args.first 1 c.args.at (Some (record { place = c.args.at; what = Tick })) good)

pub returns : goal.returns
returns g c =
    let order = g.R.Ready.order in
    let k = c.args.k.now in
    begun_by order k c.note_tick.new.k _ c.note_tick.ensures c.begin_arrival.new.self (Arrival (ArriveTick c.args.first) c.args.at) c.begin_arrival.ensures
