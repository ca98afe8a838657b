use Rattle.std.proofs.Common.{◌∙◌, ap}
use Rattle.process_engine.specs.Engine.{stop_of}
use Rattle.process_engine.proofs.ArrivalLemmas.{first_now, first_sound}
use Rattle.process_engine.proofs.process.Process.new.Goals as goal

pub invariant_of-result : goal.invariant_of-result
invariant_of-result c =
    let start = c.in_ok-kernel.ensures in
    first_sound c.in_ok-kernel.kernel c.args.journal c.args.settings c.args.mem c.args.entry.0 start.start start.idle start.outside start.settings c.attach.new.self c.in_ok-attach.ensures.made
    c.stop_before-stop.result c.next_place.ensures.sound c.len-journal.ensures.journal c.requires.built c.requires.budget
    (c.stop_before-stop.ensures ∙ ap (stop_of c.args.settings.budget) c.next_place.ensures.place)

pub returns-clause-start : goal.returns-clause-start
returns-clause-start c =
    let start = c.in_ok-kernel.ensures in
    first_now c.in_ok-kernel.kernel c.args.journal c.args.settings c.args.mem c.args.entry.0 start.start start.idle start.outside start.settings c.attach.new.self c.in_ok-attach.ensures.made
    c.stop_before-stop.result
