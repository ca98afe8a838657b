use Rattle.replay_io.proofs.WritingLemmas.{SoFar}
use Rattle.trace_text.proofs.Loops.{parts_from}
use Rattle.process_engine.specs.Engine.{moment_of}
use Rattle.replay_cli.specs.Places.{place_at, place_lines}
use Rattle.replay_cli.proofs.places.put_all_places.Given as goal

abbrev pub invariant-loop-index : goal.invariant-loop-index
invariant-loop-index g l =
    SoFar (g.O.Sink.written l.fn.out) (g.O.Sink.written l.out) (g.O.Sink.faults l.fn.out) (g.O.Sink.faults l.out)
    (parts_from (place_at (moment_of l.process).state) 1 64 l.index) (place_lines (moment_of l.process).state)
