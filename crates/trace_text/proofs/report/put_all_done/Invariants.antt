use Rattle.posix_model.specs.Lines.{done_line, done_lines}
use Rattle.replay_io.proofs.WritingLemmas.{SoFar}
use Rattle.trace_text.proofs.Loops.{parts_from}
use Rattle.trace_text.proofs.report.put_all_done.Given as goal

abbrev pub invariant-loop-index : goal.invariant-loop-index
invariant-loop-index g l =
    SoFar (g.O.Sink.written l.fn.out) (g.O.Sink.written l.out) (g.O.Sink.faults l.fn.out) (g.O.Sink.faults l.out)
    (parts_from (done_line l.r) 1 64 l.index) (done_lines l.r)
