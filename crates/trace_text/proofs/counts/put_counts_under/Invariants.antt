use Rattle.posix_model.specs.Lines.{count_line, count_lines}
use Rattle.replay_io.proofs.WritingLemmas.{SoFar}
use Rattle.trace_text.proofs.Loops.{parts_from}
use Rattle.trace_text.proofs.counts.put_counts_under.Given as goal

abbrev pub invariant-loop-sig : goal.invariant-loop-sig
invariant-loop-sig g l =
    SoFar (g.O.Sink.written l.fn.out) (g.O.Sink.written l.out) (g.O.Sink.faults l.fn.out) (g.O.Sink.faults l.out)
    (parts_from (count_line l.word l.counts) 0 32 l.sig) (count_lines l.word l.counts)
