use Rattle.std.proofs.Common.{◌≤◌, ◌-◌, length, drop}
use Rattle.posix_model.specs.Lines.{hex}
use Rattle.replay_io.proofs.WritingLemmas.{SoFar}
use Rattle.trace_text.proofs.output.put_hex.Given as goal

abbrev pub invariant-loop-from : goal.invariant-loop-from
invariant-loop-from g l =
    (l.from ≤ length l.bytes)
    × SoFar (g.O.Sink.written l.fn.out) (g.O.Sink.written l.out) (g.O.Sink.faults l.fn.out) (g.O.Sink.faults l.out)
    (hex (drop l.from l.bytes)) (hex l.bytes)

abbrev pub decreases-loop-from : goal.decreases-loop-from
decreases-loop-from g l = length l.bytes - l.from
