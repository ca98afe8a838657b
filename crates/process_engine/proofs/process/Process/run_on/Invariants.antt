use Rattle.std.proofs.Common.{◌≡◌, None}
use Rattle.posix_model.proofs.TraceLemmas.{moves_left}
use Rattle.process_engine.specs.Engine.{position_of, moment_of}
use Rattle.process_engine.proofs.RunLemmas.{SoFar}
use Rattle.process_engine.proofs.process.Process.run_on.Given as goal

abbrev pub invariant-loop-before : goal.invariant-loop-before
invariant-loop-before g l =
    (l.self.rules ≡ l.fn.self.rules)
    × ((position_of l.self).telling ≡ None)
    × (l.first ≡ l.fn.self.instructions)
    × SoFar l.mode l.fn.self.rules (moment_of l.fn.self) (moment_of l.self) l.told (g.O.Sink.written l.fn.out) (g.O.Sink.written l.out) (g.O.Sink.faults l.fn.out) (g.O.Sink.faults l.out)

abbrev pub decreases-loop-before : goal.decreases-loop-before
decreases-loop-before g l = moves_left l.fn.self.rules (moment_of l.self)
