use Rattle.std.proofs.Common.{◌≡◌}
use Rattle.posix_model.proofs.TraceLemmas.{moves_left}
use Rattle.trace_text.specs.Counting.{no_counts}
use Rattle.process_engine.specs.Engine.{moment_of}
use Rattle.process_engine.specs.Advancing.{no_text, Makes}
use Rattle.process_engine.specs.declared.stage.Stage.TheVariants.{Going}
use Rattle.process_engine.proofs.process.Process.run_turn.Given as goal

abbrev pub invariant-loop-self : goal.invariant-loop-self
invariant-loop-self l =
    (l.self.rules ≡ l.fn.self.rules) × (l.self.stage ≡ Going) × Makes l.fn.self.rules (moment_of l.fn.self) (moment_of l.self) no_counts no_text

abbrev pub decreases-loop-self : goal.decreases-loop-self
decreases-loop-self l = moves_left l.fn.self.rules (moment_of l.self)
