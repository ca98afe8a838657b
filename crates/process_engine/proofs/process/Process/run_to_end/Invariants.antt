use Rattle.std.proofs.Common.{◌≡◌}
use Rattle.process_engine.specs.Engine.{moment_of, position_of}
use Rattle.process_engine.proofs.WholeLemmas.{HasRun, turns_remaining}
use Rattle.process_engine.proofs.process.Process.run_to_end.Given as goal

abbrev pub invariant-loop-ending : goal.invariant-loop-ending
invariant-loop-ending l = (l.self.rules ≡ l.fn.self.rules) × HasRun l.fn.self.rules (moment_of l.fn.self) (moment_of l.self)

abbrev pub decreases-loop-ending : goal.decreases-loop-ending
decreases-loop-ending l = turns_remaining l.fn.self.rules (position_of l.self)
