use Rattle.std.proofs.Common.{◌≡◌, ◌-◌, length}
use Rattle.process_engine.specs.Engine.{position_of}
use Rattle.process_engine.specs.declared.stage.Stage.TheVariants.{Paused}
use Rattle.process_engine.proofs.process.Process.present_due.Given as goal

abbrev pub invariant-loop-self : goal.invariant-loop-self
invariant-loop-self l =
    (position_of l.self ≡ position_of l.fn.self) × (l.self.rules ≡ l.fn.self.rules) × (l.fn.self.stage ≡ Paused → l.self.stage ≡ Paused)

abbrev pub decreases-loop-self : goal.decreases-loop-self
decreases-loop-self l = length l.self.rules.journal.entries - l.self.kernel.outside.presented
