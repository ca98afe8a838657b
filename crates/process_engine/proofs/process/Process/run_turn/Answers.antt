use Rattle.std.proofs.Common.{◌∙◌, ap, sym, subst}
use Rattle.trace_text.specs.Counting.{no_counts}
use Rattle.process_engine.specs.Engine.{Engine, moment_of, owed_of, telling_of}
use Rattle.process_engine.specs.Advancing.{no_text, Makes, Proceeds}
use Rattle.process_engine.proofs.RunLemmas.{plain_too, plain_falls, stays_good, proceeds, proceeds_after}
use Rattle.process_engine.proofs.process.Process.run_turn.Goals as goal

pub loop-self-preserved : goal.loop-self-preserved
loop-self-preserved c =
    let now = c.loop-self.invariant in
    let plain = c.in-Plain.ensures.advances in (
      c.in-Plain.ensures.rules ∙ now.0,
      plain.0.stage,
      plain_too c.args.self.now.rules c.args.self.now c.loop-self.self c.instruction.new.self now.2 (sym now.0) plain,
    )

pub returns-in_default-clause-proceeds : goal.returns-in_default-clause-proceeds
returns-in_default-clause-proceeds c =
    let now = c.loop-self.invariant in
    let rest = ap (λ s. telling_of s (owed_of c.loop-self.self).report) now.1 in
    proceeds c.args.self.now.rules c.args.self.now c.loop-self.self c.instruction.new.self now.2 (sym now.0) c.instruction.result rest c.in_default.not-Plain c.instruction.ensures.advances

pub loop-self-smaller : goal.loop-self-smaller
loop-self-smaller c =
    let rules = c.args.self.now.rules in
    let now = c.loop-self.invariant in
    plain_falls rules c.loop-self.self c.instruction.new.self c.sound.ensures.whole (stays_good rules _ _ _ _ c.sound.ensures.good now.2) (sym now.0) c.in-Plain.ensures.advances.0

pub returns-clause-proceeds : goal.returns-clause-proceeds
returns-clause-proceeds c =
    let now = c.loop-self.invariant in
    let p : Engine = c.args.self.now in
    let m : Engine = c.pause.new.self in
    let on = subst (λ n. Makes p.rules (moment_of p) n no_counts no_text) (sym c.pause.ensures.same) now.2 in
    proceeds_after p.rules p m c.go_on.new.self on c.go_on.result (subst (λ r. Proceeds r m c.go_on.result c.go_on.new.self) (c.pause.ensures.rules ∙ now.0) c.go_on.ensures.proceeds)
