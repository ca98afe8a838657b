use Rattle.std.proofs.Common.{ap, sym}
use Rattle.process_engine.specs.Engine.{Engine, Position, moment_of, owed_of, telling_of}
use Rattle.process_engine.proofs.RunLemmas.{makes_same, proceeds}
use Rattle.process_engine.proofs.process.Process.go_on.Goals as goal

pub returns-clause-proceeds : goal.returns-clause-proceeds
returns-clause-proceeds c =
    let p = c.args.self.now in
    let m : Engine = c.present_due.new.self in
    let quiet = ap (λ s. telling_of s (owed_of m).report) (c.present_due.ensures.paused c.requires) in
    let same = ap (λ (x : Position). x.now) c.present_due.ensures.same in
    proceeds p.rules p m c.resume.new.self (makes_same p.rules (moment_of p) (moment_of m) same) (sym c.present_due.ensures.rules) c.resume.result quiet c.resume.ensures.switched c.resume.ensures.advances
