use Rattle.std.proofs.Common.{◌≡◌, ◌∙◌, ap, arith, refl, sym, length, ◌+◌}
use Rattle.ready_queues.specs.Queue.{Queue}
use Rattle.kernel_state.specs.Kernels.{KernelState}
use Rattle.posix_model.specs.Runs.{Rules}
use Rattle.process_engine.specs.Engine.{Engine, moment_of}
use Rattle.process_engine.proofs.DueLemmas.{due_there}
use Rattle.process_engine.proofs.EngineLemmas.{due_parts}
use Rattle.process_engine.proofs.process.Process.present_due.Goals as goal

pub loop-self-init : goal.loop-self-init
loop-self-init c = (refl, refl, λ h. h)

pub loop-self-smaller : goal.loop-self-smaller
loop-self-smaller c =
    let p : Engine = c.loop-self.self in
    let q : Engine = c.present.new.self in
    let there = due_there p.rules (moment_of p) (p.kernel.outside.presented + 1) (due_parts p (sym c.due.ensures ∙ c.loop-self-test.true)).1 in
    let next : q.kernel.outside.presented ≡ p.kernel.outside.presented + 1 = ap (λ (k : KernelState Queue). k.outside.presented) c.present.ensures.presents.kernel in
    let same = ap (λ (r : Rules). length r.journal.entries) c.present.ensures.rules in
    omega (arith, there, next, same)

pub loop-self-preserved : goal.loop-self-preserved
loop-self-preserved c =
    let old = c.loop-self.invariant in
    (c.present.ensures.presents.position ∙ old.0, c.present.ensures.rules ∙ old.1, λ h. c.present.ensures.paused)

pub returns-clause-same : goal.returns-clause-same
returns-clause-same c = c.loop-self.invariant.0

pub returns-clause-rules : goal.returns-clause-rules
returns-clause-rules c = c.loop-self.invariant.1

pub returns-clause-paused : goal.returns-clause-paused
returns-clause-paused c = c.loop-self.invariant.2
