use Rattle.std.proofs.Common.{subst, arith, refl, ◌+◌}
use Rattle.thread_signals.specs.SignalState.{Table, state_of}
use Rattle.thread_signals.proofs.CalmLemmas.{HasSums, has_sums, one_counted, all_counted, each_counted}
use Rattle.thread_signals.proofs.Signals.left.Goals as goal

pub loop-n-init : goal.loop-n-init
loop-n-init c = record { long = refl; each = λ sig h. absurd (omega (arith, h)) }

pub loop-n-preserved : goal.loop-n-preserved
loop-n-preserved c = one_counted (state_of c.args.self.now).counts c.loop-n.n (c.loop-n.n + 1) c.loop-n.left c.left_of.result c.loop-n.invariant (omega arith) refl c.left_of.ensures

pub returns-clause-list : goal.returns-clause-list
returns-clause-list c = all_counted (state_of c.args.self.now).counts c.loop-n.n c.loop-n.left c.loop-n.invariant (omega arith)

pub returns-clause-each : goal.returns-clause-each
returns-clause-each c =
    let sums = subst (λ (v : Table). HasSums (state_of v)) c.self.view_is (has_sums _ c.self.inside.pending _ c.self.invariant) in
    each_counted (state_of c.args.self.now).counts c.loop-n.n c.loop-n.left sums.scope c.loop-n.invariant (omega arith)
