use Rattle.std.proofs.Common.{ap, arith}
use Rattle.thread_signals.specs.Counts.{total}
use Rattle.thread_signals.specs.SignalState.{SignalState}
use Rattle.thread_signals.proofs.Signals.take_at.Goals as goal

pub returns-clause-sum : goal.returns-clause-sum
returns-clause-sum c =
    let after = ap (λ (state : SignalState). total state.counts) c.put_count.ensures in
    let sum = c.count_at-count.ensures.sum 0 in
    omega (arith, after, sum)
