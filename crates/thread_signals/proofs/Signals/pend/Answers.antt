use Rattle.std.proofs.Common.{◌+◌, ap, arith}
use Rattle.thread_signals.specs.Counts.{total}
use Rattle.thread_signals.specs.SignalState.{SignalState}
use Rattle.thread_signals.proofs.Signals.pend.Goals as goal

pub overflow_add-had : goal.overflow_add-had
overflow_add-had c = let sum = c.count_at-had.ensures.sum 0 in omega (arith, sum)

pub returns-clause-sum : goal.returns-clause-sum
returns-clause-sum c =
    let after = ap (λ (state : SignalState). total state.counts) c.put_count.ensures in
    let sum = c.count_at-had.ensures.sum (c.count_at-had.result + c.args.count) in
    omega (arith, after, sum)
