use Rattle.std.proofs.Common.{arith}
use Rattle.calls_signal.proofs.tests.first_other.Goals as goal

pub call-requires-clause-few : goal.call-requires-clause-few
call-requires-clause-few g c =
    let pends = c.loop-row.invariant.1 in
    let time = c.loop-row.invariant.2 in
    record { pends = omega arith; time = omega arith }
