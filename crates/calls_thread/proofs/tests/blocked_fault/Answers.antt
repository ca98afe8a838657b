use Rattle.std.proofs.Common.{refl}
use Rattle.posix_model.specs.State.{State}
use Rattle.kernel_state.specs.View.{view}
use Rattle.calls_thread.proofs.TestLemmas.{prepared_good, prepared_alone}
use Rattle.calls_thread.proofs.tests.blocked_fault.Goals as goal

pub prepare-requires-clause-good : goal.prepare-requires-clause-good
prepare-requires-clause-good g c =
    let s : State = view g.R.Ready.order c.in_ok-k.k.tables in
    let start = c.in_ok-k.ensures.start in
    prepared_good s start.0 0x10000 start.1 (record (s.threads 1) { mask = c.args.mask }) refl refl

pub prepare-requires-clause-alone : goal.prepare-requires-clause-alone
prepare-requires-clause-alone g c =
    let s : State = view g.R.Ready.order c.in_ok-k.k.tables in
    let start = c.in_ok-k.ensures.start in
    prepared_alone s start.0 0x10000 start.1 (record (s.threads 1) { mask = c.args.mask })
