use Rattle.std.proofs.Common.{sym, refl, subst, arith}
use Rattle.thread_base.specs.Maps.{put}
use Rattle.posix_model.specs.State.{State}
use Rattle.posix_model.specs.Deliveries.{in_handler}
use Rattle.kernel_state.specs.Changing.{CanThread}
use Rattle.kernel_state.specs.declared.change.ThreadChange.TheVariants.{Handle}
use Rattle.kernel_state.specs.View.{view}
use Rattle.calls_thread.proofs.TestLemmas.{prepared_good, prepared_alone}
use Rattle.calls_thread.proofs.tests.handler_return.Goals as goal

pub prepare-requires-clause-can : goal.prepare-requires-clause-can
unfolding put
prepare-requires-clause-can g c =
    let start = c.in_ok-k.ensures.start in
    subst (CanThread (Handle c.of-signal.result 0x10100 c.of-mask.result) 1) (sym start.1) (refl, omega arith)

pub prepare-requires-clause-good : goal.prepare-requires-clause-good
prepare-requires-clause-good g c =
    let s : State = view g.R.Ready.order c.in_ok-k.k.tables in
    let start = c.in_ok-k.ensures.start in
    prepared_good s start.0 0x10000 start.1 (in_handler (s.threads 1) c.of-signal.result 0x10100 c.of-mask.result) refl refl

pub prepare-requires-clause-alone : goal.prepare-requires-clause-alone
prepare-requires-clause-alone g c =
    let s : State = view g.R.Ready.order c.in_ok-k.k.tables in
    let start = c.in_ok-k.ensures.start in
    prepared_alone s start.0 0x10000 start.1 (in_handler (s.threads 1) c.of-signal.result 0x10100 c.of-mask.result)
