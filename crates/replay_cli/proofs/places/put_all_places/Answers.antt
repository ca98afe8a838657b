use Rattle.std.proofs.Common.{arith}
use Rattle.thread_base.specs.Priority.{tids}
use Rattle.process_engine.specs.Engine.{moment_of}
use Rattle.replay_cli.specs.Places.{place_at, place_lines}
use Rattle.replay_io.proofs.WritingLemmas.{none_yet, one_more, one_fails, all_written, writes_err}
use Rattle.trace_text.proofs.Loops.{parts_at_first, parts_next, parts_done}
use Rattle.replay_cli.proofs.places.put_all_places.Goals as goal

pub loop-index-init : goal.loop-index-init
unfolding place_lines tids
loop-index-init g c = none_yet _ _ _ _ (parts_at_first (place_at (moment_of c.args.process.now).state) 1 64)

pub returns-in_err-put_place_at : goal.returns-in_err-put_place_at
returns-in_err-put_place_at g c =
    writes_err c.from_residual.result _ _ _ _ _ c.from_residual.ensures.0
    (one_fails _ _ _ _ _ _ _ _ _ _ c.loop-index.invariant c.in_err-put_place_at.ensures (parts_next (place_at (moment_of c.args.process.now).state) 1 64 c.loop-index.index c.at.result c.loop-index-test.true (omega arith)))

pub loop-index-preserved : goal.loop-index-preserved
loop-index-preserved g c =
    one_more _ _ _ _ _ _ _ _ _ _ c.loop-index.invariant c.in_ok-put_place_at.ensures (parts_next (place_at (moment_of c.args.process.now).state) 1 64 c.loop-index.index c.at.result c.loop-index-test.true (omega arith))

pub returns : goal.returns
returns g c = all_written _ _ _ _ _ _ c.loop-index.invariant (parts_done (place_at (moment_of c.args.process.now).state) 1 64 c.loop-index.index c.loop-index-test.false)
