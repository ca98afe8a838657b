use Rattle.std.proofs.Common.{arith}
use Rattle.thread_base.specs.Priority.{tids}
use Rattle.posix_model.specs.Lines.{done_line, done_lines}
use Rattle.replay_io.proofs.WritingLemmas.{none_yet, one_more, one_fails, all_written, writes_err}
use Rattle.trace_text.proofs.Loops.{parts_at_first, parts_next, parts_done}
use Rattle.trace_text.proofs.report.put_all_done.Goals as goal

pub loop-index-init : goal.loop-index-init
unfolding done_lines tids
loop-index-init g c = none_yet _ _ _ _ (parts_at_first (done_line c.args.r.now) 1 64)

pub returns-in_err-put_done : goal.returns-in_err-put_done
returns-in_err-put_done g c =
    writes_err c.from_residual.result _ _ _ _ _ c.from_residual.ensures.0
    (one_fails _ _ _ _ _ _ _ _ _ _ c.loop-index.invariant c.in_err-put_done.ensures (parts_next (done_line c.args.r.now) 1 64 c.loop-index.index c.at.result c.loop-index-test.true (omega arith)))

pub loop-index-preserved : goal.loop-index-preserved
loop-index-preserved g c =
    one_more _ _ _ _ _ _ _ _ _ _ c.loop-index.invariant c.in_ok-put_done.ensures (parts_next (done_line c.args.r.now) 1 64 c.loop-index.index c.at.result c.loop-index-test.true (omega arith))

pub returns : goal.returns
returns g c = all_written _ _ _ _ _ _ c.loop-index.invariant (parts_done (done_line c.args.r.now) 1 64 c.loop-index.index c.loop-index-test.false)
