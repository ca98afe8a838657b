use Rattle.std.proofs.Common.{arith}
use Rattle.posix_model.specs.Lines.{count_line, count_lines, sig_numbers}
use Rattle.replay_io.proofs.WritingLemmas.{none_yet, one_more, one_fails, all_written, writes_err}
use Rattle.trace_text.proofs.Loops.{parts_at_first, parts_next, parts_done}
use Rattle.trace_text.proofs.counts.put_counts_under.Goals as goal

pub loop-sig-init : goal.loop-sig-init
unfolding count_lines sig_numbers
loop-sig-init g c = none_yet _ _ _ _ (parts_at_first (count_line c.args.word.now c.args.counts.now) 0 32)

pub returns-in_err-put_count : goal.returns-in_err-put_count
returns-in_err-put_count g c =
    writes_err c.from_residual.result _ _ _ _ _ c.from_residual.ensures.0
    (one_fails _ _ _ _ _ _ _ _ _ _ c.loop-sig.invariant c.in_err-put_count.ensures (parts_next (count_line c.args.word.now c.args.counts.now) 0 32 c.loop-sig.sig c.loop-sig.sig c.loop-sig-test.true (omega arith)))

pub loop-sig-preserved : goal.loop-sig-preserved
loop-sig-preserved g c =
    one_more _ _ _ _ _ _ _ _ _ _ c.loop-sig.invariant c.in_ok-put_count.ensures (parts_next (count_line c.args.word.now c.args.counts.now) 0 32 c.loop-sig.sig c.loop-sig.sig c.loop-sig-test.true (omega arith))

pub returns : goal.returns
returns g c = all_written _ _ _ _ _ _ c.loop-sig.invariant (parts_done (count_line c.args.word.now c.args.counts.now) 0 32 c.loop-sig.sig c.loop-sig-test.false)
