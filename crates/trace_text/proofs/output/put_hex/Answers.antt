use Rattle.std.proofs.Common.{arith, ◌+◌, ◌-◌}
use Rattle.replay_io.proofs.WritingLemmas.{one_more, one_fails, writes_err}
use Rattle.trace_text.proofs.Loops.{hex_piece}
use Rattle.trace_text.proofs.output.put_hex.Goals as goal

pub returns-in_err-put_piece : goal.returns-in_err-put_piece
returns-in_err-put_piece g c =
    let n = c.loop-from.from + c.min-count.result - c.loop-from.from in
    writes_err c.from_residual.result _ _ _ _ _ c.from_residual.ensures.0
    (one_fails _ _ _ _ _ _ _ _ _ _ c.loop-from.invariant.1 c.in_err-put_piece.ensures (hex_piece c.args.bytes.now c.loop-from.from c.min-count.result n (omega arith)))

pub loop-from-preserved : goal.loop-from-preserved
loop-from-preserved g c =
    let n = c.loop-from.from + c.min-count.result - c.loop-from.from in
    (omega arith, one_more _ _ _ _ _ _ _ _ _ _ c.loop-from.invariant.1 c.in_ok-put_piece.ensures (hex_piece c.args.bytes.now c.loop-from.from c.min-count.result n (omega arith)))
