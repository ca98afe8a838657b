use Rattle.std.proofs.Common.{drop, arith, length-drop, append-nil, sym, ◌∙◌}
use Rattle.journal_text.proofs.Digits.{hex_bytes_short}
use Rattle.journal_text.proofs.written.put_bytes.Goals as goal

pub returns-clause-grown : goal.returns-clause-grown
returns-clause-grown c =
    let rest = drop c.loop-at.at c.args.digits.now in
    let nothing = hex_bytes_short rest (omega (arith, length-drop c.loop-at.at c.args.digits.now)) in
    let whole = c.loop-at.invariant.2 in
    sym (append-nil c.loop-at.bytes.items) ∙ (rw nothing at whole)
