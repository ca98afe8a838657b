use Rattle.std.proofs.Common.{◌≡◌, ◌≤◌, ◌*◌, length, take}
use Rattle.posix_model.specs.Lines.{hex}
use Rattle.trace_text.proofs.output.put_piece.Given as goal

abbrev pub invariant-loop-b : goal.invariant-loop-b
invariant-loop-b g l = (l.line ≡ hex (take l.b-index l.bytes)) × (length l.line ≤ 2 * l.b-index)
