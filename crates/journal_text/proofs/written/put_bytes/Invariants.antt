use Rattle.std.proofs.Common.{◌≡◌, ◌≤◌, ◌++◌, ◌-◌, ◌+◌, length, drop}
use Rattle.journal_text.specs.Lines.{hex_bytes}
use Rattle.journal_text.proofs.written.put_bytes.Given as goal

abbrev pub invariant-loop-at : goal.invariant-loop-at
invariant-loop-at l = (l.at ≤ length l.digits) × (length l.bytes.items ≤ length l.fn.bytes.items + l.at) × (l.bytes.items ++ hex_bytes (drop l.at l.digits) ≡ l.fn.bytes.items ++ hex_bytes l.digits)

abbrev pub decreases-loop-at : goal.decreases-loop-at
decreases-loop-at l = length l.digits - l.at
