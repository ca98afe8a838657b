use Rattle.std.proofs.Common.{◌≡◌, min, take}
use Rattle.journal_text.specs.Lines.{number}
use Rattle.journal_text.proofs.written.number.Given as goal

abbrev pub invariant-loop-digit : goal.invariant-loop-digit
invariant-loop-digit l = l.n ≡ min (number (take l.digit-index l.digits)) 4294967295
