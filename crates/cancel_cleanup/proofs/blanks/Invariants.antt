use Rattle.std.proofs.Common.{◌≡◌, length}
use Rattle.cancel_cleanup.proofs.blanks.Given as goal

abbrev pub invariant-loop-index : goal.invariant-loop-index
invariant-loop-index l = length l.records.items ≡ l.index
