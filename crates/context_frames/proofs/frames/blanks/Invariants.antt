use Rattle.std.proofs.Common.{◌≡◌, length}
use Rattle.context_frames.proofs.frames.blanks.Given as goal

abbrev pub invariant-loop-index : goal.invariant-loop-index
invariant-loop-index l = length l.frames.items ≡ l.index
