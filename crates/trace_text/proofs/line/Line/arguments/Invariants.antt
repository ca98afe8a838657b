use Rattle.std.proofs.Common.{◌≡◌, ◌≤◌, ◌+◌, ◌*◌, ◌++◌, length, take}
use Rattle.std.specs.List.{flat_map}
use Rattle.posix_model.specs.Lines.{number}
use Rattle.trace_text.proofs.line.Line.arguments.Given as goal

abbrev pub invariant-loop-n : goal.invariant-loop-n
invariant-loop-n l = (l.self ≡ l.initial.self ++ flat_map number (take l.n-index l.arguments)) × (length l.self ≤ length l.initial.self + 21 * l.n-index)
