use Rattle.std.proofs.Common.{◌≡◌, ◌+◌, drop}
use Rattle.replay_cli.specs.Journal.{first_unbuilt}
use Rattle.replay_cli.proofs.journal.first_unbuilt.Given as goal

abbrev pub invariant-loop-i : goal.invariant-loop-i
invariant-loop-i l = first_unbuilt 2 l.journal.entries ≡ first_unbuilt (l.i + 2) (drop l.i l.journal.entries)
