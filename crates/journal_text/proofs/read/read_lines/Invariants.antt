use Rattle.std.proofs.Common.{◌≡◌, ◌≤◌, ◌+◌, length}
use Rattle.journal_text.specs.Contents.{empty}
use Rattle.journal_text.specs.Lines.{lines}
use Rattle.journal_text.specs.Refusals.{first_bad_line, with_lines}
use Rattle.journal_text.proofs.read.read_lines.Given as goal

abbrev pub invariant-loop-rest : goal.invariant-loop-rest
invariant-loop-rest l = record {
  bad : first_bad_line empty (lines l.text) ≡ first_bad_line l.draft (lines l.rest);
  entries : with_lines empty (lines l.text) ≡ with_lines l.draft (lines l.rest);
  room : length l.draft.entries + length l.draft.bytes + length l.rest ≤ 16777216;
}

abbrev pub decreases-loop-rest : goal.decreases-loop-rest
decreases-loop-rest l = length l.rest
