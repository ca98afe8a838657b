-- What a replay writes of a run, and what it tells beside it (this project's own format).
use Rattle.std.specs.Prelude.{ℕ, List, [], Option}
use Rattle.posix_model.specs.Lines.{end_line}
use Rattle.posix_model.specs.declared.Ending.{Ending}
use Rattle.trace_text.specs.declared.Mode.{Mode}
use Rattle.trace_text.specs.declared.Mode.TheVariants.{Trace, Plain}
use Rattle.replay_cli.specs.Words.{Request}
use Rattle.replay_cli.specs.Headline.{WritesRunOf}
use Rattle.replay_cli.specs.Causes.{Tells}

-- the line beside the text of a run: plain text does not tell the ending, so its line stands beside it; beside a trace there is none
abbrev pub beside : Mode → Ending → List ℕ
beside Trace ending = []
beside Plain ending = end_line ending

-- that line came to the error sink after what was written before, or a front of it where the sink's count of faults rose
abbrev pub IsBeside : Mode → Ending → Option (List ℕ) → Option (List ℕ) → ℕ → ℕ → Type 0
IsBeside mode ending before after faults_before faults_after = Tells before after faults_before faults_after (beside mode ending)

-- the text of one whole run from an image, under a journal, as it is asked for, came to the output, and beside it what belongs
-- to its ending to the error sink
pub record TellsRunOf (asked : Request) (image journal : List ℕ) (out_before out_after err_before err_after : Option (List ℕ)) (faults_before faults_after : ℕ) : Type 0 where
  pub ending : Ending
  pub writes : WritesRunOf asked ending image journal out_before out_after
  pub line : IsBeside asked.mode ending err_before err_after faults_before faults_after
