use Rattle.journal_text.proofs.SpelledLaw.{spelled}
use Rattle.journal_text.proofs.laws.spelled.Goals as goal

pub returns : goal.returns
returns c = spelled
