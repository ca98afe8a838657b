use Rattle.journal_text.proofs.Parts.{good_parts}
use Rattle.journal_text.proofs.draft.Draft.push.Goals as goal

pub place-requires : goal.place-requires
place-requires c = (good_parts _ _ c.requires.good).number

pub what-requires-clause-signal : goal.what-requires-clause-signal
what-requires-clause-signal c = (good_parts _ _ c.requires.good).signal
