use Rattle.std.proofs.Common.{◌≡◌, ◌∙◌, sym, subst, ap}
use Rattle.journal_text.specs.Spelling.{spell}
use Rattle.journal_text.specs.Refusals.{entries_of}
use Rattle.journal_text.specs.Valid.{IsJournal}
use Rattle.journal_text.proofs.SpelledLaw.{spelled}
use Rattle.journal_text.proofs.read.read_journal.Goals as goal

pub finish-requires : goal.finish-requires
finish-requires c =
    let whole = c.in_ok-text.ensures in
    let read = c.in_ok-draft.ensures {u = tt} in
    let same : c.in_ok-draft.draft ≡ entries_of c.args.bytes.now = read.entries ∙ sym whole.entries in
    subst IsJournal (sym same) (spelled c.args.bytes.now (whole.bad ∙ read.good)).0

pub returns-clause-accepted : goal.returns-clause-accepted
returns-clause-accepted c =
    let whole = c.in_ok-text.ensures in
    let read = c.in_ok-draft.ensures {u = tt} in
    let same : c.finish.result ≡ entries_of c.args.bytes.now = c.finish.ensures ∙ (read.entries ∙ sym whole.entries) in
    (spelled c.args.bytes.now (whole.bad ∙ read.good)).1 ∙ ap spell (sym same)
