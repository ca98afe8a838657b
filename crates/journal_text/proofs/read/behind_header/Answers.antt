use Rattle.std.proofs.Common.{◌∙◌, sym, ap}
use Rattle.std.proofs.lemmas.List.{take_rest}
use Rattle.journal_text.specs.Contents.{empty}
use Rattle.journal_text.specs.Lines.{lines}
use Rattle.journal_text.specs.Refusals.{first_bad_line}
use Rattle.journal_text.proofs.SpelledLaw.{first_bad-header}
use Rattle.journal_text.proofs.read.behind_header.Goals as goal

pub returns-clause-bad : goal.returns-clause-bad
returns-clause-bad c =
    let at = first_bad-header c.args.bytes.now c.if-bytes-gt-MOST.false (sym c.starts_with.ensures.value ∙ c.if-not-starts_with.false) in
    at ∙ ap (λ text. first_bad_line empty (lines text)) (sym (take_rest c.args.bytes.now 14))
