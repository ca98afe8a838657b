-- The four forms of a line.
use Rattle.std.proofs.Common.{◌≡◌, ℕ, true, List, ap, ◌∙◌}
use Rattle.std.proofs.lemmas.Bool.{and_parts, and_from, or_left}
use Rattle.journal_text.specs.Lines.{parts_of, is_form}
use Rattle.journal_text.specs.Laws.{IsWrittenEvent, sig as sig_written, tick as tick_written, bytes as data_written, eof as eof_written, IsWrittenLine, FourForms}
use Rattle.journal_text.proofs.Parts.{is_event, form_parts}
use Rattle.journal_text.proofs.Events.{IsForm, tick, eof, sig, bytes, is_form_by}
use Rattle.journal_text.proofs.SpelledLaw.{written_back}
use Rattle.journal_text.proofs.ReadAgainLaw.{parts_of-line}

event_written : (event : List ℕ) → IsForm 0 event → IsWrittenEvent event
event_written event (tick e what no_bytes) = tick_written e
event_written event (eof e what no_bytes) = eof_written e
event_written event (sig ds e digits what no_bytes) = sig_written ds digits e
event_written event (bytes ds e is_of_hex what are) = data_written ds is_of_hex e

event_tested : (event : List ℕ) → IsWrittenEvent event → is_event event ≡ true
event_tested event (sig_written ds digits e) = ap is_event e ∙ or_left _ _ digits
event_tested event (tick_written e) = ap is_event e
event_tested event (data_written ds digits e) = ap is_event e ∙ digits
event_tested event (eof_written e) = ap is_event e

line_written : (text : List ℕ) → is_form (parts_of text) ≡ true → IsWrittenLine text
line_written text form =
    let p = parts_of text in
    let parts = form_parts p form in
    record {
      n = p.n;
      k = p.k;
      event = p.event;
      n_digits = parts.0;
      k_digits = parts.1;
      form = event_written p.event (is_form_by 0 p.event parts.2);
      whole = written_back text form;
    }

line_tested : (text : List ℕ) → IsWrittenLine text → is_form (parts_of text) ≡ true
line_tested text line =
    let n = and_parts _ _ line.n_digits in
    let k = and_parts _ _ line.k_digits in
    let parts = ap parts_of line.whole ∙ parts_of-line line.n line.k line.event n.1 k.1 in
    ap is_form parts ∙ and_from _ _ line.n_digits (and_from _ _ line.k_digits (event_tested line.event line.form))

pub four_forms : FourForms
four_forms text = (line_written text, line_tested text)
