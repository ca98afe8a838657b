-- What is read of a line is spelled so.
use Rattle.std.proofs.Common.{◌≡◌, ℕ, ◌<◌, ◌^◌, ◌/◌, ◌%◌, ◌≤◌, Bool, true, false, cond, not, eqb, ltb, List, [], ◌∷◌, ◌++◌, length, take, drop, refl, sym, ap, ◌∙◌, subst, arith, lit≤, codes, nat_eq, append_assoc, append-nil, length-append, Option, None}
use Rattle.std.proofs.lemmas.Bool.{ltb-false, leb-false, le-ltb, not-false}
use Rattle.std.proofs.lemmas.Bool.Decides.{nat_tests}
use Rattle.std.specs.List.{starts_with, list_all, before_first, after_first, flat_map}
use Rattle.std.proofs.lemmas.Grind.{flat_map-append}
use Rattle.std.proofs.Math.Seq.{take-length, drop-append_seam}
use Rattle.journal_text.specs.declared.entry.What.{What}
use Rattle.journal_text.specs.declared.entry.What.TheVariants.{Sig, Tick, Data, Eof}
use Rattle.journal_text.specs.declared.entry.Entry.{Entry}
use Rattle.journal_text.specs.declared.refusal.JournalRefusal.{JournalRefusal}
use Rattle.journal_text.specs.Contents.{Contents, empty, is_input, data_len, total_len}
use Rattle.journal_text.specs.Spelling.{header, event_text, entry_text, spell}
use Rattle.journal_text.specs.Lines.{is_hex, is_hex_digit, Line, lines, Parts, parts_of, parts_behind, number, is_digits, hex_bytes, has_leading_zero, is_sig, is_tick, is_end, is_form, what_of, data_of, entry_of}
use Rattle.thread_base.specs.Numbers.{is_in_scope}
use Rattle.journal_text.specs.Refusals.{◌orelse◌, line_refusal, with_parts, with_line, with_lines, first_bad_line, first_bad, entries_of}
use Rattle.journal_text.specs.Valid.{IsEvent, MayFollow, EachFollows, IsJournal}
use Rattle.journal_text.proofs.Digits.{decimal-number, hex-hex_bytes, length-hex_bytes, AreBytes, AreBytes-hex_bytes, AreBytes-append}
use Rattle.journal_text.proofs.Parts.{is_event, form_parts, IsGood, good_parts, are_numbers, when_none, and_second}
use Rattle.journal_text.proofs.Cuts.{IsCut, is_cut, line_text, flat_map-lines}
use Rattle.journal_text.proofs.Events.{begins, IsForm, tick, eof, sig, bytes, is_form_by}
use Rattle.journal_text.proofs.Follows.{EachFollows-push, total_len-append, lines-append}

-- a line of one of the four forms is its parts
abbrev pub IsWhole : List ℕ → Parts → Type 0
IsWhole text p = text ≡ p.n ++ 46 ∷ p.k ++ 32 ∷ p.event

by_cuts : (text rest : List ℕ) → rest ≡ after_first (λ b. eqb b 46) text
    → is_digits (before_first (λ b. eqb b 32) rest) ≡ true → is_event (after_first (λ b. eqb b 32) rest) ≡ true
    → IsCut 46 text → IsCut 32 rest → IsWhole text (parts_behind (before_first (λ b. eqb b 46) text) rest)
by_cuts text rest same digits event n k = grind (arith, append_assoc)

pub written_back : (text : List ℕ) → is_form (parts_of text) ≡ true → IsWhole text (parts_of text)
written_back text form =
    let rest = after_first (λ b. eqb b 46) text in
    let parts = form_parts (parts_of text) form in
    by_cuts text rest refl parts.1 parts.2 (is_cut 46 text) (is_cut 32 rest)

-- the place of data does not tell whether an event is input
pub is_input-what_of : (start : ℕ) (event : List ℕ) → is_input (what_of start event) ≡ is_input (what_of 0 event)
unfolding what_of
is_input-what_of start event = by_tests (is_tick event) (is_end event) (is_sig event) start _ _
  where
    by_tests : (a b c : Bool) (start n len : ℕ)
        → is_input (cond a Tick (cond b Eof (cond c (Sig n) (Data start len)))) ≡ is_input (cond a Tick (cond b Eof (cond c (Sig n) (Data 0 len))))
    by_tests a b c start n len = grind arith

-- an event of a line without a refusal
pub record IsRead (before : List Entry) (start : ℕ) (event all : List ℕ) : Type 0 where
  pub text : event_text all (what_of start event) ≡ event
  pub valid : IsEvent before (what_of start event)
  pub len : data_len (what_of start event) ≡ length (data_of event)
  pub small : AreBytes (data_of event)

read_as : (before : List Entry) (start : ℕ) (event all : List ℕ) (w : What) (bs : List ℕ) → what_of start event ≡ w
    → data_of event ≡ bs → event_text all w ≡ event → IsEvent before w → data_len w ≡ length bs → AreBytes bs
    → IsRead before start event all
read_as before start event all w bs what are text valid len small =
    record { text = rw what text; valid = rw what valid; len = rw (what, are) len; small = rw are small }

-- the signal's number is in scope, without a leading zero
in_scope : (j : Contents) (p : Parts) (ds : List ℕ) → IsGood j p → p.event ≡ codes "sig " ++ ds
    → is_digits ds ≡ true → (is_in_scope (number ds) ≡ true) × (has_leading_zero ds ≡ false)
in_scope j p ds good e digits =
    let is : is_sig p.event ≡ true = ap is_sig e ∙ digits in
    let rest : drop 4 p.event ≡ ds = ap (drop 4) e in
    let plain = (are_numbers p good.number).sig_plain is in
    let scope = not-false _ (and_second (is_sig p.event) _ good.signal is) in
    (rw rest at scope, rw rest at plain)

hex_lens : (ds : List ℕ) → is_hex ds ≡ true
    → (2 ≤ length ds) × (length ds ≤ 8192) × (length ds % 2 ≡ 0) × (list_all is_hex_digit ds ≡ true)
hex_lens ds h = grind (arith, nat_tests)

is_read_by : (j : Contents) (p : Parts) (all : List ℕ) → IsGood j p → length j.bytes ≡ total_len j.entries
    → take (length (data_of p.event)) (drop (length j.bytes) all) ≡ data_of p.event
    → IsForm (length j.bytes) p.event → IsRead j.entries (length j.bytes) p.event all
is_read_by j p all good whole part (tick e what none) = read_as _ _ _ _ _ _ what none (sym e) tt refl tt
is_read_by j p all good whole part (eof e what none) = read_as _ _ _ _ _ _ what none (sym e) tt refl tt
is_read_by j p all good whole part (sig ds e digits what none) =
    let scope = in_scope j p ds good e digits in
    let text = decimal-number ds digits scope.1 (at_most (number ds) scope.0) in
    read_as _ _ _ _ _ _ what none (rw text (sym e)) scope.0 refl tt
  where
    at_most : (n : ℕ) → is_in_scope n ≡ true → n < 2 ^ 64
    at_most n h = grind (arith, nat_tests)
is_read_by j p all good whole part (bytes ds e is_of_hex what are) =
    let hex = hex_lens ds is_of_hex in
    let len = length-hex_bytes ds in
    let digits = hex-hex_bytes ds hex.3 hex.2 in
    let same : take (length ds / 2) (drop (length j.bytes) all) ≡ hex_bytes ds = rw (are, len) at part in
    read_as _ _ _ _ _ _ what are (rw (same, digits) (sym e)) (whole, omega arith, omega arith) (sym len) (AreBytes-hex_bytes ds hex.3)

-- what is read so far is a journal but for the length of its text
pub record IsSoFar (j : Contents) : Type 0 where
  pub each : EachFollows [] j.entries
  pub whole : length j.bytes ≡ total_len j.entries
  pub bytes : AreBytes j.bytes
  pub few : length j.entries ≤ 1000000

-- the entry of a line without a refusal may follow, and is spelled as the line
entry_spelled : (j : Contents) (text all : List ℕ) → IsGood j (parts_of text)
    → IsRead j.entries (length j.bytes) (parts_of text).event all
    → entry_text all (entry_of (length j.bytes) (parts_of text)) ≡ text
entry_spelled j text all good read =
    let p = parts_of text in
    let parts = form_parts p good.form in
    let numbers = are_numbers p good.number in
    let n = decimal-number p.n parts.0 numbers.n_plain (omega (arith, numbers.n)) in
    let k = decimal-number p.k parts.1 numbers.k_plain (omega (arith, numbers.k)) in
    rw (n, k, read.text) (sym (written_back text good.form))

may_follow : (j : Contents) (p : Parts) (all : List ℕ) → IsGood j p
    → IsRead j.entries (length j.bytes) p.event all → MayFollow j.entries (entry_of (length j.bytes) p)
may_follow j p all good read =
    let numbers = are_numbers p good.number in
    record {
      n = numbers.n;
      k = numbers.k;
      event = read.valid;
      order = good.order;
      input = λ input. and_second (is_input (what_of 0 p.event)) _ good.input (sym (is_input-what_of (length j.bytes) p.event) ∙ input);
    }

-- a line more
step : (j : Contents) (text : List ℕ) → IsSoFar j → IsGood j (parts_of text)
    → IsSoFar (with_parts j (parts_of text)) × (spell (with_parts j (parts_of text)) ≡ spell j ++ (text ++ 10 ∷ []))
step j text so_far good =
    let p = parts_of text in
    let all = j.bytes ++ data_of p.event in
    let e = entry_of (length j.bytes) p in
    let behind : drop (length j.bytes) all ≡ data_of p.event = drop-append_seam j.bytes (data_of p.event) in
    let part : take (length (data_of p.event)) (drop (length j.bytes) all) ≡ data_of p.event = rw behind (take-length (data_of p.event)) in
    let read = is_read_by j p all good so_far.whole part (is_form_by (length j.bytes) p.event (form_parts p good.form).2) in
    let room = leb-false _ _ good.few in
    let same = lines-append [] j.entries j.bytes (data_of p.event) so_far.each (omega (arith, so_far.whole)) in (
      record {
        each = EachFollows-push [] j.entries e so_far.each (may_follow j p all good read);
        whole = omega (arith, length-append j.bytes (data_of p.event), total_len-append j.entries (e ∷ []), read.len, so_far.whole);
        bytes = AreBytes-append j.bytes (data_of p.event) so_far.bytes read.small;
        few = omega (arith, room, length-append j.entries (e ∷ []));
      },
      rw (flat_map-append, same, entry_spelled j text all good read, append-nil) refl,
    )

orelse_none : (a b : Option JournalRefusal) → (a orelse b) ≡ None → (a ≡ None) × (b ≡ None)
orelse_none a b h = grind arith

-- all lines
pub along : (j : Contents) (all : List Line) → IsSoFar j → first_bad_line j all ≡ None
    → IsSoFar (with_lines j all) × (spell (with_lines j all) ≡ spell j ++ flat_map line_text all)
along j [] so_far good = (so_far, sym (append-nil (spell j)))
along j (line ∷ all) so_far good =
    let parts = orelse_none (line_refusal j line) _ good in
    let ended = when_none (not line.ended) _ _ parts.0 in
    let here = step j line.text so_far (good_parts j (parts_of line.text) ended.1) in
    let rest = along (with_line j line) all here.0 parts.1 in
    let feed : line_text line ≡ line.text ++ 10 ∷ [] = rw (not-false _ ended.0) refl in (
      rest.0,
      rest.1
          ∙ ap (λ x. x ++ flat_map line_text all) (here.1 ∙ ap (λ x. spell j ++ x) (sym feed))
          ∙ append_assoc (spell j) (line_text line) (flat_map line_text all),
    )

pub spelled : (text : List ℕ) → first_bad text ≡ None → IsJournal (entries_of text) × (text ≡ spell (entries_of text))
unfolding first_bad entries_of
spelled text good =
    let short = when_none (ltb 16777216 (length text)) _ _ good in
    let begun = when_none (not (starts_with nat_eq text header)) _ _ short.1 in
    let behind = drop 14 text in
    let read = along empty (lines behind) (record { each = tt; whole = refl; bytes = tt; few = lit≤ tt }) begun.1 in
    let e : text ≡ spell (with_lines empty (lines behind)) =
    begins text header (not-false _ begun.0) ∙ sym (read.1 ∙ ap (λ x. header ++ x) (flat_map-lines behind)) in
    let most = subst (λ x. length x ≤ 16777216) e (ltb-false _ _ short.0) in
    (record { each = read.0.each; whole = read.0.whole; bytes = read.0.bytes; few = read.0.few; short = most }, e)

-- the refusal of a text with the header
pub first_bad-header : (text : List ℕ) → length text ≤ 16777216 → starts_with nat_eq text header ≡ true
    → first_bad text ≡ first_bad_line empty (lines (drop 14 text))
unfolding first_bad
first_bad-header text short begins = rw (le-ltb 16777216 (length text) short, begins) refl
