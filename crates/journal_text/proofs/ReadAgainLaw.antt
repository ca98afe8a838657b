-- What is spelled is read again.
use Rattle.std.proofs.Common.{◌≡◌, ℕ, ◌+◌, ◌/◌, ◌<◌, ◌≤◌, ◌^◌, Bool, true, false, not, ◌&&◌, List, [], ◌∷◌, ◌++◌, length, take, drop, refl, sym, ap, ◌∙◌, arith, decimal, lit<, append_assoc, append-nil, length-append, length-drop, None}
use Rattle.std.proofs.lemmas.Bool.{and_from, or_from, or_left, not_from_true, le-ltb, lt-leb, and_right}
use Rattle.std.proofs.lemmas.Bool.Decides.{nat_tests}
use Rattle.std.proofs.lemmas.List.{length-take-le}
use Rattle.std.proofs.lemmas.List.Folds.{list_all-append}
use Rattle.std.proofs.Math.Seq.{take-length, take-add}
use Rattle.std.specs.Char.{is_ascii_digit}
use Rattle.std.specs.List.{list_all, flat_map}
use Rattle.journal_text.specs.declared.entry.What.{What}
use Rattle.journal_text.specs.declared.entry.What.TheVariants.{Sig, Tick, Data, Eof}
use Rattle.journal_text.specs.declared.entry.Entry.{Entry}
use Rattle.journal_text.specs.Contents.{Contents, is_input, data_len, total_len}
use Rattle.journal_text.specs.Spelling.{event_text, entry_text, entry_line, spell, hex}
use Rattle.journal_text.specs.Lines.{Line, lines, parts_of, number, is_hex_digit, has_leading_zero, is_sig, what_of, data_of}
use Rattle.thread_base.specs.Numbers.{is_in_scope}
use Rattle.journal_text.specs.Refusals.{◌orelse◌, parts_refusal, with_parts, with_line, with_lines, first_bad_line, first_bad, entries_of}
use Rattle.journal_text.specs.Valid.{IsEvent, MayFollow, EachFollows, IsJournal}
use Rattle.journal_text.proofs.Digits.{decimal_is_written, AreBytes, AreBytes-drop, AreBytes-take, hex_bytes-hex, hex_digits, length-hex, is_hex-hex}
use Rattle.journal_text.proofs.Parts.{is_event, IsGood, parts_none}
use Rattle.journal_text.proofs.Cuts.{differs, cut_here, lines_here}
use Rattle.journal_text.proofs.Events.{what_of-sig, what_of-data}
use Rattle.journal_text.proofs.Follows.{total_len-append}

-- what one test passes, a weaker one passes
pub list_all-weaker : (p q : ℕ → Bool) → ((b : ℕ) → p b ≡ true → q b ≡ true) → (xs : List ℕ)
    → list_all p xs ≡ true → list_all q xs ≡ true
list_all-weaker p q h [] all = refl
list_all-weaker p q h (x ∷ xs) all = grind (arith, h x, list_all-weaker p q h xs)

-- a digit differs from a byte below the digits
digit_differs : (c : ℕ) → c < 48 → (b : ℕ) → is_ascii_digit b ≡ true → differs c b ≡ true
digit_differs c low b h = grind (arith, nat_tests)

hex_differs : (c : ℕ) → c < 48 → (b : ℕ) → is_hex_digit b ≡ true → differs c b ≡ true
hex_differs c low b h = grind (arith, nat_tests)

no_mark : (c n : ℕ) → c < 48 → n < 2 ^ 64 → list_all (differs c) (decimal n) ≡ true
no_mark c n low small = list_all-weaker is_ascii_digit (differs c) (digit_differs c low) (decimal n) (decimal_is_written n small).each

-- an event is read as it was
pub record IsEventText (start : ℕ) (w : What) (event all : List ℕ) : Type 0 where
  pub form : is_event event ≡ true
  pub plain : (is_sig event && has_leading_zero (drop 4 event)) ≡ false
  pub signal : (is_sig event && not (is_in_scope (number (drop 4 event)))) ≡ false
  pub what : what_of start event ≡ w
  pub input : is_input (what_of 0 event) ≡ is_input w
  pub bytes : data_of event ≡ take (data_len w) (drop start all)
  pub one_line : list_all (differs 10) event ≡ true

event_again : (before : List Entry) (w : What) (all : List ℕ) → IsEvent before w → AreBytes all
    → total_len before + data_len w ≤ length all → IsEventText (total_len before) w (event_text all w) all
unfolding what_of data_of
event_again before (Sig s) all is small inside =
    let fits = at_most s is in
    let ds = decimal s in
    let written = decimal_is_written s fits in
    let again = what_of-sig (total_len before) ds written.digits in
    record {
      form = or_left _ _ written.digits;
      plain = and_right _ _ written.plain;
      signal = and_right _ _ (not_from_true _ (rw written.value is));
      what = rw (again.0, written.value) refl;
      input = ap is_input (what_of-sig 0 ds written.digits).0;
      bytes = again.1;
      one_line = no_mark 10 s (lit< tt) fits;
    }
  where
    at_most : (s : ℕ) → is_in_scope s ≡ true → s < 2 ^ 64
    at_most s h = grind (arith, nat_tests)
event_again before Tick all is small inside = record { form = refl; plain = refl; signal = refl; what = refl; input = refl; bytes = refl; one_line = refl }
event_again before (Data start len) all is small inside =
    let part = take len (drop start all) in
    let small_part = AreBytes-take len (drop start all) (AreBytes-drop start all small) in
    let long = length-take-le len (drop start all) (omega (arith, is.0, length-drop start all)) in
    let h = is_hex-hex part small_part (omega (arith, is.1)) (omega (arith, is.2)) in
    let again = what_of-data (total_len before) (hex part) h in
    let half : length (hex part) / 2 ≡ len = omega (arith, length-hex part, long) in
    record {
      form = h;
      plain = refl;
      signal = refl;
      what = rw (again.0, half, is.0) refl;
      input = ap is_input (what_of-data 0 (hex part) h).0;
      bytes = rw (again.1, hex_bytes-hex part small_part, is.0) refl;
      one_line = list_all-weaker is_hex_digit (differs 10) (hex_differs 10 (lit< tt)) (hex part) (hex_digits part small_part);
    }
event_again before Eof all is small inside = record { form = refl; plain = refl; signal = refl; what = refl; input = refl; bytes = refl; one_line = refl }

-- a line is cut into the parts that it was made of
pub parts_of-line : (n k event : List ℕ) → list_all is_ascii_digit n ≡ true → list_all is_ascii_digit k ≡ true
    → parts_of (n ++ 46 ∷ k ++ 32 ∷ event) ≡ record { n = n; k = k; event = event }
parts_of-line n k event n_digits k_digits =
    let n_free = list_all-weaker is_ascii_digit (differs 46) (digit_differs 46 (lit< tt)) n n_digits in
    let k_free = list_all-weaker is_ascii_digit (differs 32) (digit_differs 32 (lit< tt)) k k_digits in
    let first = cut_here 46 n (k ++ 32 ∷ event) n_free in
    let second = cut_here 32 k event k_free in
    ap parts_of (append_assoc n (46 ∷ k) (32 ∷ event)) ∙ rw (first.0, first.1, second.0, second.1) refl

one_line : (n k : ℕ) (event : List ℕ) → n < 2 ^ 64 → k < 2 ^ 64 → list_all (differs 10) event ≡ true
    → list_all (differs 10) (decimal n ++ 46 ∷ decimal k ++ 32 ∷ event) ≡ true
one_line n k event n_fits k_fits h =
    rw (list_all-append (differs 10), list_all-append (differs 10), no_mark 10 n (lit< tt) n_fits, no_mark 10 k (lit< tt) k_fits) h

-- an entry may follow, so its line has no refusal
good_again : (j : Contents) (e : Entry) (event all : List ℕ) → MayFollow j.entries e
    → length j.entries < 1000000 → IsEventText (total_len j.entries) e.what event all
    → IsGood j (record { n = decimal e.place.n; k = decimal e.place.k; event = event })
good_again j e event all may few is =
    let n = decimal_is_written e.place.n (omega (arith, may.n)) in
    let k = decimal_is_written e.place.k (omega (arith, may.k)) in
    let n_low = le-ltb 1000000000 (number (decimal e.place.n)) (rw n.value may.n) in
    let k_low = le-ltb 1000000 (number (decimal e.place.k)) (rw k.value may.k) in
    record {
      form = and_from _ _ n.digits (and_from _ _ k.digits is.form);
      number = or_from _ _ n.plain (or_from _ _ k.plain (or_from _ _ is.plain (or_from _ _ n_low k_low)));
      signal = is.signal;
      order = rw (n.value, k.value) may.order;
      input = no_input _ _ _ is.input may.input;
      few = lt-leb 1000000 (length j.entries) few;
    }
  where
    no_input : (a b c : Bool) → a ≡ b → (b ≡ true → c ≡ false) → (a && c) ≡ false
    no_input a b c same h = grind arith

-- the journal of some entries, which take their part of all bytes
so_far : List Entry → List ℕ → Contents
so_far entries all = record { entries = entries; bytes = take (total_len entries) all }

-- an entry more
next_again : (before : List Entry) (e : Entry) (all : List ℕ)
    → total_len before + data_len e.what ≤ length all → MayFollow before e
    → IsEventText (total_len before) e.what (event_text all e.what) all
    → with_parts (so_far before all) (record { n = decimal e.place.n; k = decimal e.place.k; event = event_text all e.what })
    ≡ so_far (before ++ e ∷ []) all
unfolding so_far
next_again before e all inside may is =
    let n = decimal_is_written e.place.n (omega (arith, may.n)) in
    let k = decimal_is_written e.place.k (omega (arith, may.k)) in
    let start : length (take (total_len before) all) ≡ total_len before = length-take-le (total_len before) all (omega arith) in
    let more = total_len-append before (e ∷ []) in
    let total : total_len (before ++ e ∷ []) ≡ total_len before + data_len e.what = omega arith in
    rw (start, n.value, k.value, is.what, is.bytes, total, take-add (total_len before) (data_len e.what) all) refl

-- the lines of entries that may follow have no refusal, and name these entries
again : (all : List ℕ) (before after : List Entry) → EachFollows before after → AreBytes all
    → total_len before + total_len after ≤ length all → length before + length after ≤ 1000000
    → (first_bad_line (so_far before all) (lines (flat_map (entry_line all) after)) ≡ None)
    × (with_lines (so_far before all) (lines (flat_map (entry_line all) after)) ≡ so_far (before ++ after) all)
unfolding so_far
again all before [] each small inside few = (refl, ap (λ b. so_far b all) (sym (append-nil before)))
again all before (e ∷ es) each small inside few =
    let j = so_far before all in
    let text = entry_text all e in
    let line : Line = record { text = text; ended = true } in
    let rest = flat_map (entry_line all) es in
    let may = each.0 in
    let n_fits : e.place.n < 2 ^ 64 = omega (arith, may.n) in
    let k_fits : e.place.k < 2 ^ 64 = omega (arith, may.k) in
    let is = event_again before e.what all may.event small (omega arith) in
    let n_digits = (decimal_is_written e.place.n n_fits).each in
    let k_digits = (decimal_is_written e.place.k k_fits).each in
    let parts = parts_of-line (decimal e.place.n) (decimal e.place.k) (event_text all e.what) n_digits k_digits in
    let alone = one_line e.place.n e.place.k (event_text all e.what) n_fits k_fits is.one_line in
    let cut = ap lines (append_assoc text (10 ∷ []) rest) ∙ lines_here text rest alone in
    let good = ap (parts_refusal j) parts ∙ parts_none j _ (good_again j e (event_text all e.what) all may (omega arith) is) in
    let next = ap (with_parts j) parts ∙ next_again before e all (omega arith) may is in
    let count = total_len-append before (e ∷ []) in
    let more = again all (before ++ e ∷ []) es each.1 small (omega (arith, count)) (omega (arith, length-append before (e ∷ []))) in (
      ap (first_bad_line j) cut
          ∙ ap (λ x. x orelse first_bad_line (with_line j line) (lines rest)) good
          ∙ ap (λ k. first_bad_line k (lines rest)) next ∙ more.0,
      ap (with_lines j) cut ∙ ap (λ k. with_lines k (lines rest)) next ∙ more.1 ∙ ap (λ b. so_far b all) (append_assoc before (e ∷ []) es),
    )

-- a journal's text has no refusal and names the journal
pub read_again : (j : Contents) → IsJournal j → (first_bad (spell j) ≡ None) × (entries_of (spell j) ≡ j)
unfolding first_bad entries_of so_far
read_again j is =
    let inside = again j.bytes [] j.entries is.each is.bytes (omega (arith, is.whole)) (omega (arith, is.few)) in
    let bytes : take (total_len j.entries) j.bytes ≡ j.bytes = rw (← is.whole) (take-length j.bytes) in
    (rw (le-ltb 16777216 (length (spell j)) is.short) inside.0, inside.1 ∙ ap (λ b. record { entries = j.entries; bytes = b }) bytes)

pub one_journal : (i j : Contents) → IsJournal i → IsJournal j → spell i ≡ spell j → i ≡ j
one_journal i j is_i is_j e = sym (read_again i is_i).1 ∙ ap entries_of e ∙ (read_again j is_j).1
