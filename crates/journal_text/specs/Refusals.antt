-- The first refusal of a text as a journal (this project's own list).
use Rattle.std.specs.Prelude.{ℕ, ◌+◌, ◌&&◌, ◌||◌, not, Bool, true, false, List, [], ◌∷◌, ◌++◌, length, Option, Some, None, nat_eq, nat_lt, nat_le, drop}
use Rattle.std.specs.List.{starts_with}
use Rattle.thread_base.specs.Numbers.{is_in_scope}
use Rattle.journal_text.specs.declared.refusal.JournalRefusal.{JournalRefusal}
use Rattle.journal_text.specs.declared.refusal.JournalRefusal.TheVariants.{TooLong, Header, Line as NoLine, Number, Signal, Order, AfterEof, TooMany}
use Rattle.journal_text.specs.Contents.{Contents, empty, is_input, has_eof, is_before_last}
use Rattle.journal_text.specs.Spelling.{header}
use Rattle.journal_text.specs.Lines.{Line, lines, Parts, parts_of, has_leading_zero, number, is_sig, is_form, place_of, what_of, data_of, entry_of}

-- a refusal, where its condition holds
abbrev pub when : Bool → JournalRefusal → Option JournalRefusal
when true refusal = Some refusal
when false refusal = None

-- the first of two, or else the second
infixr 5 ◌orelse◌
abbrev pub ◌orelse◌ : Option JournalRefusal → Option JournalRefusal → Option JournalRefusal
(Some first) orelse second = Some first
None orelse second = second

-- a number is none of a journal's
abbrev pub is_bad_number : Parts → Bool
is_bad_number p =
    has_leading_zero p.n || (has_leading_zero p.k || ((is_sig p.event && has_leading_zero (drop 4 p.event))
    || (nat_lt 1000000000 (number p.n) || nat_lt 1000000 (number p.k))))

-- the signal is none in scope
abbrev pub is_bad_signal : Parts → Bool
is_bad_signal p = is_sig p.event && not (is_in_scope (number (drop 4 p.event)))

-- the entry comes before the last of a journal
abbrev pub is_out_of_order : Contents → Parts → Bool
is_out_of_order j p = is_before_last (place_of p) j.entries

-- the entry brings or ends input after an end of input
abbrev pub is_after_eof : Contents → Parts → Bool
is_after_eof j p = is_input (what_of 0 p.event) && has_eof j.entries

-- a journal has as many entries as it may have
abbrev pub is_full : Contents → Bool
is_full j = nat_le 1000000 (length j.entries)

-- the number of the line after a journal; the header is line 1
abbrev pub next_line : Contents → ℕ
next_line j = length j.entries + 2

-- the refusal of a line of the four forms' parts after a journal
unfoldable pub parts_refusal : Contents → Parts → Option JournalRefusal
parts_refusal j p =
    when (not (is_form p)) (NoLine (next_line j))
    orelse when (is_bad_number p) (Number (next_line j))
    orelse when (is_bad_signal p) (Signal (next_line j))
    orelse when (is_out_of_order j p) (Order (next_line j))
    orelse when (is_after_eof j p) (AfterEof (next_line j))
    orelse when (is_full j) (TooMany (next_line j))

-- the refusal of a line after a journal
abbrev pub line_refusal : Contents → Line → Option JournalRefusal
line_refusal j line = when (not line.ended) (NoLine (next_line j)) orelse parts_refusal j (parts_of line.text)

-- a journal with the entry that a line names
abbrev pub with_parts : Contents → Parts → Contents
with_parts j p = record { entries = j.entries ++ entry_of (length j.bytes) p ∷ []; bytes = j.bytes ++ data_of p.event }

abbrev pub with_line : Contents → Line → Contents
with_line j line = with_parts j (parts_of line.text)

-- the refusal of the first bad line of these, which stand after a journal
abbrev pub first_bad_line : Contents → List Line → Option JournalRefusal
first_bad_line j [] = None
first_bad_line j (line ∷ rest) = line_refusal j line orelse first_bad_line (with_line j line) rest

-- a journal with the entries that some lines name
abbrev pub with_lines : Contents → List Line → Contents
with_lines j [] = j
with_lines j (line ∷ rest) = with_lines (with_line j line) rest

-- the lines after the header
abbrev pub entry_lines : List ℕ → List Line
entry_lines bytes = lines (drop 14 bytes)

-- the first refusal of a text as a journal
unfoldable pub first_bad : List ℕ → Option JournalRefusal
first_bad bytes =
    when (nat_lt 16777216 (length bytes)) TooLong
    orelse when (not (starts_with nat_eq bytes header)) Header
    orelse first_bad_line empty (entry_lines bytes)

-- the journal that a text without a refusal spells
unfoldable pub entries_of : List ℕ → Contents
entries_of bytes = with_lines empty (entry_lines bytes)
