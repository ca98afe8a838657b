-- The lines of a text, and what is written in one.
use Rattle.std.specs.Prelude.{ℕ, ◌+◌, ◌-◌, ◌*◌, ◌/◌, ◌%◌, ◌==◌, ◌&&◌, ◌||◌, Bool, true, false, List, [], ◌∷◌, length, codes, drop, nat_eq, nat_lt, nat_le, slice_index, fold, if◌then◌else◌}
use Rattle.std.specs.List.{starts_with, list_all, before_first, after_first}
use Rattle.std.specs.Char.{is_ascii_digit}
use Rattle.thread_base.specs.declared.Place.{Place}
use Rattle.journal_text.specs.declared.entry.What.{What}
use Rattle.journal_text.specs.declared.entry.What.TheVariants.{Sig, Tick, Data, Eof}
use Rattle.journal_text.specs.declared.entry.Entry.{Entry}

-- a line without its line feed, and whether it has one (POSIX.1: a line ends with a line feed)
pub record Line : Type 0 where
  pub text : List ℕ
  pub ended : Bool

-- a byte in front of the first line
abbrev pub in_front : ℕ → List Line → List Line
in_front b [] = record { text = b ∷ []; ended = false } ∷ []
in_front b (line ∷ lines) = record { text = b ∷ line.text; ended = line.ended } ∷ lines

-- the lines of a text; what stands after the last line feed is a line that has none
abbrev pub lines : List ℕ → List Line
lines [] = []
lines (b ∷ bytes) = if b == 10 then record { text = []; ended = true } ∷ lines bytes else in_front b (lines bytes)

-- a line `N.K EVENT` cut at its first point and at the first blank after that, each part as it is written
pub record Parts : Type 0 where
  pub n : List ℕ
  pub k : List ℕ
  pub event : List ℕ

abbrev pub parts_behind : List ℕ → List ℕ → Parts
parts_behind n rest = record { n = n; k = before_first (λ b. b == 32) rest; event = after_first (λ b. b == 32) rest }

abbrev pub parts_of : List ℕ → Parts
parts_of line = parts_behind (before_first (λ b. b == 46) line) (after_first (λ b. b == 46) line)

-- one or more decimal digits
abbrev pub is_digits : List ℕ → Bool
is_digits ds = nat_lt 0 (length ds) && list_all is_ascii_digit ds

-- more than one digit, and the first is a zero
abbrev pub has_leading_zero : List ℕ → Bool
has_leading_zero ds = nat_lt 1 (length ds) && (slice_index ds 0 == 48)

-- the number that digits write
unfoldable pub number : List ℕ → ℕ
number ds = fold (λ n d. n * 10 + (d - 48)) 0 ds

-- a digit of lower-case hexadecimal
abbrev pub is_hex_digit : ℕ → Bool
is_hex_digit d = (nat_le 48 d && nat_le d 57) || (nat_le 97 d && nat_le d 102)

-- one byte or more, at most 4,096, in lower-case hexadecimal
abbrev pub is_hex : List ℕ → Bool
is_hex ds = nat_le 2 (length ds) && (nat_le (length ds) 8192 && ((length ds % 2 == 0) && list_all is_hex_digit ds))

-- the value of a digit
abbrev pub hex_value : ℕ → ℕ
hex_value d = if nat_lt d 58 then d - 48 else d - 87

-- the bytes that digits write
abbrev pub hex_bytes : List ℕ → List ℕ
hex_bytes [] = []
hex_bytes (high ∷ []) = []
hex_bytes (high ∷ low ∷ ds) = (hex_value high * 16 + hex_value low) ∷ hex_bytes ds

-- the four forms of an event
abbrev pub is_sig : List ℕ → Bool
is_sig event = starts_with nat_eq event (codes "sig ") && is_digits (drop 4 event)

abbrev pub is_tick : List ℕ → Bool
is_tick event = starts_with nat_eq event (codes "tick") && (length event == 4)

abbrev pub is_data : List ℕ → Bool
is_data event = starts_with nat_eq event (codes "data ") && is_hex (drop 5 event)

abbrev pub is_end : List ℕ → Bool
is_end event = starts_with nat_eq event (codes "eof") && (length event == 3)

-- a line is of one of the four forms
abbrev pub is_form : Parts → Bool
is_form p = is_digits p.n && (is_digits p.k && (is_tick p.event || (is_end p.event || (is_sig p.event || is_data p.event))))

-- the place that a line names
abbrev pub place_of : Parts → Place
place_of p = record { n = number p.n; k = number p.k }

-- the event that a line names, of one of the four forms; data begin at start
unfoldable pub what_of : ℕ → List ℕ → What
what_of start event =
    if is_tick event then Tick
    else if is_end event then Eof
    else if is_sig event then Sig (number (drop 4 event))
    else Data start (length (drop 5 event) / 2)

-- the bytes that an event of one of the four forms brings
unfoldable pub data_of : List ℕ → List ℕ
data_of event = if is_data event then hex_bytes (drop 5 event) else []

-- the entry that a line names
abbrev pub entry_of : ℕ → Parts → Entry
entry_of start p = record { place = place_of p; what = what_of start p.event }
