-- The numbers that are values of options (this project's own rule).
use Rattle.std.specs.Prelude.{ℕ, ◌^◌, ◌%◌, ◌==◌, ◌&&◌, not, List, Bool, Option, Some, None, if◌then◌else◌, length, nat_le, nat_lt, slice_index}
use Rattle.std.specs.Char.{is_ascii_digit}
use Rattle.std.specs.List.{list_all}
use Rattle.std.specs.Str.Parse.{digits_value}

-- one or more decimal digits
abbrev pub is_digits : List ℕ → Bool
is_digits text = nat_lt 0 (length text) && list_all is_ascii_digit text

-- more than one byte, and the first is the digit 0
abbrev pub has_leading_zero : List ℕ → Bool
has_leading_zero text = nat_lt 1 (length text) && (slice_index text 0 == 48)

-- decimal digits without a leading zero
abbrev pub is_decimal : List ℕ → Bool
is_decimal text = is_digits text && not (has_leading_zero text)

-- the number that a text writes; none where it is not decimal, or above 2^64 - 1
abbrev pub number : List ℕ → Option ℕ
number text = if is_decimal text && nat_lt (digits_value 10 text) (2 ^ 64) then Some (digits_value 10 text) else None

-- within the limit of the budget
abbrev pub is_budget : ℕ → Bool
is_budget n = nat_le n 1000000000

-- within the limits of the quantum
abbrev pub is_quantum : ℕ → Bool
is_quantum n = nat_le 1 n && nat_le n 1000

-- a multiple of 4,096 within the limits of the size of memory
abbrev pub is_memory : ℕ → Bool
is_memory n = nat_le 65536 n && (nat_le n 67108864 && (n % 4096 == 0))

-- the number within its limit that a text writes
abbrev pub limited : (ℕ → Bool) → Option ℕ → Option ℕ
limited fits None = None
limited fits (Some n) = if fits n then Some n else None

-- the value of an option: the default where it is not given, none where its text is no number within the limit
abbrev pub value_or : ℕ → (ℕ → Bool) → Option (List ℕ) → Option ℕ
value_or default fits None = Some default
value_or default fits (Some text) = limited fits (number text)
