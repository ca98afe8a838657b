-- Digits and what they write.
use Rattle.std.proofs.Common.{◌≡◌, ℕ, zero, suc, ◌+◌, ◌-◌, ◌*◌, ◌/◌, ◌%◌, ◌<◌, ◌≤◌, ◌^◌, true, false, ltb, List, [], ◌∷◌, ◌++◌, length, get_or, take, drop, min, fold, refl, arith, rules, decimal, lit<}
use Rattle.std.proofs.lemmas.Bool.{and_parts, and_from, ltb-true, lt-ltb}
use Rattle.std.proofs.lemmas.Bool.Decides.{nat_tests}
use Rattle.std.proofs.lemmas.List.Sums.{fold_more}
use Rattle.std.proofs.lemmas.Str.Parse.{IsNumeralModel, numerals_by_fold}
use Rattle.std.proofs.lemmas.Fmt.{digits_decimal, digits_value-decimal, decimal-digits_value, decimal_nonempty, length-decimal-le, first_decimal}
use Rattle.std.specs.List.{list_all, AllByRecursion}
use Rattle.std.specs.Char.{is_ascii_digit}
use Rattle.journal_text.specs.Spelling.{hex, hex_digit}
use Rattle.journal_text.specs.Lines.{number, is_digits, has_leading_zero, is_hex_digit, is_hex, hex_value, hex_bytes}

-- one digit more, told as at most m
pub number_more : (xs : List ℕ) (i n m : ℕ) → i < length xs → 0 < m → n ≡ min (number (take i xs)) m
    → min (n * 10 + (get_or xs i 0 - 48)) m ≡ min (number (take (i + 1) xs)) m
unfolding number
number_more xs i n m inside some e =
    let more = fold_more (λ (n : ℕ) (d : ℕ). n * 10 + (d - 48)) 0 xs i 0 inside in
    omega (arith, more)

number_after : ℕ → List ℕ → ℕ
unfolding number
number_after n ds = fold (λ n d. n * 10 + (d - 48)) n ds

-- these digits and their number are those of the standard library
pub own : IsNumeralModel (λ ds. list_all is_ascii_digit ds ≡ true) number
unfolding number number_after
own = numerals_by_fold (λ ds. list_all is_ascii_digit ds ≡ true) (search rules) number_after (search rules)

-- less than two digits write no byte
pub hex_bytes_short : (ds : List ℕ) → length ds ≤ 1 → hex_bytes ds ≡ []
hex_bytes_short [] h = refl
hex_bytes_short (d ∷ []) h = refl
hex_bytes_short (d ∷ e ∷ ds) h = absurd (omega arith)

-- a number is as it is written where it has no leading zero
pub decimal-number : (ds : List ℕ) → is_digits ds ≡ true → has_leading_zero ds ≡ false → number ds < 2 ^ 64
    → decimal (number ds) ≡ ds
decimal-number ds digits plain small =
    let parts = and_parts (ltb 0 (length ds)) _ digits in
    decimal-digits_value own ds parts.1 (ltb-true _ _ parts.0) (λ nought. grind (arith, nat_tests)) small

-- what a number is written as
pub record IsWrittenAs (n : ℕ) (ds : List ℕ) : Type 0 where
  pub digits : is_digits ds ≡ true
  pub each : list_all is_ascii_digit ds ≡ true
  pub plain : has_leading_zero ds ≡ false
  pub value : number ds ≡ n

pub decimal_is_written : (n : ℕ) → n < 2 ^ 64 → IsWrittenAs n (decimal n)
decimal_is_written n small =
    let each = digits_decimal own n small in
    let some = decimal_nonempty n small in
    record {
      digits = and_from _ _ (lt-ltb 0 (length (decimal n)) some) each;
      each = each;
      plain = plain_of n small;
      value = digits_value-decimal own n small;
    }
  where
    plain_of : (n : ℕ) → n < 2 ^ 64 → has_leading_zero (decimal n) ≡ false
    plain_of n small =
        let few = λ (nought : n ≡ 0). length-decimal-le 1 n (lit< tt) (omega arith) small in
        let first = λ (some : 0 < n). first_decimal n some small in
        grind (arith, nat_tests)

-- two digits as a byte, and back
hex_pair : (d e : ℕ) → is_hex_digit d ≡ true → is_hex_digit e ≡ true
    → (hex_digit ((hex_value d * 16 + hex_value e) / 16) ≡ d) × (hex_digit ((hex_value d * 16 + hex_value e) % 16) ≡ e)
    × (hex_value d * 16 + hex_value e < 256)
hex_pair d e h g = grind (arith, nat_tests)

byte_pair : (b : ℕ) → b < 256
    → (is_hex_digit (hex_digit (b / 16)) ≡ true) × (is_hex_digit (hex_digit (b % 16)) ≡ true)
    × (hex_value (hex_digit (b / 16)) * 16 + hex_value (hex_digit (b % 16)) ≡ b)
byte_pair b h = grind (arith, nat_tests)

-- the bytes of digits are written as these digits
pub hex-hex_bytes : (ds : List ℕ) → list_all is_hex_digit ds ≡ true → length ds % 2 ≡ 0 → hex (hex_bytes ds) ≡ ds
hex-hex_bytes [] h even = refl
hex-hex_bytes (d ∷ []) h even = absurd (omega arith)
hex-hex_bytes (d ∷ e ∷ ds) h even =
    let first = and_parts (is_hex_digit d) _ h in
    let second = and_parts (is_hex_digit e) _ first.1 in
    let pair = hex_pair d e first.0 second.0 in
    rw (pair.0, pair.1, hex-hex_bytes ds second.1 (omega arith)) refl

-- bytes are below 256
abbrev pub AreBytes : List ℕ → Type 0
AreBytes bytes = AllByRecursion (λ b. b < 256) bytes

pub AreBytes-hex_bytes : (ds : List ℕ) → list_all is_hex_digit ds ≡ true → AreBytes (hex_bytes ds)
AreBytes-hex_bytes [] h = tt
AreBytes-hex_bytes (d ∷ []) h = tt
AreBytes-hex_bytes (d ∷ e ∷ ds) h =
    let first = and_parts (is_hex_digit d) _ h in
    let second = and_parts (is_hex_digit e) _ first.1 in
    ((hex_pair d e first.0 second.0).2, AreBytes-hex_bytes ds second.1)

pub AreBytes-append : (xs ys : List ℕ) → AreBytes xs → AreBytes ys → AreBytes (xs ++ ys)
AreBytes-append [] ys h g = g
AreBytes-append (x ∷ xs) ys h g = (h.0, AreBytes-append xs ys h.1 g)

pub AreBytes-drop : (n : ℕ) (xs : List ℕ) → AreBytes xs → AreBytes (drop n xs)
AreBytes-drop zero xs h = h
AreBytes-drop (suc n) [] h = tt
AreBytes-drop (suc n) (x ∷ xs) h = AreBytes-drop n xs h.1

pub AreBytes-take : (n : ℕ) (xs : List ℕ) → AreBytes xs → AreBytes (take n xs)
AreBytes-take zero xs h = tt
AreBytes-take (suc n) [] h = tt
AreBytes-take (suc n) (x ∷ xs) h = (h.0, AreBytes-take n xs h.1)

-- the digits of bytes write these bytes
pub hex_bytes-hex : (bytes : List ℕ) → AreBytes bytes → hex_bytes (hex bytes) ≡ bytes
hex_bytes-hex [] h = refl
hex_bytes-hex (b ∷ bytes) h = rw ((byte_pair b h.0).2, hex_bytes-hex bytes h.1) refl

pub hex_digits : (bytes : List ℕ) → AreBytes bytes → list_all is_hex_digit (hex bytes) ≡ true
hex_digits [] h = refl
hex_digits (b ∷ bytes) h = grind (arith, byte_pair b h.0, hex_digits bytes h.1)

pub length-hex : (bytes : List ℕ) → length (hex bytes) ≡ 2 * length bytes
length-hex [] = refl
length-hex (b ∷ bytes) = omega (arith, length-hex bytes)

pub length-hex_bytes : (ds : List ℕ) → length (hex_bytes ds) ≡ length ds / 2
length-hex_bytes [] = refl
length-hex_bytes (d ∷ []) = refl
length-hex_bytes (d ∷ e ∷ ds) = omega (arith, length-hex_bytes ds)

pub is_hex-hex : (bytes : List ℕ) → AreBytes bytes → 1 ≤ length bytes → length bytes ≤ 4096 → is_hex (hex bytes) ≡ true
is_hex-hex bytes h low high = is_hex_by (hex bytes) (length bytes) (hex_digits bytes h) (length-hex bytes) low high
  where
    is_hex_by : (ds : List ℕ) (half : ℕ) → list_all is_hex_digit ds ≡ true → length ds ≡ 2 * half → 1 ≤ half → half ≤ 4096
        → is_hex ds ≡ true
    is_hex_by ds half digits len low high = grind (arith, nat_tests)
