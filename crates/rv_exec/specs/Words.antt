-- Arithmetic of words: numbers below 2 ^ 32, with a signed reading in two's complement
-- (the RISC-V manual, RV32I's integer instructions and the M extension).
use Rattle.std.specs.Prelude.{ℕ, ℤ, pos, ◌+◌, ◌-◌, ◌*◌, ◌/◌, ◌%◌, ◌^◌, ◌==◌, ◌*ℤ◌, Bool, int_lt, if◌then◌else◌}
use Rattle.std.specs.Int.{w32, cast_signed, cast_unsigned, int_shr}
use Rattle.std.specs.Int.RustNames.{int_div, int_rem}

-- a word's signed reading, from -2 ^ 31 to 2 ^ 31 - 1
abbrev pub signed : ℕ → ℤ
signed a = cast_signed w32 a

-- the word of a signed number, modulo 2 ^ 32
abbrev pub word : ℤ → ℕ
word z = cast_unsigned w32 z

-- 1 where it holds, else 0 (what SLT and its kin write)
abbrev pub flag : Bool → ℕ
flag holds = if holds then 1 else 0

-- a is below b in the signed reading (SLT, BLT)
abbrev pub is_below_signed : ℕ → ℕ → Bool
is_below_signed a b = int_lt (signed a) (signed b)

-- ADD
abbrev pub sum : ℕ → ℕ → ℕ
sum a b = (a + b) % 2 ^ 32

-- SUB
abbrev pub difference : ℕ → ℕ → ℕ
difference a b = (a + (2 ^ 32 - b)) % 2 ^ 32

-- SLL: the shift amount is the low five bits of b, here and below
abbrev pub shifted_left : ℕ → ℕ → ℕ
shifted_left a b = (a * 2 ^ (b % 32)) % 2 ^ 32

-- SRL: zeros come in from above
abbrev pub shifted_right : ℕ → ℕ → ℕ
shifted_right a b = a / 2 ^ (b % 32)

-- SRA: copies of the sign come in from above
abbrev pub shifted_right_signed : ℕ → ℕ → ℕ
shifted_right_signed a b = word (int_shr (signed a) (b % 32))

-- MUL: the low word of the product
abbrev pub low_product : ℕ → ℕ → ℕ
low_product a b = (a * b) % 2 ^ 32

-- MULH: the high word of signed times signed
abbrev pub high_product_signed : ℕ → ℕ → ℕ
high_product_signed a b = word (int_shr (signed a *ℤ signed b) 32)

-- MULHSU: the high word of signed times unsigned
abbrev pub high_product_mixed : ℕ → ℕ → ℕ
high_product_mixed a b = word (int_shr (signed a *ℤ pos b) 32)

-- MULHU: the high word of unsigned times unsigned
abbrev pub high_product : ℕ → ℕ → ℕ
high_product a b = a * b / 2 ^ 32

-- DIV: rounds toward zero; all ones for the divisor 0; -2 ^ 31 by -1 is 2 ^ 31, whose word is that of -2 ^ 31
abbrev pub quotient_signed : ℕ → ℕ → ℕ
quotient_signed a b = if b == 0 then 0xffffffff else word (int_div (signed a) (signed b))

-- DIVU: all ones for the divisor 0
abbrev pub quotient : ℕ → ℕ → ℕ
quotient a b = if b == 0 then 0xffffffff else a / b

-- REM: the sign of the dividend; the dividend itself for the divisor 0
abbrev pub remainder_signed : ℕ → ℕ → ℕ
remainder_signed a b = if b == 0 then a else word (int_rem (signed a) (signed b))

-- REMU: the dividend itself for the divisor 0
abbrev pub remainder : ℕ → ℕ → ℕ
remainder a b = if b == 0 then a else a % b
