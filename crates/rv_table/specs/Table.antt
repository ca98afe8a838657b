-- The table of instructions: RV32I and the M extension of the RISC-V manual.
-- A word is compared as a whole with each row, under the row's mask.
use Rattle.std.specs.Prelude.{ℕ, ◌+◌, ◌*◌, ◌/◌, ◌%◌, ◌^◌, ◌-◌, ◌<◌, ◌≤◌, ◌==◌, ◌∷◌, List, [], filter, length, Option, Some, None, Bool, bit_and, if◌then◌else◌, nat_lt}
use Rattle.rv_table.specs.declared.Instr.{Instr}
use Rattle.rv_table.specs.Names.{LUI, AUIPC, JAL, JALR, BEQ, BNE, BLT, BGE, BLTU, BGEU, LB, LH, LW, LBU, LHU, SB, SH, SW, ADDI, SLTI, SLTIU, XORI, ORI, ANDI, SLLI, SRLI, SRAI, ADD, SLL, SLT, SLTU, XOR, SRL, OR, AND, SUB, SRA, MUL, MULH, MULHSU, MULHU, DIV, DIVU, REM, REMU, FENCE, ECALL, EBREAK}

-- what a row fixes: the opcode (bits 6..0), funct3 (bits 14..12), funct7 (bits 31..25), or the whole word
pub data Pattern : Type 0 where
  Opcode : (opcode : ℕ) → Pattern
  Funct3 : (opcode funct3 : ℕ) → Pattern
  Funct7 : (opcode funct3 funct7 : ℕ) → Pattern
  Whole : (word : ℕ) → Pattern

-- the bits that a row fixes
abbrev pub mask_of : Pattern → ℕ
mask_of (Opcode opcode) = 0x7f
mask_of (Funct3 opcode funct3) = 0x707f
mask_of (Funct7 opcode funct3 funct7) = 0xfe00707f
mask_of (Whole word) = 0xffffffff

-- what it fixes them to
abbrev pub value_of : Pattern → ℕ
value_of (Opcode opcode) = opcode
value_of (Funct3 opcode funct3) = funct3 * 2 ^ 12 + opcode
value_of (Funct7 opcode funct3 funct7) = funct7 * 2 ^ 25 + (funct3 * 2 ^ 12 + opcode)
value_of (Whole word) = word

-- how the immediate stands in a word: the manual's formats, and the shift amounts of SLLI, SRLI and SRAI
pub data Format : Type 0 where
  R I S B U J Shift : Format

-- a row: its number, its pattern, and the format of its immediate
pub record Row : Type 0 where
  pub number : ℕ
  pub pattern : Pattern
  pub format : Format

abbrev pub row : ℕ → Pattern → Format → Row
row number pattern format = record { number = number; pattern = pattern; format = format }

-- the table, in the manual's order of opcodes and of funct3
abbrev pub rows : List Row
rows =
    row LUI (Opcode 0x37) U
    ∷ row AUIPC (Opcode 0x17) U
    ∷ row JAL (Opcode 0x6f) J
    ∷ row JALR (Funct3 0x67 0) I
    ∷ row BEQ (Funct3 0x63 0) B
    ∷ row BNE (Funct3 0x63 1) B
    ∷ row BLT (Funct3 0x63 4) B
    ∷ row BGE (Funct3 0x63 5) B
    ∷ row BLTU (Funct3 0x63 6) B
    ∷ row BGEU (Funct3 0x63 7) B
    ∷ row LB (Funct3 0x03 0) I
    ∷ row LH (Funct3 0x03 1) I
    ∷ row LW (Funct3 0x03 2) I
    ∷ row LBU (Funct3 0x03 4) I
    ∷ row LHU (Funct3 0x03 5) I
    ∷ row SB (Funct3 0x23 0) S
    ∷ row SH (Funct3 0x23 1) S
    ∷ row SW (Funct3 0x23 2) S
    ∷ row ADDI (Funct3 0x13 0) I
    ∷ row SLTI (Funct3 0x13 2) I
    ∷ row SLTIU (Funct3 0x13 3) I
    ∷ row XORI (Funct3 0x13 4) I
    ∷ row ORI (Funct3 0x13 6) I
    ∷ row ANDI (Funct3 0x13 7) I
    ∷ row SLLI (Funct7 0x13 1 0) Shift
    ∷ row SRLI (Funct7 0x13 5 0) Shift
    ∷ row SRAI (Funct7 0x13 5 0x20) Shift
    ∷ row ADD (Funct7 0x33 0 0) R
    ∷ row SLL (Funct7 0x33 1 0) R
    ∷ row SLT (Funct7 0x33 2 0) R
    ∷ row SLTU (Funct7 0x33 3 0) R
    ∷ row XOR (Funct7 0x33 4 0) R
    ∷ row SRL (Funct7 0x33 5 0) R
    ∷ row OR (Funct7 0x33 6 0) R
    ∷ row AND (Funct7 0x33 7 0) R
    ∷ row SUB (Funct7 0x33 0 0x20) R
    ∷ row SRA (Funct7 0x33 5 0x20) R
    ∷ row MUL (Funct7 0x33 0 1) R
    ∷ row MULH (Funct7 0x33 1 1) R
    ∷ row MULHSU (Funct7 0x33 2 1) R
    ∷ row MULHU (Funct7 0x33 3 1) R
    ∷ row DIV (Funct7 0x33 4 1) R
    ∷ row DIVU (Funct7 0x33 5 1) R
    ∷ row REM (Funct7 0x33 6 1) R
    ∷ row REMU (Funct7 0x33 7 1) R
    -- of FENCE the other fields are not looked at
    ∷ row FENCE (Funct3 0x0f 0) R
    ∷ row ECALL (Whole 0x00000073) R
    ∷ row EBREAK (Whole 0x00100073) R
    ∷ []

-- a word matches a pattern: under the mask it has the value
abbrev pub matches : Pattern → ℕ → Bool
matches pattern word = bit_and word (mask_of pattern) == value_of pattern

-- number and format of the first of these rows that a word matches
abbrev pub row_among : List Row → ℕ → Option (ℕ × Format)
row_among [] word = None
row_among (r ∷ rs) word = if matches r.pattern word then Some (r.number, r.format) else row_among rs word

-- number and format of the row of a word, which is illegal where there is none
unfoldable pub row_of : ℕ → Option (ℕ × Format)
row_of word = row_among rows word

-- of the table's rows a word matches one at most (RISC-V manual: no two instructions have one encoding)
abbrev pub OneRow : Type 0
OneRow = (word : ℕ) → length (filter (λ r. matches r.pattern word) rows) ≤ 1

-- so many bits of a word, from bit low on
abbrev pub bits_at : ℕ → ℕ → ℕ → ℕ
bits_at word low count = word / 2 ^ low % 2 ^ count

-- a number of so many bits, sign-extended to 32 bits
abbrev pub sign_extended : ℕ → ℕ → ℕ
sign_extended count bits = if nat_lt bits (2 ^ (count - 1)) then bits else bits + (2 ^ 32 - 2 ^ count)

-- the immediate of a word in a format, as the manual's figure of immediates puts it together
unfoldable pub immediate_of : Format → ℕ → ℕ
immediate_of R word = 0
immediate_of I word = sign_extended 12 (bits_at word 20 12)
immediate_of S word = sign_extended 12 (bits_at word 25 7 * 2 ^ 5 + bits_at word 7 5)
immediate_of B word =
    let high = bits_at word 31 1 * 2 ^ 12 + bits_at word 7 1 * 2 ^ 11 in
    sign_extended 13 (high + bits_at word 25 6 * 2 ^ 5 + bits_at word 8 4 * 2)
immediate_of U word = bits_at word 12 20 * 2 ^ 12
immediate_of J word =
    let high = bits_at word 31 1 * 2 ^ 20 + bits_at word 12 8 * 2 ^ 12 in
    sign_extended 21 (high + bits_at word 20 1 * 2 ^ 11 + bits_at word 21 10 * 2)
immediate_of Shift word = bits_at word 20 5

-- the row's number, and the immediate of the word in the row's format
abbrev pub with_immediate : ℕ → Option (ℕ × Format) → Option (ℕ × ℕ)
with_immediate word None = None
with_immediate word (Some r) = Some (r.0, immediate_of r.1 word)

-- the instruction of a word, from its row's number and its immediate; the registers' fields
-- are bits 11..7, 19..15 and 24..20 whatever the row is
abbrev pub instr_from : ℕ → Option (ℕ × ℕ) → Option Instr
instr_from word None = None
instr_from word (Some r) = Some record {
  row = r.0;
  rd = bits_at word 7 5;
  rs1 = bits_at word 15 5;
  rs2 = bits_at word 20 5;
  imm = r.1;
}

-- the instruction that a word stands for, or none where the word is illegal
abbrev pub decoded : ℕ → Option Instr
decoded word = instr_from word (with_immediate word (row_of word))

-- the registers that an instruction names are x0 to x31
abbrev pub NamesRegisters : Instr → Type 0
NamesRegisters i = (i.rd < 32) × (i.rs1 < 32) × (i.rs2 < 32)
