-- The words of a system call in a program's text: RV32I of the RISC-V manual, in an order of this project's own.
use Rattle.std.specs.Prelude.{ℕ, ◌+◌, ◌*◌, ◌/◌, ◌%◌, ◌^◌, ◌≡◌, ◌∷◌, ◌++◌, List, [], Some, option_map, slice_index}
use Rattle.rv_table.specs.declared.Instr.{Instr}
use Rattle.rv_table.specs.Names.{LUI, ADDI, ECALL}
use Rattle.rv_table.specs.Table.{decoded}

-- the word of `lui rd, upper` (RISC-V: format U, opcode 0x37), whose operand has 20 bits
abbrev pub lui : ℕ → ℕ → ℕ
lui rd upper = upper * 2 ^ 12 + (rd * 2 ^ 7 + 0x37)

-- the word of `addi rd, rs1, lower` (RISC-V: format I, opcode 0x13, funct3 0), whose operand has 12 bits
abbrev pub addi : ℕ → ℕ → ℕ → ℕ
addi rd rs1 lower = lower * 2 ^ 20 + (rs1 * 2 ^ 15 + (rd * 2 ^ 7 + 0x13))

-- the word of `ecall` (RISC-V)
abbrev pub ecall : ℕ
ecall = 0x00000073

-- the lower part of a value, which is from -2048 to 2047, by the 12 bits of its two's complement
abbrev pub lower_part : ℕ → ℕ
lower_part value = value % 2 ^ 12

-- the upper part of 20 bits, so that 4096 * upper + lower is the value modulo 2^32
abbrev pub upper_part : ℕ → ℕ
upper_part value = (value + 2 ^ 11) / 2 ^ 12 % 2 ^ 20

-- the two words that put a value into a register
abbrev pub setting : ℕ → ℕ → List ℕ
setting register value = lui register (upper_part value) ∷ addi register register (lower_part value) ∷ []

-- the words of a call: its arguments into a0 to a3 (x10 to x13), its number into a7 (x17), then `ecall`
abbrev pub call_words : ℕ → List ℕ → List ℕ
call_words call args =
    setting 10 (slice_index args 0)
    ++ setting 11 (slice_index args 1)
    ++ setting 12 (slice_index args 2)
    ++ setting 13 (slice_index args 3)
    ++ setting 17 call
    ++ ecall ∷ []

-- two words decode to LUI and to ADDI of a register, whose immediates add up to the value modulo 2^32
pub record SetsRegister (register value first second : ℕ) : Type 0 where
  pub upper : Instr
  pub lower : Instr
  pub first_is : decoded first ≡ Some upper
  pub second_is : decoded second ≡ Some lower
  pub lui : upper.row ≡ LUI
  pub into : upper.rd ≡ register
  pub addi : lower.row ≡ ADDI
  pub from : lower.rs1 ≡ register
  pub back : lower.rd ≡ register
  pub sum : (upper.imm + lower.imm) % 2 ^ 32 ≡ value

-- a word decodes to ECALL
abbrev pub IsEcall : ℕ → Type 0
IsEcall word = option_map (λ i. i.row) (decoded word) ≡ Some ECALL
