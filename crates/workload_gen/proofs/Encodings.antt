-- What the words of a setting decode to.
use Rattle.std.proofs.Common.{◌≡◌, ℕ, ◌+◌, ◌*◌, ◌/◌, ◌%◌, ◌^◌, ◌<◌, Some, refl, sym, ap, ◌∙◌, arith}
use Rattle.std.specs.Prelude.{bit_and}
use Rattle.std.proofs.lemmas.Nat.{and_mask}
use Rattle.std.proofs.lemmas.Bool.Decides.{nat_tests}
use Rattle.rv_table.specs.declared.Instr.{Instr}
use Rattle.rv_table.specs.Names.{LUI, ADDI}
use Rattle.rv_table.specs.Table.{Format, U, I, row_of, with_immediate, immediate_of, decoded, bits_at, sign_extended}
use Rattle.rv_table.specs.Fields.{row_by_fields}
use Rattle.rv_table.proofs.Rows.{decodes}
use Rattle.workload_gen.specs.Words.{lui, addi, ecall, upper_part, lower_part, SetsRegister, IsEcall}

-- the fields by which a row is told
abbrev opcode_of : ℕ → ℕ
opcode_of w = bit_and w 0x7f

abbrev funct3_of : ℕ → ℕ
funct3_of w = bit_and (w / 2 ^ 12) 7

abbrev funct7_of : ℕ → ℕ
funct7_of w = w / 2 ^ 25

-- the rows by opcode and funct3
row-lui : (funct3 funct7 word : ℕ) → row_by_fields 0x37 funct3 funct7 word ≡ Some (LUI, U)
unfolding row_by_fields
row-lui funct3 funct7 word = refl

row-addi : (funct7 word : ℕ) → row_by_fields 0x13 0 funct7 word ≡ Some (ADDI, I)
unfolding row_by_fields
row-addi funct7 word = refl

by_fields-lui : (w : ℕ) → w % 2 ^ 7 ≡ 0x37
    → row_by_fields (opcode_of w) (funct3_of w) (funct7_of w) w ≡ Some (LUI, U)
by_fields-lui w opcode =
    ap (λ o. row_by_fields o (funct3_of w) (funct7_of w) w) (and_mask w 7 ∙ opcode)
    ∙ row-lui (funct3_of w) (funct7_of w) w

by_fields-addi : (w : ℕ) → w % 2 ^ 7 ≡ 0x13 → w / 2 ^ 12 % 2 ^ 3 ≡ 0
    → row_by_fields (opcode_of w) (funct3_of w) (funct7_of w) w ≡ Some (ADDI, I)
by_fields-addi w opcode funct3 =
    ap (λ o. row_by_fields o (funct3_of w) (funct7_of w) w) (and_mask w 7 ∙ opcode)
    ∙ (ap (λ f. row_by_fields 0x13 f (funct7_of w) w) (and_mask (w / 2 ^ 12) 3 ∙ funct3)
    ∙ row-addi (funct7_of w) w)

-- the instruction of a word of a row, with the immediate of the row's format
abbrev instr : ℕ → ℕ → Format → Instr
instr w row format = record {
  row = row;
  rd = bits_at w 7 5;
  rs1 = bits_at w 15 5;
  rs2 = bits_at w 20 5;
  imm = immediate_of format w;
}

decoded-row : (w row : ℕ) (format : Format) → w < 2 ^ 32
    → row_by_fields (opcode_of w) (funct3_of w) (funct7_of w) w ≡ Some (row, format) → decoded w ≡ Some (instr w row format)
decoded-row w row format fits is =
    sym (decodes w row (immediate_of format w) fits (sym (ap (with_immediate w) is)))
    ∙ (λ i. Some record {
      row = row;
      rd = and_mask (w / 2 ^ 7) 5 i;
      rs1 = and_mask (w / 2 ^ 15) 5 i;
      rs2 = and_mask (w / 2 ^ 20) 5 i;
      imm = immediate_of format w;
    })

-- the immediates
upper-lui : (rd upper : ℕ) → rd < 32 → upper < 2 ^ 20 → immediate_of U (lui rd upper) ≡ upper * 2 ^ 12
unfolding immediate_of
upper-lui rd upper register bits = omega arith

lower-addi : (rd rs1 lower : ℕ) → rd < 32 → rs1 < 32 → lower < 2 ^ 12
    → immediate_of I (addi rd rs1 lower) ≡ sign_extended 12 lower
unfolding immediate_of
lower-addi rd rs1 lower target source bits =
    let same : bits_at (addi rd rs1 lower) 20 12 ≡ lower = omega arith in
    ap (sign_extended 12) same

-- the two parts of a value make it again
parts-sum : (value : ℕ) → value < 2 ^ 32
    → (upper_part value * 2 ^ 12 + sign_extended 12 (lower_part value)) % 2 ^ 32 ≡ value
parts-sum value fits = grind (arith, nat_tests)

-- the two words of a setting put the value into the register
pub setting_sets : (register value : ℕ) → register < 32 → value < 2 ^ 32
    → SetsRegister register value (lui register (upper_part value)) (addi register register (lower_part value))
setting_sets register value named fits =
    let first = lui register (upper_part value) in
    let second = addi register register (lower_part value) in
    let upper = upper-lui register (upper_part value) named (omega arith) in
    let lower = lower-addi register register (lower_part value) named named (omega arith) in
    record {
      upper = instr first LUI U;
      lower = instr second ADDI I;
      first_is = decoded-row first LUI U (omega arith) (by_fields-lui first (omega arith));
      second_is = decoded-row second ADDI I (omega arith) (by_fields-addi second (omega arith) (omega arith));
      lui = refl;
      into = omega arith;
      addi = refl;
      from = omega arith;
      back = omega arith;
      sum = rw (upper, lower) (parts-sum value fits);
    }

-- the word of `ecall` is that of its row
pub ecall_decodes : IsEcall ecall
unfolding row_of
ecall_decodes = refl
