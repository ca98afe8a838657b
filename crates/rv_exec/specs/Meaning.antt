-- The meaning of one instruction of RV32IM (the RISC-V manual).
-- The special addresses, the window and which fault raises which signal are this project's own.
use Rattle.std.specs.Prelude.{ℕ, ◌%◌, ◌==◌, List, slice_index, slice_set, length, take, Bool, not, bit_and, bit_or, bit_xor, nat_lt, nat_le, if◌then◌else◌, Option, Some, None}
use Rattle.std.specs.Int.{to_le_bytes, w32}
use Rattle.rv_table.specs.declared.Instr.{Instr}
use Rattle.rv_table.specs.Names.{LUI, AUIPC, JAL, JALR, BEQ, BNE, BLT, BGE, BLTU, BGEU, LB, LH, LBU, LHU, SB, SH, SW, ADDI, SLTI, SLTIU, XORI, ORI, ANDI, SLLI, SRLI, SRAI, ADD, SLL, SLT, SLTU, XOR, SRL, OR, AND, SUB, SRA, MUL, MULH, MULHSU, MULHU, DIV, DIVU, REM, REMU, FENCE, ECALL}
use Rattle.rv_table.specs.Table.{decoded, sign_extended}
use Rattle.rv_exec.specs.declared.Special.{Special}
use Rattle.rv_exec.specs.declared.Special.TheVariants.{Handler, Cleanup, Start}
use Rattle.rv_exec.specs.Window.{is_inside, number_at, with_bytes}
use Rattle.rv_exec.specs.Words.{flag, is_below_signed, sum, difference, shifted_left, shifted_right, shifted_right_signed, low_product, high_product_signed, high_product_mixed, high_product, quotient_signed, quotient, remainder_signed, remainder}

-- what one instruction does: it goes on with a next pc, registers and memory, or something else comes
-- and nothing changes: a call (ECALL), a fault with its signal, the return to a special address
pub data Effect : Type 0 where
  Goes : (pc : ℕ) (x mem : List ℕ) → Effect
  Calls : Effect
  Faults : (signal : ℕ) → Effect
  Returns : (which : Special) → Effect

-- the signals of faults (POSIX.1 names, the numbers of Linux)
abbrev pub SIGILL : ℕ
SIGILL = 4

abbrev pub SIGTRAP : ℕ
SIGTRAP = 5

abbrev pub SIGBUS : ℕ
SIGBUS = 7

abbrev pub SIGSEGV : ℕ
SIGSEGV = 11

-- the registers with a value in rd; a write to x0 is lost
abbrev pub with_register : List ℕ → ℕ → ℕ → List ℕ
with_register x rd value = if rd == 0 then x else slice_set x rd value

-- goes on with the next word, with a value in rd
abbrev pub writes : ℕ → ℕ → ℕ → List ℕ → List ℕ → Effect
writes rd value pc x mem = Goes (sum pc 4) (with_register x rd value) mem

-- goes on at a target with these registers, where the target is a multiple of 4
abbrev pub jumps : ℕ → List ℕ → List ℕ → Effect
jumps target x mem = if target % 4 == 0 then Goes target x mem else Faults SIGBUS

-- the relation of a branch holds
unfoldable pub is_taken : ℕ → ℕ → ℕ → Bool
is_taken row a b =
    if row == BEQ then a == b
    else if row == BNE then not (a == b)
    else if row == BLT then is_below_signed a b
    else if row == BGE then not (is_below_signed a b)
    else if row == BLTU then nat_lt a b
    else not (nat_lt a b)

-- a branch goes to its target where its relation holds, else on with the next word
unfoldable pub branch_effect : Instr → ℕ → List ℕ → List ℕ → Effect
branch_effect i pc x mem =
    if is_taken i.row (slice_index x i.rs1) (slice_index x i.rs2)
    then jumps (sum pc i.imm) x mem
    else Goes (sum pc 4) x mem

-- the effect of a load or a store of so many bytes at an address, in a memory of this size:
-- first the address has to be a multiple of the width, then all bytes have to be inside
abbrev pub accesses : ℕ → ℕ → ℕ → Effect → Effect
accesses size address width effect =
    if not (address % width == 0) then Faults SIGBUS
    else if not (is_inside size address width) then Faults SIGSEGV
    else effect

-- how many bytes a load reads
unfoldable pub width_of_load : ℕ → ℕ
width_of_load row =
    if row == LB then 1
    else if row == LH then 2
    else if row == LBU then 1
    else if row == LHU then 2
    else 4

-- the word that a load makes of them: LB and LH extend the sign, LBU and LHU zeros
unfoldable pub extended : ℕ → ℕ → ℕ
extended row number =
    if row == LB then sign_extended 8 number
    else if row == LH then sign_extended 16 number
    else number

-- a load writes rd
unfoldable pub load_effect : Instr → ℕ → List ℕ → List ℕ → Effect
load_effect i pc x mem =
    let address = sum (slice_index x i.rs1) i.imm in
    let width = width_of_load i.row in
    accesses (length mem) address width (writes i.rd (extended i.row (number_at mem address width)) pc x mem)

-- how many bytes a store writes
unfoldable pub width_of_store : ℕ → ℕ
width_of_store row =
    if row == SB then 1
    else if row == SH then 2
    else 4

-- a store writes the low bytes of rs2, the lowest first
unfoldable pub store_effect : Instr → ℕ → List ℕ → List ℕ → Effect
store_effect i pc x mem =
    let address = sum (slice_index x i.rs1) i.imm in
    let width = width_of_store i.row in
    let bytes = take width (to_le_bytes w32 (slice_index x i.rs2)) in
    accesses (length mem) address width (Goes (sum pc 4) x (with_bytes mem address bytes))

-- what arithmetic with an immediate computes of rs1 and the immediate
abbrev pub computed_with_immediate : ℕ → ℕ → ℕ → ℕ
computed_with_immediate row a imm =
    if row == ADDI then sum a imm
    else if row == SLTI then flag (is_below_signed a imm)
    else if row == SLTIU then flag (nat_lt a imm)
    else if row == XORI then bit_xor a imm
    else if row == ORI then bit_or a imm
    else if row == ANDI then bit_and a imm
    else if row == SLLI then shifted_left a imm
    else if row == SRLI then shifted_right a imm
    else shifted_right_signed a imm

-- what arithmetic with two registers computes of rs1 and rs2
abbrev pub computed : ℕ → ℕ → ℕ → ℕ
computed row a b =
    if row == ADD then sum a b
    else if row == SLL then shifted_left a b
    else if row == SLT then flag (is_below_signed a b)
    else if row == SLTU then flag (nat_lt a b)
    else if row == XOR then bit_xor a b
    else if row == SRL then shifted_right a b
    else if row == OR then bit_or a b
    else if row == AND then bit_and a b
    else if row == SUB then difference a b
    else if row == SRA then shifted_right_signed a b
    else if row == MUL then low_product a b
    else if row == MULH then high_product_signed a b
    else if row == MULHSU then high_product_mixed a b
    else if row == MULHU then high_product a b
    else if row == DIV then quotient_signed a b
    else if row == DIVU then quotient a b
    else if row == REM then remainder_signed a b
    else remainder a b

-- the effect of an instruction, by its row
unfoldable pub effect_of : Instr → ℕ → List ℕ → List ℕ → Effect
effect_of i pc x mem =
    let a = slice_index x i.rs1 in
    let b = slice_index x i.rs2 in
    let linked = with_register x i.rd (sum pc 4) in
    if i.row == LUI then writes i.rd i.imm pc x mem
    else if i.row == AUIPC then writes i.rd (sum pc i.imm) pc x mem
    else if i.row == JAL then jumps (sum pc i.imm) linked mem
    else if i.row == JALR then jumps (bit_and (sum a i.imm) 0xfffffffe) linked mem
    else if nat_le i.row BGEU then branch_effect i pc x mem
    else if nat_le i.row LHU then load_effect i pc x mem
    else if nat_le i.row SW then store_effect i pc x mem
    else if nat_le i.row SRAI then writes i.rd (computed_with_immediate i.row a i.imm) pc x mem
    else if nat_le i.row REMU then writes i.rd (computed i.row a b) pc x mem
    else if i.row == FENCE then Goes (sum pc 4) x mem
    else if i.row == ECALL then Calls
    else Faults SIGTRAP

-- the effect of what a word decodes to; a word that matches no row is illegal
abbrev pub effect_from : Option Instr → ℕ → List ℕ → List ℕ → Effect
effect_from None pc x mem = Faults SIGILL
effect_from (Some i) pc x mem = effect_of i pc x mem

-- the effect of the instruction at pc, over registers x0 to x31 and memory
unfoldable pub effect : ℕ → List ℕ → List ℕ → Effect
effect pc x mem =
    if pc == 0xfffffff0 then Returns Handler
    else if pc == 0xffffffe0 then Returns Cleanup
    else if pc == 0xffffffd0 then Returns Start
    else if not (is_inside (length mem) pc 4) then Faults SIGSEGV
    else effect_from (decoded (number_at mem pc 4)) pc x mem
