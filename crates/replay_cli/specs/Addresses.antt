-- The address that an instruction computes (the RISC-V manual).
use Rattle.std.specs.Prelude.{ℕ, ◌==◌, List, slice_index, length, bit_and, nat_le, if◌then◌else◌, Option, Some, None}
use Rattle.rv_table.specs.declared.Instr.{Instr}
use Rattle.rv_table.specs.Names.{LUI, AUIPC, JAL, JALR, BGEU, SW}
use Rattle.rv_table.specs.Table.{decoded}
use Rattle.rv_exec.specs.Window.{is_inside, number_at}
use Rattle.rv_exec.specs.Words.{sum}

-- the address that an instruction computes: the target of a jump or a branch, the address of a load's or a store's
-- data, and of any other its own
unfoldable pub computed_by : Instr → ℕ → List ℕ → ℕ
computed_by i pc x =
    if i.row == LUI then pc
    else if i.row == AUIPC then pc
    else if i.row == JAL then sum pc i.imm
    else if i.row == JALR then bit_and (sum (slice_index x i.rs1) i.imm) 0xfffffffe
    else if nat_le i.row BGEU then sum pc i.imm
    else if nat_le i.row SW then sum (slice_index x i.rs1) i.imm
    else pc

-- the same of what a word decodes to; a word that is no instruction computes nothing
abbrev pub computed_from : Option Instr → ℕ → List ℕ → ℕ
computed_from None pc x = pc
computed_from (Some i) pc x = computed_by i pc x

-- the address that the instruction at pc computes; where pc is outside the window, pc
unfoldable pub address_at : ℕ → List ℕ → List ℕ → ℕ
address_at pc x memory = if is_inside (length memory) pc 4 then computed_from (decoded (number_at memory pc 4)) pc x else pc
