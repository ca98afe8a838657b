-- The signal of a fault is in scope.
use Rattle.std.proofs.Common.{refl, ℕ, ◌%◌, Bool, not, List, [], ◌∷◌, length, take, Some, None}
use Rattle.std.specs.Prelude.{if◌then◌else◌, ◌==◌, nat_le, slice_index, bit_and}
use Rattle.std.specs.Int.{to_le_bytes, w32}
use Rattle.std.specs.List.{AllByRecursion}
use Rattle.thread_base.specs.Numbers.{IsInScope}
use Rattle.rv_exec.specs.declared.Special.TheVariants.{Handler, Cleanup, Start}
use Rattle.rv_exec.specs.Meaning.{Effect, Goes, Calls, Faults, Returns, SIGTRAP, SIGBUS, SIGSEGV, with_register, writes, jumps, is_taken, branch_effect, accesses, width_of_load, extended, load_effect, width_of_store, store_effect, computed_with_immediate, computed, effect_of, effect_from, effect}
use Rattle.rv_exec.specs.Window.{is_inside, number_at, with_bytes}
use Rattle.rv_exec.specs.Words.{sum}
use Rattle.posix_model.proofs.PendingLemmas.{either}

-- a fault has a signal in scope
abbrev pub FaultsInScope : Effect → Type 0
FaultsInScope (Faults sig) = IsInScope sig
FaultsInScope (Goes pc x mem) = Unit {0}
FaultsInScope Calls = Unit {0}
FaultsInScope (Returns which) = Unit {0}

-- the effect of the first test that holds
abbrev first_of : List (Bool × Effect) → Effect → Effect
first_of [] last = last
first_of (row ∷ rows) last = if row.0 then row.1 else first_of rows last

first_scope : (rows : List (Bool × Effect)) (last : Effect) → AllByRecursion (λ (row : Bool × Effect). FaultsInScope row.1) rows → FaultsInScope last
    → FaultsInScope (first_of rows last)
first_scope [] last all h = h
first_scope (row ∷ rows) last all h = either FaultsInScope row.0 row.1 (first_of rows last) all.0 (first_scope rows last all.1 h)

jumps_scope : (target : ℕ) (x mem : List ℕ) → FaultsInScope (jumps target x mem)
jumps_scope target x mem = either FaultsInScope (target % 4 == 0) (Goes target x mem) (Faults SIGBUS) tt refl

branch_scope : (i : _) (pc : ℕ) (x mem : List ℕ) → FaultsInScope (branch_effect i pc x mem)
unfolding branch_effect
branch_scope i pc x mem =
    either FaultsInScope (is_taken i.row (slice_index x i.rs1) (slice_index x i.rs2)) (jumps (sum pc i.imm) x mem) (Goes (sum pc 4) x mem)
    (jumps_scope (sum pc i.imm) x mem) tt

accesses_scope : (size address width : ℕ) (effect : Effect) → FaultsInScope effect → FaultsInScope (accesses size address width effect)
accesses_scope size address width effect h =
    first_scope ((not (address % width == 0), Faults SIGBUS) ∷ (not (is_inside size address width), Faults SIGSEGV) ∷ []) effect (refl, (refl, tt)) h

load_scope : (i : _) (pc : ℕ) (x mem : List ℕ) → FaultsInScope (load_effect i pc x mem)
unfolding load_effect
load_scope i pc x mem =
    let address = sum (slice_index x i.rs1) i.imm in
    let width = width_of_load i.row in
    accesses_scope (length mem) address width (writes i.rd (extended i.row (number_at mem address width)) pc x mem) tt

store_scope : (i : _) (pc : ℕ) (x mem : List ℕ) → FaultsInScope (store_effect i pc x mem)
unfolding store_effect
store_scope i pc x mem =
    let address = sum (slice_index x i.rs1) i.imm in
    let width = width_of_store i.row in
    accesses_scope (length mem) address width (Goes (sum pc 4) x (with_bytes mem address (take width (to_le_bytes w32 (slice_index x i.rs2))))) tt

-- the rows of the table, by their numbers
row_scope : (i : _) (pc : ℕ) (x mem : List ℕ) → FaultsInScope (effect_of i pc x mem)
unfolding effect_of
row_scope i pc x mem =
    let a = slice_index x i.rs1 in
    let b = slice_index x i.rs2 in
    let linked = with_register x i.rd (sum pc 4) in
    first_scope
    ((i.row == 0, writes i.rd i.imm pc x mem)
    ∷ (i.row == 1, writes i.rd (sum pc i.imm) pc x mem)
    ∷ (i.row == 2, jumps (sum pc i.imm) linked mem)
    ∷ (i.row == 3, jumps (bit_and (sum a i.imm) 0xfffffffe) linked mem)
    ∷ (nat_le i.row 9, branch_effect i pc x mem)
    ∷ (nat_le i.row 14, load_effect i pc x mem)
    ∷ (nat_le i.row 17, store_effect i pc x mem)
    ∷ (nat_le i.row 26, writes i.rd (computed_with_immediate i.row a i.imm) pc x mem)
    ∷ (nat_le i.row 44, writes i.rd (computed i.row a b) pc x mem)
    ∷ (i.row == 45, Goes (sum pc 4) x mem)
    ∷ (i.row == 46, Calls)
    ∷ [])
    (Faults SIGTRAP) (
      tt,
      (
        tt,
        (
          jumps_scope (sum pc i.imm) linked mem,
          (
            jumps_scope (bit_and (sum a i.imm) 0xfffffffe) linked mem,
            (
              branch_scope i pc x mem,
              (load_scope i pc x mem, (store_scope i pc x mem, (tt, (tt, (tt, (tt, tt)))))),
            ),
          ),
        ),
      ),
    )
    refl

from_scope : (o : _) (pc : ℕ) (x mem : List ℕ) → FaultsInScope (effect_from o pc x mem)
from_scope None pc x mem = refl
from_scope (Some i) pc x mem = row_scope i pc x mem

-- an effect after the tests of its pc
tested_scope : (o : _) (pc : ℕ) (x mem : List ℕ)
    → FaultsInScope (first_of
    ((pc == 0xfffffff0, Returns Handler) ∷ (pc == 0xffffffe0, Returns Cleanup) ∷ (pc == 0xffffffd0, Returns Start) ∷ (not (is_inside (length mem) pc 4), Faults SIGSEGV) ∷ [])
    (effect_from o pc x mem))
tested_scope o pc x mem =
    first_scope
    ((pc == 0xfffffff0, Returns Handler) ∷ (pc == 0xffffffe0, Returns Cleanup) ∷ (pc == 0xffffffd0, Returns Start) ∷ (not (is_inside (length mem) pc 4), Faults SIGSEGV) ∷ [])
    (effect_from o pc x mem) (tt, (tt, (tt, (refl, tt)))) (from_scope o pc x mem)

pub faults_in_scope : (pc : ℕ) (x mem : List ℕ) → FaultsInScope (effect pc x mem)
unfolding effect
faults_in_scope pc x mem = tested_scope _ pc x mem
