-- The kernel as clauses see it, and what always holds of it.
use Rattle.std.specs.Prelude.{ℕ, ◌≡◌, false, List, [], drop, Option, Some, None}
use Rattle.thread_base.specs.Orders.{is_nil}
use Rattle.posix_model.specs.Changes.{Outcome}
use Rattle.posix_model.specs.Good.{IsGood}
use Rattle.posix_model.specs.Reports.{nothing_told}
use Rattle.posix_model.specs.declared.Report.{Report}
use Rattle.posix_model.specs.declared.Settings.{Settings}
use Rattle.kernel_state.specs.View.{view, outcome, AreCurrent}
use Rattle.kernel_state.specs.Changing.{owed, AllCan}
use Rattle.kernel_state.specs.declared.change.Change.{Change}
use Rattle.kernel_state.specs.Outside.{OutsideState}
use Rattle.kernel_state.specs.declared.kernel.MainLine.{MainLine}
use Rattle.kernel_state.specs.declared.kernel.MainLine.TheVariants.{OfThread, Arrival}
use Rattle.kernel_state.specs.declared.rest.Rest.{Rest}
use Rattle.kernel_state.specs.declared.tables.Tables.{Tables}

-- the kernel: all tables, what came from outside, and of the move in progress its small changes and its main line, which is there from its
-- begin to its last change
pub record KernelState (R : Type 0) : Type 0 where
  pub tables : Tables R
  pub rest : Rest
  pub main : Option MainLine
  pub outside : OutsideState
  pub settings : Settings

-- the small changes that are left of a move
abbrev pub remaining : Rest → List Change
remaining rest = drop rest.next rest.noted.items

-- no small change is noted
pub record IsEmpty (rest : Rest) : Type 0 where
  pub none : rest.noted.items ≡ []
  pub first : rest.next ≡ 0

-- no move is in progress
pub record IsIdle {R : Type 0} (k : KernelState R) : Type 0 where
  pub main : k.main ≡ None
  pub rest : IsEmpty k.rest

-- a report that tells whose a move is and its main line, where there is one; an arrival is of no thread
abbrev pub told : Option MainLine → Report → Report
told None report = report
told (Some (OfThread t head)) report = record report { tid = t; head = head }
told (Some (Arrival head at)) report = record report { tid = 0; head = head; at = at }

-- what a move comes to, with its thread and its main line
abbrev pub with_main : Option MainLine → Outcome → Outcome
with_main main g = record g { report = told main g.report }

-- the state and the report when all changes that are left of the move in progress are made
abbrev pub owed_by : {R : Type 0} → (R → List ℕ) → KernelState R → Outcome
owed_by order k = with_main k.main (owed (outcome order k.tables) (remaining k.rest))

-- while no move is in progress the state is good and nothing is told; while one is, some of its small changes are
-- left, each of them can be made in its turn, and the state is good when all are made
abbrev pub IsInPhase : {R : Type 0} → (R → List ℕ) → KernelState R → Option MainLine → Type 0
IsInPhase order k None = IsGood (view order k.tables) × (k.tables.report ≡ nothing_told)
IsInPhase order k (Some main) =
    (is_nil (remaining k.rest) ≡ false) × AllCan (outcome order k.tables) (remaining k.rest)
    × IsGood (owed (outcome order k.tables) (remaining k.rest)).state

-- what always holds of a kernel: the ready list keeps the effective priorities, and the phase that it is in
pub record IsSoundKernel {R : Type 0} (order : R → List ℕ) (prios : R → ℕ → ℕ) (k : KernelState R) : Type 0 where
  pub current : AreCurrent (prios k.tables.ready) (view order k.tables)
  pub phase : IsInPhase order k k.main
