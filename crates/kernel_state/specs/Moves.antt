-- One step of the move in progress.
use Rattle.std.specs.Prelude.{ℕ, ◌≡◌, true, false, List, [], ◌∷◌, is_some}
use Rattle.thread_base.specs.Orders.{is_nil}
use Rattle.kernel_state.specs.View.{view, outcome}
use Rattle.kernel_state.specs.Changing.{Can, change_by, AllCan}
use Rattle.kernel_state.specs.Kernels.{KernelState, remaining, IsIdle, owed_by}
use Rattle.kernel_state.specs.declared.change.Change.{Change}
use Rattle.kernel_state.specs.declared.rest.Rest.{Rest}
use Rattle.kernel_state.specs.declared.tables.Tables.{Tables}
use Rattle.kernel_state.specs.declared.kernel.Stepped.{Stepped}
use Rattle.kernel_state.specs.declared.kernel.Stepped.TheVariants.{More, Exit}

-- a move is in progress
abbrev pub InProgress : {R : Type 0} → KernelState R → Type 0
InProgress k = is_some k.main ≡ true

-- the first of the small changes that are left was made, which could be made, and so can the others
pub record HasMade {R : Type 0} (order : R → List ℕ) (tables : Tables R) (rest : Rest) (after : Tables R) (others : Rest) : Type 0 where
  pub change : Change
  pub first : remaining rest ≡ change ∷ remaining others
  pub could : Can change (outcome order tables)
  pub makes : outcome order after ≡ change_by change (outcome order tables)
  pub can : AllCan (outcome order after) (remaining others)

-- one small change of the move in progress was made, the first of those that were left, and others are left, so that
-- what is owed stays
pub record MakesOne {R : Type 0} (order : R → List ℕ) (k q : KernelState R) : Type 0 where
  pub change : Change
  pub first : remaining k.rest ≡ change ∷ remaining q.rest
  pub makes : outcome order q.tables ≡ change_by change (outcome order k.tables)
  pub more : is_nil (remaining q.rest) ≡ false
  pub owed : owed_by order q ≡ owed_by order k
  pub main : q.main ≡ k.main
  pub settings : q.settings ≡ k.settings
  pub outside : q.outside ≡ k.outside

-- one small change was made and it was the last one: the tables show what was owed, and no move is in progress
pub record MakesLast {R : Type 0} (order : R → List ℕ) (k q : KernelState R) : Type 0 where
  pub change : Change
  pub last : remaining k.rest ≡ change ∷ []
  pub view_is : view order q.tables ≡ (owed_by order k).state
  pub idle : IsIdle q
  pub settings : q.settings ≡ k.settings
  pub outside : q.outside ≡ k.outside

-- a step of a move: more is left, or it was the last one and the move's report is told
abbrev pub IsStep : {R : Type 0} → (R → List ℕ) → KernelState R → Stepped → KernelState R → Type 0
IsStep order k More q = MakesOne order k q
IsStep order k (Exit report) q = (report ≡ (owed_by order k).report) × MakesLast order k q
