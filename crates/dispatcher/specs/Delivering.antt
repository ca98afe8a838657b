-- What is noted of a delivery after its signal was taken.
use Rattle.std.specs.Prelude.{ℕ, ◌+◌, ◌≡◌, ◌<◌, ◌^◌, List}
use Rattle.posix_model.specs.State.{State}
use Rattle.posix_model.specs.Changes.{Outcome, begun}
use Rattle.posix_model.specs.Deliveries.{told}
use Rattle.posix_model.specs.Good.{IsGood}
use Rattle.posix_model.specs.Weights.{pending_in_all}
use Rattle.posix_model.specs.declared.Head.{Head}
use Rattle.kernel_state.specs.View.{view}
use Rattle.kernel_state.specs.Begun.{HasNoted, HasNotedSome}
use Rattle.kernel_state.specs.Kernels.{KernelState}

-- a state in which a signal was taken from its place: nothing has changed but what pends, and it is good
pub record HasTaken (s r : State) : Type 0 where
  pub others : r ≡ record s { pending = r.pending }
  pub good : IsGood r

-- after a signal was taken small changes were noted, if any, that make this of the state
abbrev pub Notes : {R : Type 0} → (R → List ℕ) → KernelState R → KernelState R → (State → Outcome) → Type 0
Notes order k q after =
    (first : KernelState _) (s : State) → HasNoted order first k (begun s) → HasTaken (view order k.tables) s → HasNoted order first q (after s)

-- small changes were noted, one at least, that come to this with a thread and a main line
pub record ComesTo {R : Type 0} (order : R → List ℕ) (k q : KernelState R) (t : ℕ) (head : Head) (g : Outcome) : Type 0 where
  pub so_far : Outcome
  pub noted : HasNotedSome order k q so_far
  pub told : told t head so_far ≡ g

-- after a signal was taken that pended so often, and there is room to have it pend again, small changes were noted that come
-- to this of the state with a thread and a main line
abbrev pub Delivers : {R : Type 0} → (R → List ℕ) → KernelState R → KernelState R → ℕ → Head → ℕ → (State → Outcome) → Type 0
Delivers order k q t head count after =
    (first : KernelState _) (s : State) → HasNoted order first k (begun s) → HasTaken (view order k.tables) s → pending_in_all s + count < 2 ^ 63
    → ComesTo order first q t head (after s)
