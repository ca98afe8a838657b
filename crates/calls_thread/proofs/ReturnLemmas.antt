-- How a special return begins that is due.
use Rattle.std.proofs.Common.{◌≡◌, ◌∙◌, ap, sym, subst, ℕ, List, [], Some}
use Rattle.std.specs.Prelude.{slice_index}
use Rattle.rv_exec.specs.declared.Special.{Special}
use Rattle.rv_exec.specs.declared.Special.TheVariants.{Start}
use Rattle.posix_model.specs.State.{State, Normal}
use Rattle.posix_model.specs.Changes.{Outcome, begun, set_thread, exiting}
use Rattle.posix_model.specs.Good.{IsGood}
use Rattle.posix_model.specs.Instructions.{start_returned, returned, told_return}
use Rattle.posix_model.specs.Leaving.{exit_with}
use Rattle.posix_model.specs.Scheduling.{chosen}
use Rattle.posix_model.specs.declared.Head.TheVariants.{Ret}
use Rattle.posix_model.proofs.GoodMoves.{instructions_keep_good}
use Rattle.kernel_state.specs.declared.kernel.MainLine.TheVariants.{OfThread}
use Rattle.kernel_state.specs.Begun.{HasNotedSome, CanStart, IsBegun}
use Rattle.kernel_state.specs.Kernels.{KernelState}
use Rattle.kernel_state.specs.View.{view}
use Rattle.kernel_state.proofs.NoteLemmas.{can_start, begun_by}

module _ (s : State) (t : ℕ) where
  -- outside the exit an exit starts it
  pub starts_exit : (s.threads t).frames ≡ [] → (s.threads t).phase ≡ Normal
      → returned s t Start ≡ told_return t Start (begun (exit_with s t (slice_index (s.threads t).registers.x 10)))
  starts_exit bare normal =
      let value : ℕ = slice_index (s.threads t).registers.x 10 in
      (λ i. start_returned s t (bare i) (normal i)) ∙ sym (ap (λ p. told_return t Start (begun (set_thread s t (exiting p (s.threads t) value)))) normal)

-- what was noted is a special return that is due
module _ {R : Type 0} (order : R → List ℕ) (k q : KernelState R) (t : ℕ) (which : Special) (g : Outcome) (noted : HasNotedSome order k q g)
    (due : returned (view order k.tables) t which ≡ told_return t which g) where
  pub return_starts : IsGood (view order k.tables) → chosen (view order k.tables) ≡ Some t → CanStart order q
  return_starts good first =
      can_start order k q g noted (subst (λ (x : Outcome). IsGood x.state) due ((instructions_keep_good (view order k.tables) t good first).2 which))

  pub return_begun : (r : KernelState R) → r ≡ record q { main = Some (OfThread t (Ret which)) } → IsBegun order k r (returned (view order k.tables) t which)
  return_begun r begun = subst (IsBegun order k r) (sym due) (begun_by order k q g noted r (OfThread t (Ret which)) begun)
