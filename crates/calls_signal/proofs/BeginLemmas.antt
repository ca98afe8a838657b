-- A call that was noted and begun, with what is told of it.
use Rattle.std.proofs.Common.{◌≡◌, subst, ℕ, List, [], ◌∷◌, Some}
use Rattle.std.specs.Prelude.{slice_index}
use Rattle.posix_model.specs.Calls.{Called, told_call}
use Rattle.posix_model.specs.declared.Arguments.{Arguments}
use Rattle.posix_model.specs.declared.Head.TheVariants.{Call}
use Rattle.posix_model.specs.declared.Reply.{Reply}
use Rattle.kernel_state.specs.Kernels.{KernelState}
use Rattle.kernel_state.specs.Begun.{HasNotedSome, IsBegun, arguments_of}
use Rattle.kernel_state.specs.declared.kernel.MainLine.TheVariants.{OfThread}
use Rattle.kernel_state.proofs.NoteLemmas.{begun_by}

module _ {R : Type 0} (order : R → List ℕ) (k q r : KernelState R) (t number : ℕ) (args : List ℕ) (row : Arguments → Called) where
  pub begun_call : (c : Arguments) (reply : Reply) → c ≡ arguments_of args → HasNotedSome order k q (row c).outcome → reply ≡ (row c).reply
      → args ≡ slice_index args 0 ∷ slice_index args 1 ∷ slice_index args 2 ∷ slice_index args 3 ∷ []
      → r ≡ record q { main = Some (OfThread t (Call number args reply)) }
      → IsBegun order k r (told_call t number (arguments_of args) (row (arguments_of args)))
  begun_call c reply same noted is four told =
      let called : Called = row c in
      subst (λ (a : Arguments). IsBegun order k r (told_call t number (arguments_of args) (row a))) same
      (subst (IsBegun order k r) (λ i. record called.outcome { report = record called.outcome.report { tid = t; head = Call number (four i) (is i) } })
      (begun_by order k q called.outcome noted r (OfThread t (Call number args reply)) told))
