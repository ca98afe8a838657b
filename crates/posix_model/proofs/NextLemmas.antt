-- A signal that is delivered next pends.
use Rattle.std.proofs.Common.{◌≡◌, refl, subst, inl, inr, ℕ, ◌<◌, arith, Bool, true, false, ◌&&◌, List, [], ◌∷◌, find, Option, Some, None, IfSome}
use Rattle.std.specs.Prelude.{nat_lt}
use Rattle.std.specs.Option.{option_or, option_map}
use Rattle.std.proofs.lemmas.Bool.{cases_Bool, and_parts}
use Rattle.std.proofs.lemmas.Bool.Decides.{nat_tests}
use Rattle.thread_base.specs.Deliveries.{signals, takes, own_signal, first_answer, own_delivery, pending_recipient, process_delivery, next_delivery as next_signal}
use Rattle.thread_base.specs.Priority.{tids}
use Rattle.thread_base.proofs.SearchLemmas.{find_passes}
use Rattle.posix_model.specs.State.{State}
use Rattle.posix_model.specs.Scheduling.{eff}
use Rattle.posix_model.specs.Deliveries.{Delivery, Acts, Gives, gives, next_delivery, is_free_for, awaited, is_cancelled}

-- what holds of either of two, and of the first answer along a list
if_either : {A : Type 0} (P : A → Type 0) (o p : Option A) → IfSome o P → IfSome p P → IfSome (option_or o p) P
if_either P None p h k = k
if_either P (Some x) p h k = h

if_answer : {A : Type 0} (P : A → Type 0) (answer : ℕ → Option A) (xs : List ℕ) → ((x : ℕ) → IfSome (answer x) P) → IfSome (first_answer answer xs) P
if_answer P answer [] h = tt
if_answer P answer (x ∷ xs) h = if_either P (answer x) (first_answer answer xs) (h x) (if_answer P answer xs h)

if_mapped : {A B : Type 0} (P : B → Type 0) (f : A → B) (o : Option A) → ((x : A) → o ≡ Some x → P (f x)) → IfSome (option_map f o) P
if_mapped P f None h = tt
if_mapped P f (Some x) h = h x refl

pub some_pend : (n : ℕ) → nat_lt 0 n ≡ true → 0 < n
some_pend n h = grind (arith, nat_tests)

-- a delivery gives a signal that pends
abbrev Pends : State → Delivery → Type 0
Pends s (Acts t) = Unit {0}
Pends s (Gives t sig place) = 0 < s.pending place sig

module _ (s : State) where
  abbrev Given : ℕ × ℕ × Bool → Type 0
  Given d = Pends s (gives d)

  own_pends : (t : ℕ) → IfSome (option_map (λ sig. (t, sig, false)) (own_signal (awaited s) (is_free_for s) s.pending t)) Given
  own_pends t =
      if_mapped Given (λ sig. (t, sig, false)) (own_signal (awaited s) (is_free_for s) s.pending t) (λ sig e.
      some_pend (s.pending t sig) (and_parts (nat_lt 0 (s.pending t sig)) (takes (awaited s) (is_free_for s) t sig)
      (find_passes (λ r. nat_lt 0 (s.pending t r) && takes (awaited s) (is_free_for s) t r) signals sig e)).0)

  shared_pends : (sig : ℕ) → IfSome (option_map (λ t. (t, sig, true)) (pending_recipient (awaited s) (is_free_for s) s.pending (eff s) sig)) Given
  shared_pends sig =
      elim (cases_Bool (nat_lt 0 (s.pending 0 sig))) [
        | inl is ↦ if_mapped Given (λ t. (t, sig, true)) (pending_recipient (awaited s) (is_free_for s) s.pending (eff s) sig) (λ t e. some_pend (s.pending 0 sig) is)
        | inr un ↦ rw un tt
      ]

  pub next_pends : IfSome (next_delivery s) (Pends s)
  unfolding next_delivery
  next_pends =
      if_either (Pends s) (option_map Acts (find (λ t. is_cancelled (s.threads t)) tids)) (option_map gives (next_signal (awaited s) (is_free_for s) s.pending (eff s)))
      (if_mapped (Pends s) Acts (find (λ t. is_cancelled (s.threads t)) tids) (λ t e. tt))
      (if_mapped (Pends s) gives (next_signal (awaited s) (is_free_for s) s.pending (eff s)) (λ d e.
      subst (λ o. IfSome o Given) e (if_either Given (own_delivery (awaited s) (is_free_for s) s.pending) (process_delivery (awaited s) (is_free_for s) s.pending (eff s))
      (if_answer Given (λ t. option_map (λ sig. (t, sig, false)) (own_signal (awaited s) (is_free_for s) s.pending t)) tids own_pends)
      (if_answer Given (λ sig. option_map (λ t. (t, sig, true)) (pending_recipient (awaited s) (is_free_for s) s.pending (eff s) sig)) signals shared_pends))))

-- a signal that is given next pends
pub given_pends : (s : State) (t sig place : ℕ) → next_delivery s ≡ Some (Gives t sig place) → 0 < s.pending place sig
given_pends s t sig place e = subst (λ o. IfSome o (Pends s)) e (next_pends s)
