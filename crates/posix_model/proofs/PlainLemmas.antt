-- A plain instruction leaves the chosen thread and the next delivery.
use Rattle.std.proofs.Common.{◌≡◌, refl, ap, ℕ, Bool, ◌&&◌, List, find}
use Rattle.std.specs.Prelude.{not}
use Rattle.std.specs.Option.{option_or, option_map}
use Rattle.thread_base.specs.Deliveries.{next_delivery as next_signal}
use Rattle.thread_base.specs.Numbers.{has_signal}
use Rattle.thread_base.specs.Priority.{tids, first_greatest, effective}
use Rattle.thread_base.proofs.MapLemmas.{kept}
use Rattle.posix_model.specs.State.{State, Thread, Registers, target, set_at}
use Rattle.posix_model.specs.Scheduling.{edge, eff, chosen}
use Rattle.posix_model.specs.Deliveries.{Acts, gives, next_delivery, is_cancelled, is_free_for, awaited, may_take}
use Rattle.posix_model.specs.Instructions.{went_on}
use Rattle.posix_model.specs.Laws.{PlainInstructionsLeave}

-- each thread has what it had but for registers
module _ (s : State) (t : ℕ) (registers : Registers) (memory : List ℕ) where
  abbrev later : State
  later = (went_on s t registers memory).state

  abbrev moved : Thread
  moved = record (s.threads t) { registers = registers }

  eff_stays : eff later ≡ eff s
  unfolding eff
  eff_stays = ap (λ (f : ℕ → ℕ). effective f (edge s)) (λ i u. kept (λ (x : Thread). x.base) s.threads t u moved refl i)

  chosen_stays : chosen later ≡ chosen s
  unfolding chosen
  chosen_stays = ap (λ (f : ℕ → ℕ). first_greatest f s.ready) eff_stays

  cancelled_stays : ◌≡◌ {A = ℕ → Bool} (λ u. is_cancelled (later.threads u)) (λ u. is_cancelled (s.threads u))
  cancelled_stays = λ i u. kept is_cancelled s.threads t u moved refl i

  awaited_stays : awaited later ≡ awaited s
  awaited_stays = λ i u. kept (λ (x : Thread). set_at (target x.standing)) s.threads t u moved refl i

  free_stays : is_free_for later ≡ is_free_for s
  free_stays = λ i u sig. kept (λ (x : Thread). may_take x && not (has_signal x.mask sig)) s.threads t u moved refl i

  next_stays : next_delivery later ≡ next_delivery s
  unfolding next_delivery
  next_stays = λ i.
      option_or (option_map Acts (find (cancelled_stays i) tids))
      (option_map gives (next_signal (awaited_stays i) (free_stays i) s.pending (eff_stays i)))

pub plain_instructions_leave : PlainInstructionsLeave
plain_instructions_leave s t registers memory = (chosen_stays s t registers memory, next_stays s t registers memory)
