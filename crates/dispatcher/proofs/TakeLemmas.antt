-- Who gets a signal that is delivered next, and what is left when it was taken.
use Rattle.std.proofs.Common.{◌⊎◌, ◌≡◌, ◌∙◌, sym, refl, subst, arith, inl, inr, ℕ, ◌+◌, ◌<◌, ◌≤◌, ◌^◌, Bool, true, false, ◌&&◌, not, List, [], ◌∷◌, filter, find, length, Option, Some, None, IfSome}
use Rattle.std.specs.Prelude.{nat_lt}
use Rattle.std.specs.Option.{option_or, option_map}
use Rattle.std.proofs.lemmas.Bool.{cases_Bool, ltb-true, and_parts, false_from_ne_true, or_left, or_right}
use Rattle.thread_base.specs.Actions.{ignores}
use Rattle.thread_base.specs.Deliveries.{signals, takes, waits_for, waiters, recipient, own_signal, first_answer, own_delivery, pending_recipient, process_delivery, next_delivery as next_signal}
use Rattle.thread_base.specs.Orders.{is_in}
use Rattle.thread_base.specs.Priority.{tids, first_greatest}
use Rattle.thread_base.proofs.PriorityLemmas.{first_in}
use Rattle.thread_base.proofs.SearchLemmas.{find_passes}
use Rattle.posix_model.specs.State.{State, Thread, Standing, Absent, is_absent, is_live, wait_of, takes_back}
use Rattle.posix_model.specs.Good.{IsGood}
use Rattle.posix_model.specs.Scheduling.{eff}
use Rattle.posix_model.specs.Deliveries.{Delivery, Acts, Gives, gives, next_delivery, is_free_for, awaited, is_cancelled, set_pending, may_take, most_frames}
use Rattle.posix_model.specs.Weights.{pending_in_all}
use Rattle.posix_model.proofs.GoodLemmas.{good_pending}
use Rattle.posix_model.proofs.ListLemmas.{is_in_filter}
use Rattle.posix_model.proofs.NextLemmas.{given_pends}
use Rattle.posix_model.proofs.StandingLemmas.{never}
use Rattle.posix_model.proofs.Weights.{next_due, signal_range, due_place}
use Rattle.kernel_state.proofs.SumLemmas.{room_put_back}
use Rattle.dispatcher.specs.Delivering.{HasTaken}

-- what holds of either of two, of what a function makes, and of the first answer along a list
if_is : {A : Type 0} (P : A → Type 0) (o : Option A) → ((x : A) → o ≡ Some x → P x) → IfSome o P
if_is P None h = tt
if_is P (Some x) h = h x refl

if_either : {A : Type 0} (P : A → Type 0) (o p : Option A) → IfSome o P → IfSome p P → IfSome (option_or o p) P
if_either P None p h k = k
if_either P (Some x) p h k = h

if_mapped : {A B : Type 0} (P : B → Type 0) (f : A → B) (o : Option A) → ((x : A) → o ≡ Some x → P (f x)) → IfSome (option_map f o) P
if_mapped P f None h = tt
if_mapped P f (Some x) h = h x refl

if_answer : {A : Type 0} (P : A → Type 0) (answer : ℕ → Option A) (xs : List ℕ) → ((x : ℕ) → IfSome (answer x) P) → IfSome (first_answer answer xs) P
if_answer P answer [] h = tt
if_answer P answer (x ∷ xs) h = if_either P (answer x) (first_answer answer xs) (h x) (if_answer P answer xs h)

-- a member of what a filter leaves passes
passes : (test : ℕ → Bool) (xs : List ℕ) (x : ℕ) → is_in x (filter test xs) ≡ true → test x ≡ true
passes test xs x h = (and_parts (test x) (is_in x xs) (sym (is_in_filter test x xs) ∙ h)).0

-- a thread that may take signals is there, and has room for a frame
live_there : (st : Standing) → is_live st ≡ true → not (is_absent st) ≡ true
live_there Absent live = absurd (never false live refl)
live_there st live = refl

module _ (thread : Thread) (may : may_take thread ≡ true) where
  parts : (is_live thread.standing ≡ true) × (nat_lt (length thread.frames) most_frames && not (takes_back (wait_of thread.standing)) ≡ true)
  parts = and_parts (is_live thread.standing) (nat_lt (length thread.frames) most_frames && not (takes_back (wait_of thread.standing))) may

  pub open_there : not (is_absent thread.standing) ≡ true
  open_there = live_there thread.standing parts.0

  pub open_room : length thread.frames < most_frames
  open_room = ltb-true (length thread.frames) most_frames (and_parts (nat_lt (length thread.frames) most_frames) (not (takes_back (wait_of thread.standing))) parts.1).0

-- a delivery gives a signal to a thread that takes it
abbrev IsTaken : State → Delivery → Type 0
IsTaken s (Acts t) = Unit {0}
IsTaken s (Gives t sig place) = takes (awaited s) (is_free_for s) t sig ≡ true

module _ (s : State) where
  abbrev Given : ℕ × ℕ × Bool → Type 0
  Given d = IsTaken s (gives d)

  own_taken : (t : ℕ) → IfSome (option_map (λ sig. (t, sig, false)) (own_signal (awaited s) (is_free_for s) s.pending t)) Given
  own_taken t =
      if_mapped Given (λ sig. (t, sig, false)) (own_signal (awaited s) (is_free_for s) s.pending t) (λ sig e.
      (and_parts (nat_lt 0 (s.pending t sig)) (takes (awaited s) (is_free_for s) t sig)
      (find_passes (λ r. nat_lt 0 (s.pending t r) && takes (awaited s) (is_free_for s) t r) signals sig e)).1)

  recipient_takes : (sig : ℕ) → IfSome (recipient (awaited s) (is_free_for s) (eff s) sig) (λ t. Given (t, sig, true))
  recipient_takes sig =
      let some = waiters (awaited s) sig in
      if_either (λ t. Given (t, sig, true)) (first_greatest (eff s) some) (find (λ t. is_free_for s t sig) tids)
      (if_is (λ t. Given (t, sig, true)) (first_greatest (eff s) some) (λ t e.
      or_left (waits_for (awaited s t) sig) (is_free_for s t sig) (passes (λ u. waits_for (awaited s u) sig) tids t (first_in (eff s) some t e))))
      (if_is (λ t. Given (t, sig, true)) (find (λ t. is_free_for s t sig) tids) (λ t e.
      or_right (waits_for (awaited s t) sig) (is_free_for s t sig) (find_passes (λ u. is_free_for s u sig) tids t e)))

  shared_taken : (sig : ℕ) → IfSome (option_map (λ t. (t, sig, true)) (pending_recipient (awaited s) (is_free_for s) s.pending (eff s) sig)) Given
  shared_taken sig =
      elim (cases_Bool (nat_lt 0 (s.pending 0 sig))) [
        | inl is ↦ rw is (if_mapped Given (λ t. (t, sig, true)) (recipient (awaited s) (is_free_for s) (eff s) sig) (λ t e.
            subst (λ o. IfSome o (λ u. Given (u, sig, true))) e (recipient_takes sig)))
        | inr un ↦ rw un tt
      ]

  next_taken : IfSome (next_delivery s) (IsTaken s)
  unfolding next_delivery
  next_taken =
      if_either (IsTaken s) (option_map Acts (find (λ t. is_cancelled (s.threads t)) tids)) (option_map gives (next_signal (awaited s) (is_free_for s) s.pending (eff s)))
      (if_mapped (IsTaken s) Acts (find (λ t. is_cancelled (s.threads t)) tids) (λ t e. tt))
      (if_mapped (IsTaken s) gives (next_signal (awaited s) (is_free_for s) s.pending (eff s)) (λ d e.
      subst (λ o. IfSome o Given) e (if_either Given (own_delivery (awaited s) (is_free_for s) s.pending) (process_delivery (awaited s) (is_free_for s) s.pending (eff s))
      (if_answer Given (λ t. option_map (λ sig. (t, sig, false)) (own_signal (awaited s) (is_free_for s) s.pending t)) tids own_taken)
      (if_answer Given (λ sig. option_map (λ t. (t, sig, true)) (pending_recipient (awaited s) (is_free_for s) s.pending (eff s) sig)) signals shared_taken))))

-- a signal that is given next
module _ (s : State) (t sig place : ℕ) (next : next_delivery s ≡ Some (Gives t sig place)) where
  -- goes to a thread that takes it
  pub given_takes : takes (awaited s) (is_free_for s) t sig ≡ true
  given_takes = subst (λ o. IfSome o (IsTaken s)) next (next_taken s)

  -- is not ignored
  pub given_heeded : IsGood s → ignores (s.actions sig) sig ≡ false
  given_heeded good =
      false_from_ne_true (ignores (s.actions sig) sig) (λ ignored.
      let pends = given_pends s t sig place next in
      let none = good.signals.heeded place sig ignored in
      omega (arith, pends, none))

  -- and is taken with its whole count
  pub given_taken : IsGood s → pending_in_all s < 2 ^ 62 → HasTaken s (set_pending s place sig 0) × (pending_in_all (set_pending s place sig 0) + s.pending place sig < 2 ^ 63)
  given_taken good room =
      let due = next_due s (Gives t sig place) next in
      let number = signal_range sig due.2 in (
        record { others = refl; good = good_pending s place sig 0 good (λ ignored. refl) },
        room_put_back s place sig (within (due_place t place due.1 due.3)) number.0 number.1 room,
      )
    where
      within : (place ≡ 0) ⊎ ((1 ≤ place) × (place ≤ 64)) → place ≤ 64
      within (inl process) = omega (arith, process)
      within (inr thread) = thread.1
