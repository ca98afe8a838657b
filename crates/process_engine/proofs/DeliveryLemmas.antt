-- The main line of the next delivery.
use Rattle.std.proofs.Common.{◌≡◌, ap, sym, refl, subst, arith, ℕ, Bool, true, false, Some}
use Rattle.std.specs.Prelude.{if◌then◌else◌}
use Rattle.thread_base.specs.Actions.{ignores}
use Rattle.thread_base.specs.Deliveries.{waits_for}
use Rattle.thread_base.specs.declared.action.Action.{Action}
use Rattle.thread_base.specs.declared.action.Action.TheVariants.{Default, Ignore, Handler}
use Rattle.posix_model.specs.State.{State, Target, Nothing, EndOf, MutexAt, ConditionAt, ASignal, ATime, Input, target}
use Rattle.posix_model.specs.Changes.{Outcome, begun, answer}
use Rattle.posix_model.specs.Deliveries.{Delivery, Acts, Gives, next_delivery, delivered, deliver, given, by_action, handled, set_pending, told, awaited}
use Rattle.posix_model.specs.Good.{IsGood}
use Rattle.posix_model.specs.declared.Head.TheVariants.{Accept}
use Rattle.posix_model.proofs.NextLemmas.{given_pends}
use Rattle.process_engine.proofs.CountLemmas.{IsDeliveryMain}

handled_main : (s : State) (t sig count at mask : ℕ) (a : Target) → IsDeliveryMain (handled s t sig count at mask a).report.head
handled_main s t sig count at mask Nothing = record { delivery = refl; no_call = refl; no_arrival = refl }
handled_main s t sig count at mask (EndOf u) = record { delivery = refl; no_call = refl; no_arrival = refl }
handled_main s t sig count at mask (MutexAt m) = record { delivery = refl; no_call = refl; no_arrival = refl }
handled_main s t sig count at mask (ConditionAt c) = record { delivery = refl; no_call = refl; no_arrival = refl }
handled_main s t sig count at mask (ASignal set) = record { delivery = refl; no_call = refl; no_arrival = refl }
handled_main s t sig count at mask (ATime until) = record { delivery = refl; no_call = refl; no_arrival = refl }
handled_main s t sig count at mask (Input buffer size) = record { delivery = refl; no_call = refl; no_arrival = refl }

-- one that is ignored never pends
action_main : (s : State) (t sig count : ℕ) (action : Action) → (ignores action sig ≡ true → ⊥) → IsDeliveryMain (by_action s t sig count action).report.head
action_main s t sig count Default heeded = record { delivery = refl; no_call = refl; no_arrival = refl }
action_main s t sig count Ignore heeded = absurd (heeded refl)
action_main s t sig count (Handler at mask) heeded = handled_main s t sig count at mask (target (s.threads t).standing)

given_main : (s : State) (t sig count : ℕ) → (ignores (s.actions sig) sig ≡ true → ⊥) → IsDeliveryMain (given s t sig count).report.head
given_main s t sig count heeded = by (waits_for (awaited s t) sig)
  where
    by : (b : Bool) → IsDeliveryMain (if b then told t (Accept t sig count) (answer (begun s) t 0 sig) else by_action s t sig count (s.actions sig)).report.head
    by true = record { delivery = refl; no_call = refl; no_arrival = refl }
    by false = action_main s t sig count (s.actions sig) heeded

delivered_main : (s : State) (d : Delivery) → IsGood s → next_delivery s ≡ Some d → IsDeliveryMain (delivered s (Some d)).report.head
delivered_main s (Acts t) good next = record { delivery = refl; no_call = refl; no_arrival = refl }
delivered_main s (Gives t sig place) good next =
    given_main (set_pending s place sig 0) t sig (s.pending place sig)
    (λ ignored. let none = good.signals.heeded place sig ignored in let some = given_pends s t sig place next in omega (arith, none, some))

-- the main line of the next delivery is that of a delivery
pub delivery_main : (s : State) (d : Delivery) → IsGood s → next_delivery s ≡ Some d → IsDeliveryMain (deliver s).report.head
delivery_main s d good next = subst (λ (g : Outcome). IsDeliveryMain g.report.head) (sym (ap (delivered s) next)) (delivered_main s d good next)
