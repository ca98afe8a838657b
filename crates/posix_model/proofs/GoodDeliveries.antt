-- Each delivery keeps a good state good.
use Rattle.std.proofs.Common.{◌≡◌, ◌∙◌, ap, sym, refl, subst, ℕ, ◌+◌, ◌-◌, Bool, true, false, Option, Some, None}
use Rattle.std.specs.Prelude.{List, is_some, if◌then◌else◌}
use Rattle.std.proofs.lemmas.Bool.{ne_eqb}
use Rattle.thread_base.specs.Actions.{ignores}
use Rattle.thread_base.specs.Deliveries.{waits_for}
use Rattle.thread_base.specs.Maps.{put}
use Rattle.thread_base.specs.Objects.{with_waiters}
use Rattle.thread_base.specs.Orders.{without}
use Rattle.thread_base.specs.declared.action.Action.{Action}
use Rattle.thread_base.specs.declared.action.Action.TheVariants.{Default, Ignore, Handler}
use Rattle.posix_model.specs.State.{State, Thread, Mutex, Standing, Ready, Target, Nothing, MutexAt, ConditionAt, ASignal, ATime, Input, target, is_target, is_at_condition, set_at}
use Rattle.posix_model.specs.Changes.{begun, set_thread, append, with_reply, answer, in_exit, canceled}
use Rattle.posix_model.specs.Conditions.{wake}
use Rattle.posix_model.specs.Deliveries.{Delivery, Acts, Gives, awaited, set_pending, unqueued, told, cancelled, interrupted, wait_ended, in_handler, handled, by_action, given, delivered, next_delivery, deliver}
use Rattle.posix_model.specs.Good.{standings, IsGood, IsSoundMutex}
use Rattle.posix_model.specs.declared.Ending.{Ending}
use Rattle.posix_model.specs.declared.Ending.TheVariants.{Killed}
use Rattle.posix_model.specs.declared.Head.TheVariants.{Accept}
use Rattle.posix_model.specs.declared.RetakeReply.TheVariants.{Answer, Cancel as CancelReply}
use Rattle.posix_model.proofs.StandingLemmas.{never, is_something, aiming, kept}
use Rattle.posix_model.proofs.MutexLemmas.{mutex_stays, mutex_left, mutexes_put}
use Rattle.posix_model.proofs.ConditionLemmas.{conditions_on, conditions_apart}
use Rattle.posix_model.proofs.GoodLemmas.{good_alike, good_set, good_pending, good_awoken, good_append}
use Rattle.posix_model.proofs.GoodConditions.{good_wake}
use Rattle.posix_model.proofs.WakeLemmas.{wake_leaves}

-- an ending changes nothing else
pub good_ending : (s : State) (ending : Option Ending) → IsGood s → IsGood (record s { over = ending })
good_ending s ending good = good_alike s (record s { over = ending }) refl good good.ready good.joining good.mutexes good.conditions good.waits good.signals

-- a mutex is there where its waiters change, and it was there
still_there : (change : List ℕ → List ℕ) (o : Option Mutex) → is_some (with_waiters change o) ≡ is_some o
still_there change None = refl
still_there change (Some mutex) = refl

-- a thread becomes ready, and waits for the mutex no more, if there is one
left_queue : (standing : ℕ → Standing) (t m : ℕ) (o : Option Mutex) → IsSoundMutex standing m o → IsSoundMutex (put standing t Ready) m (with_waiters (without t) o)
left_queue standing t m None sound = mutex_stays standing t Ready m None (sound.listed t) (λ h. refl) sound
left_queue standing t m (Some mutex) sound = mutex_left standing t Ready m mutex refl refl sound

module _ (s : State) (t : ℕ) (good : IsGood s) where
  -- a wait ends that is for no condition: its thread becomes ready
  pub good_unqueued : (a : Target) (thread : Thread) → target (standings s t) ≡ a → is_something a ≡ true → is_at_condition a ≡ false → thread.detached ≡ (s.threads t).detached
      → IsGood (append (unqueued s t a) t thread)
  good_unqueued Nothing thread is waits other same = absurd (never false waits refl)
  good_unqueued (ConditionAt c) thread is waits other same = absurd (never true refl other)
  good_unqueued (MutexAt m) thread is waits other same =
      let was = aiming (standings s t) (ap is_something is) in
      let left = with_waiters (without t) (s.mutexes m) in
      let mutexes = put s.mutexes m left in
      good_awoken s t thread mutexes s.conditions good was.0 (good.within t was.1) (λ v j. same ∙ (good.joining v t j).joinable)
      (mutexes_put (standings s) t Ready s.mutexes good.mutexes m left
      (λ k ne. sym (ap (is_target (MutexAt k)) is ∙ ne_eqb m k (λ e. ne (sym e)))) refl
      (left_queue (standings s) t m (s.mutexes m) (good.mutexes m)))
      (conditions_on (put (standings s) t Ready) s.mutexes mutexes s.conditions
      (λ c k e there. kept is_some s.mutexes m k left (still_there (without t) (s.mutexes m)) ∙ there)
      (conditions_apart (standings s) s.mutexes t Ready s.conditions (λ c. refl) (λ c. ap (is_target (ConditionAt c)) is) good.conditions))
  good_unqueued a thread is waits other same =
      let was = aiming (standings s t) (ap is_something is) in
      good_append s t thread good was.0 (λ m. ap (is_target (MutexAt m)) is) (λ c. ap (is_target (ConditionAt c)) is) (good.within t was.1)
      (λ v j. same ∙ (good.joining v t j).joinable)

  -- a cancellation acts on a thread
  good_cancelled : (a : Target) → target (standings s t) ≡ a → IsGood (cancelled s t a).state
  good_cancelled Nothing is = good_set s t _ refl refl good
  good_cancelled (ConditionAt c) is =
      let thread : Thread = record (s.threads t) { cancellation = record (s.threads t).cancellation { enabled = false; pending = false } } in
      good_wake (begun (set_thread s t thread)) t CancelReply (good_set s t thread refl refl good)
  good_cancelled a is = good_unqueued a (in_exit (s.threads t) canceled) is refl refl refl

  -- a handler ends the wait of its thread
  good_wait_ended : (a : Target) → target (standings s t) ≡ a → is_at_condition a ≡ false → IsGood (wait_ended (begun s) t a).state
  good_wait_ended Nothing is other = good
  good_wait_ended (ATime until) is other = good_unqueued (ATime until) (with_reply (s.threads t) interrupted (until - s.now)) is refl refl refl
  good_wait_ended (Input buffer size) is other = good_unqueued (Input buffer size) (with_reply (s.threads t) interrupted 0) is refl refl refl
  good_wait_ended (ConditionAt c) is other = absurd (never true refl other)
  good_wait_ended a is other = subst (λ b. IsGood (append (unqueued s t b) t (s.threads t))) (sym is) (good_unqueued a (s.threads t) is refl refl refl)

  -- a handler is entered, or the signal pends again, which is not ignored
  good_handled : (sig count at mask : ℕ) (a : Target) → s.actions sig ≡ Handler at mask → target (standings s t) ≡ a → IsGood (handled s t sig count at mask a).state
  good_handled sig count at mask (ConditionAt c) acts is =
      let woken = (wake (begun s) t (Answer 0)).state in
      good_pending woken t sig (woken.pending t sig + count) (good_wake (begun s) t (Answer 0) good) (λ ignored.
      absurd (never (ignores (woken.actions sig) sig) ignored
      (ap (λ (r : State). ignores (r.actions sig) sig) (wake_leaves (begun s) t (Answer 0)) ∙ ap (λ action. ignores action sig) acts)))
  good_handled sig count at mask a acts is =
      let ended = (wait_ended (begun s) t a).state in
      good_set ended t (in_handler (ended.threads t) sig at mask) refl refl (good_wait_ended a is refl)

  good_by_action : (sig count : ℕ) (action : Action) → s.actions sig ≡ action → IsGood (by_action s t sig count action).state
  good_by_action sig count Default acts = good_ending s (Some (Killed sig)) good
  good_by_action sig count Ignore acts = good
  good_by_action sig count (Handler at mask) acts = good_handled sig count at mask (target (standings s t)) acts refl

  -- a signal is accepted
  good_accepted : (sig : ℕ) (a : Target) → target (standings s t) ≡ a → waits_for (set_at a) sig ≡ true → IsGood (answer (begun s) t 0 sig).state
  good_accepted sig (ASignal set) is waits = good_unqueued (ASignal set) (with_reply (s.threads t) 0 sig) is refl refl refl
  good_accepted sig a is waits = absurd (never false waits refl)

  good_signal_given : (sig count : ℕ) → IsGood (given s t sig count).state
  good_signal_given sig count = by (waits_for (awaited s t) sig) refl
    where
      by : (b : Bool) → waits_for (awaited s t) sig ≡ b
          → IsGood (if b then told t (Accept t sig count) (answer (begun s) t 0 sig) else by_action s t sig count (s.actions sig)).state
      by true waits = good_accepted sig (target (standings s t)) refl waits
      by false waits = good_by_action sig count (s.actions sig) refl

good_delivered : (s : State) (o : Option Delivery) → IsGood s → IsGood (delivered s o).state
good_delivered s None good = good
good_delivered s (Some (Acts t)) good = good_cancelled s t good (target (standings s t)) refl
good_delivered s (Some (Gives t sig place)) good = good_signal_given (set_pending s place sig 0) t (good_pending s place sig 0 good (λ ignored. refl)) sig (s.pending place sig)

pub good_deliver : (s : State) → IsGood s → IsGood (deliver s).state
good_deliver s good = good_delivered s (next_delivery s) good
