-- A signal that comes, and each call of signals, keeps a good state good.
use Rattle.std.proofs.Common.{◌≡◌, ◌∙◌, refl, sym, arith, ℕ, ◌+◌, ◌<◌, Bool, true, false, not, [], ◌∷◌, Option, Some, None}
use Rattle.std.specs.Prelude.{◌^◌, ◌==◌, if◌then◌else◌, nat_lt}
use Rattle.std.proofs.lemmas.Bool.{eqb-false}
use Rattle.thread_base.specs.Actions.{ignores}
use Rattle.thread_base.specs.Maps.{put}
use Rattle.thread_base.specs.Numbers.{can_block, set_of}
use Rattle.thread_base.specs.Orders.{without}
use Rattle.thread_base.specs.declared.Errno.TheVariants.{ESRCH, EINVAL}
use Rattle.thread_base.specs.declared.action.Action.{Action}
use Rattle.posix_model.specs.State.{State, Thread, Standing, Waits, is_ready, is_live}
use Rattle.posix_model.specs.Changes.{Outcome, begun, set_thread}
use Rattle.posix_model.specs.Deliveries.{pend, set_pending, killed_by, left_of}
use Rattle.posix_model.specs.Arrivals.{dropped, come}
use Rattle.posix_model.specs.Replies.{values, blocked}
use Rattle.posix_model.specs.SignalCalls.{forgotten, with_action, number_of_action, action_of, is_action, sigaction, mask_by, sigmask, pending_set, sigpending, lowest_pending, accepted_from, accept_or_wait, sigwait, sent, can_send, kill_thread, kill_process, kill_calls}
use Rattle.posix_model.specs.Good.{standings, IsGood}
use Rattle.posix_model.specs.declared.Ending.TheVariants.{Killed}
use Rattle.posix_model.specs.declared.Wait.TheVariants.{Signal as OfSignal}
use Rattle.posix_model.proofs.StandingLemmas.{never, at_other, ready_live, ready_wants, ready_waits_on, once, for_none, for_some}
use Rattle.posix_model.proofs.ListLemmas.{each_put}
use Rattle.posix_model.proofs.MutexLemmas.{mutexes_stay}
use Rattle.posix_model.proofs.ConditionLemmas.{conditions_apart}
use Rattle.posix_model.proofs.GoodLemmas.{good_alike, good_set, good_pending, good_reply, good_asleep, ready_without}
use Rattle.posix_model.proofs.GoodReplies.{GoodCall, IsGoodRow, AreGoodRows, good_refusing}
use Rattle.posix_model.proofs.GoodDeliveries.{good_ending}

-- a signal comes for a thread or for the process, and pends only where it is not ignored
pub good_come : (g : Outcome) (place sig count : ℕ) → IsGood g.state → IsGood (come g place sig count).state
good_come g place sig count good = by (sig == 9)
  where
    heeded : (b : Bool) → ignores (g.state.actions sig) sig ≡ b → IsGood (if b then dropped g sig count else record g { state = pend g.state place sig count }).state
    heeded true h = good
    heeded false h = good_pending g.state place sig (g.state.pending place sig + count) good (λ ignored. absurd (never (ignores (g.state.actions sig) sig) ignored h))

    by : (b : Bool)
        → IsGood (if b then killed_by sig count g else if ignores (g.state.actions sig) sig then dropped g sig count else record g { state = pend g.state place sig count }).state
    by true = good_ending g.state (Some (Killed sig)) good
    by false = heeded (ignores (g.state.actions sig) sig) refl

-- a signal has another action, and what pends of it is forgotten where that ignores it
good_with_action : (g : Outcome) (sig : ℕ) (action : Action) → IsGood g.state → IsGood (with_action g sig action).state
good_with_action g sig action good = by (ignores action sig) refl
  where
    acting : State
    acting = record g.state { actions = put g.state.actions sig action }

    silent : State
    silent = record acting { pending = forgotten sig g.state.pending }

    by : (b : Bool) → ignores action sig ≡ b → IsGood (if b then dropped (record g { state = silent }) sig (left_of g.state sig) else record g { state = acting }).state
    by true ignored =
        good_alike g.state silent refl good good.ready good.joining good.mutexes good.conditions good.waits (record {
          later = good.signals.later;
          soon = good.signals.soon;
          heeded = λ place.
              each_put (λ v n. ignores (put g.state.actions sig action v) v ≡ true → n ≡ 0) (g.state.pending place) sig 0 (λ h. refl)
              (λ v ne h. good.signals.heeded place v (sym (at_other (λ a. ignores a v) g.state.actions sig v action ne) ∙ h));
        })
    by false heeded =
        good_alike g.state acting refl good good.ready good.joining good.mutexes good.conditions good.waits (record {
          later = good.signals.later;
          soon = good.signals.soon;
          heeded = λ place.
              each_put (λ v a. ignores a v ≡ true → g.state.pending place v ≡ 0) g.state.actions sig action
              (λ h. absurd (never (ignores action sig) h heeded)) (λ v ne h. good.signals.heeded place v h);
        })

good_sigaction : IsGoodRow sigaction
good_sigaction s t c good ready =
    let acting : Outcome = with_action (begun s) c.a0 (action_of c.a1 (set_of c.a2)) in
    good_refusing s t ((not (can_block c.a0), EINVAL) ∷ (not (is_action c.a1), EINVAL) ∷ []) (values acting t 0 (number_of_action (s.actions c.a0))) good
    (λ may. good_reply acting.state t 0 (number_of_action (s.actions c.a0)) (good_with_action (begun s) c.a0 (action_of c.a1 (set_of c.a2)) good))

good_sigmask : IsGoodRow sigmask
good_sigmask s t c good ready =
    let thread : Thread = record (s.threads t) { mask = mask_by c.a0 (s.threads t).mask (set_of c.a1) } in
    good_refusing s t ((nat_lt 2 c.a0, EINVAL) ∷ []) (values (begun (set_thread s t thread)) t 0 (s.threads t).mask) good
    (λ may. good_reply (set_thread s t thread) t 0 (s.threads t).mask (good_set s t thread refl refl good))

good_sigpending : IsGoodRow sigpending
good_sigpending s t c good ready = good_reply s t 0 (pending_set s t) good

-- a ready thread waits for a signal of a set that is not empty
good_awaiting : (s : State) (t set : ℕ) → IsGood s → is_ready (standings s t) ≡ true → 0 < set → GoodCall (blocked s t (OfSignal set))
good_awaiting s t set good ready some =
    let st : Standing = Waits (OfSignal set) in
    good_asleep s t (OfSignal set) (without t s.ready) s.mutexes s.conditions good (good.within t (ready_live (standings s t) ready).0) (λ u. refl)
    (ready_without (standings s) t st s.ready refl good.ready)
    (mutexes_stay (standings s) t st s.mutexes good.mutexes (λ m. sym (ready_wants m (standings s t) ready)) (λ m h. refl))
    (conditions_apart (standings s) s.mutexes t st s.conditions (λ c. refl) (λ c. ready_waits_on c (standings s t) ready) good.conditions)
    (record {
      count = once;
      later = for_none None (λ until. s.now < until) refl;
      soon = for_none None (λ until. until < s.now + 2 ^ 32) refl;
      some = for_some set (λ set. 0 < set) some;
    })

good_accept_or_wait : (s : State) (t set : ℕ) (o : Option ℕ) → IsGood s → is_ready (standings s t) ≡ true → 0 < set → GoodCall (accept_or_wait s t set o)
good_accept_or_wait s t set None good ready some = good_awaiting s t set good ready some
good_accept_or_wait s t set (Some sig) good ready some =
    let place = accepted_from s t sig in good_reply (set_pending s place sig 0) t 0 sig (good_pending s place sig 0 good (λ ignored. refl))

good_sigwait : IsGoodRow sigwait
good_sigwait s t c good ready =
    let set = set_of c.a0 in
    good_refusing s t ((set == 0, EINVAL) ∷ []) (accept_or_wait s t set (lowest_pending s t set)) good
    (λ may. let ne = eqb-false set 0 may.0 in good_accept_or_wait s t set (lowest_pending s t set) good ready (omega (arith, ne)))

good_sent : (s : State) (place sig : ℕ) → IsGood s → IsGood (sent s place sig).state
good_sent s place sig good = elim (sig == 0) as (λ b. IsGood (if b then begun s else come (begun s) place sig 1).state) [ true ↦ good | false ↦ good_come (begun s) place sig 1 good ]

good_kill_thread : IsGoodRow kill_thread
good_kill_thread s t c good ready =
    good_refusing s t ((not (is_live (s.threads c.a0).standing), ESRCH) ∷ (not (can_send c.a1), EINVAL) ∷ []) (values (sent s c.a0 c.a1) t 0 0) good
    (λ may. good_reply (sent s c.a0 c.a1).state t 0 0 (good_sent s c.a0 c.a1 good))

good_kill_process : IsGoodRow kill_process
good_kill_process s t c good ready =
    good_refusing s t ((not (can_send c.a0), EINVAL) ∷ []) (values (sent s 0 c.a0) t 0 0) good
    (λ may. good_reply (sent s 0 c.a0).state t 0 0 (good_sent s 0 c.a0 good))

pub good_kill_calls : AreGoodRows kill_calls
good_kill_calls = (good_sigaction, (good_sigmask, (good_sigpending, (good_sigwait, (good_kill_thread, (good_kill_process, tt))))))
