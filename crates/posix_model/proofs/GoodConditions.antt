-- Each call of a condition keeps a good state good.
use Rattle.std.proofs.Common.{◌≡◌, ◌∙◌, ap, sym, refl, subst, arith, ℕ, ◌+◌, ◌<◌, Bool, true, false, not, List, [], ◌∷◌, Option, Some, None}
use Rattle.std.specs.Prelude.{◌^◌, if◌then◌else◌, is_some, nat_lt}
use Rattle.std.specs.Option.{ForSome}
use Rattle.std.proofs.lemmas.Bool.{eq-eqb, ne_eqb, ltb-true, not-false}
use Rattle.thread_base.specs.Holders.{is_held_by, count_of, is_free}
use Rattle.thread_base.specs.Maps.{put}
use Rattle.thread_base.specs.Objects.{holder_in, cond_mutex, cond_waiters, new_condition, entered_by, without_waiter}
use Rattle.thread_base.specs.Orders.{is_in, is_nil, without}
use Rattle.thread_base.specs.declared.Errno.TheVariants.{EPERM, EBUSY, EINVAL}
use Rattle.thread_base.proofs.MapLemmas.{put_same}
use Rattle.posix_model.specs.State.{State, Thread, Mutex, Condition, Standing, Ready, Waits, wait_of, is_absent, is_ready, wants, waits_on, mutex_with, count_due}
use Rattle.posix_model.specs.Scheduling.{eff}
use Rattle.posix_model.specs.Changes.{Outcome, begun}
use Rattle.posix_model.specs.Mutexes.{best_waiter, hand_off, give, requeue, retake_of}
use Rattle.posix_model.specs.Arrivals.{has_come, timed_out}
use Rattle.posix_model.specs.Conditions.{set_condition, is_other, leave, wake_from, wake, wake_all, in_order, next_woken}
use Rattle.posix_model.specs.ConditionCalls.{cond_init, cond_destroy_of, cond_destroy, await_condition, wait_and_release, await_back, pass_on, time_out, wait_until, cond_wait_of, cond_wait, cond_timedwait, wake_one, cond_signal_of, cond_signal, cond_broadcast_of, cond_broadcast, condition_calls}
use Rattle.posix_model.specs.Replies.{ticks_in, values}
use Rattle.posix_model.specs.Good.{standings, IsGood, IsSoundCondition, AreSoundConditions, IsCount}
use Rattle.posix_model.specs.declared.RetakeReply.{RetakeReply}
use Rattle.posix_model.specs.declared.RetakeReply.TheVariants.{Answer}
use Rattle.posix_model.specs.declared.Wait.TheVariants.{Cond, Reacquire}
use Rattle.posix_model.proofs.StandingLemmas.{never, is_none, ready_live, ready_wants, ready_waits_on, for_none, for_some, is_later, steady}
use Rattle.posix_model.proofs.ListLemmas.{each_put}
use Rattle.posix_model.proofs.MutexLemmas.{mutex_stays, mutexes_stay}
use Rattle.posix_model.proofs.ConditionLemmas.{condition_idle, condition_left, condition_entered, conditions_put, conditions_apart}
use Rattle.posix_model.proofs.GoodLemmas.{good_alike, good_reply, good_asleep, ready_on, ready_without}
use Rattle.posix_model.proofs.GoodReplies.{GoodCall, IsGoodRow, AreGoodRows, good_refused, good_refusing, good_lookup, few_ticks}
use Rattle.posix_model.proofs.GoodHands.{sound_here, good_queued, good_given, good_hand_off}

-- one condition changes, and nothing else
good_condition : (s : State) (c : ℕ) (o : Option Condition) → IsGood s → IsSoundCondition (standings s) s.mutexes c o → IsGood (set_condition s c o)
good_condition s c o good here =
    good_alike s (set_condition s c o) refl good good.ready good.joining good.mutexes
    (each_put (IsSoundCondition (standings s) s.mutexes) s.conditions c o here (λ k ne. good.conditions k)) good.waits good.signals

-- the mutex with which a thread waits is there
pub mutex_there : (s : State) (t c m count : ℕ) (deadline : Option ℕ) → IsGood s → (s.threads t).standing ≡ Waits (Cond c m deadline count) → is_some (s.mutexes m) ≡ true
mutex_there s t c m count deadline good stands =
    let sound = good.conditions c in
    let beside : Some m ≡ cond_mutex (s.conditions c) = sym (ap mutex_with stands) ∙ sound.together t (ap (waits_on c) stands ∙ eq-eqb c c refl) in
    sound.there m (sym beside)

-- a thread that waits for a condition leaves it, and gets its mutex or waits for it
module _ (g : Outcome) (t c m count : ℕ) (deadline : Option ℕ) (reply : RetakeReply) (good : IsGood g.state) (stands : (g.state.threads t).standing ≡ Waits (Cond c m deadline count)) where
  many : IsCount count
  many = subst (λ st. IsCount (count_due st)) stands (good.waits t).count

  left : (st : Standing) → ((k : ℕ) → waits_on k st ≡ false)
      → AreSoundConditions (put (standings g.state) t st) g.state.mutexes (put g.state.conditions c (without_waiter t (g.state.conditions c)))
  left st awake =
      conditions_put (standings g.state) g.state.mutexes t st g.state.conditions c (without_waiter t (g.state.conditions c)) (λ k ne. awake k)
      (λ k ne. ap (waits_on k) stands ∙ ne_eqb c k (λ e. ne (sym e)))
      (condition_left (standings g.state) g.state.mutexes t st c (g.state.conditions c) (awake c) (good.conditions c)) good.conditions

  good_retaken : (mutex : Mutex) → g.state.mutexes m ≡ Some mutex → (b : Bool) → is_free mutex.holder ≡ b
      → IsGood (if b then give (leave g c t) m mutex t count reply else requeue (leave g c t) m mutex t count reply).state
  good_retaken mutex there true free =
      good_given g.state m mutex good there t count reply mutex.waiters _ (ap is_ready stands) (good.within t (ap is_absent stands)) many (λ k ne. ap (wants k) stands)
      (mutex_stays (standings g.state) t Ready m (Some mutex) (sym (ap (wants m) stands)) (λ h. refl) (sound_here g.state m mutex good there))
      (left Ready (λ k. refl))
  good_retaken mutex there false taken =
      let again : Standing = Waits (Reacquire m reply count) in
      good_queued g.state m mutex good there t (Reacquire m reply count) g.state.ready _ taken (good.within t (ap is_absent stands))
      (ready_on (standings g.state) t again g.state.ready (sym (ap is_ready stands)) good.ready) refl (λ k. ap (wants k) stands) (left again (λ k. refl))
      (steady g.state.now again many refl refl)

  good_retake_of : (o : Option Mutex) → g.state.mutexes m ≡ o → IsGood (retake_of (leave g c t) m o t count reply).state
  good_retake_of None none = absurd (never false (sym (ap is_some none) ∙ mutex_there g.state t c m count deadline good stands) refl)
  good_retake_of (Some mutex) there = good_retaken mutex there (is_free mutex.holder) refl

-- threads are woken
good_wake_by : (g : Outcome) (t : ℕ) (reply : RetakeReply) (st : Standing) → IsGood g.state → standings g.state t ≡ st → IsGood (wake_from g t reply (wait_of st)).state
good_wake_by g t reply (Waits (Cond c m deadline count)) good e = good_retake_of g t c m count deadline reply good e (g.state.mutexes m) refl
good_wake_by g t reply st good e = good

pub good_wake : (g : Outcome) (t : ℕ) (reply : RetakeReply) → IsGood g.state → IsGood (wake g t reply).state
good_wake g t reply good = good_wake_by g t reply (standings g.state t) good refl

good_wake_all : (g : Outcome) (ts : List ℕ) → IsGood g.state → IsGood (wake_all g ts).state
good_wake_all g [] good = good
good_wake_all g (t ∷ ts) good = good_wake_all (wake g t (Answer 0)) ts (good_wake g t (Answer 0) good)

good_wake_one : (g : Outcome) (o : Option ℕ) → IsGood g.state → IsGood (wake_one g o).state
good_wake_one g None good = good
good_wake_one g (Some u) good = good_wake g u (Answer 0) good

good_cond_init : IsGoodRow cond_init
good_cond_init s t c good ready =
    good_refusing s t ((not (nat_lt c.a0 256), EINVAL) ∷ (is_some (s.conditions c.a0), EBUSY) ∷ [])
    (values (begun (set_condition s c.a0 (Some new_condition))) t 0 0) good (λ fits.
    good_reply (set_condition s c.a0 (Some new_condition)) t 0 0
    (good_condition s c.a0 (Some new_condition) good
    (condition_idle (standings s) s.mutexes c.a0 (Some new_condition) (λ h. ltb-true c.a0 256 (not-false (nat_lt c.a0 256) fits.0))
    (λ u. sym ((good.conditions c.a0).listed u) ∙ ap (λ o. is_in u (cond_waiters o)) (is_none (s.conditions c.a0) fits.1.0)) refl refl)))

none_waits : (ws : List ℕ) → not (is_nil ws) ≡ false → ws ≡ []
none_waits [] h = refl
none_waits (w ∷ ws) h = absurd (never true refl h)

good_await_condition : (s : State) (t c : ℕ) (condition : Condition) (m : ℕ) (mutex : Mutex) (deadline : Option ℕ) → IsGood s → is_ready (standings s t) ≡ true
    → s.conditions c ≡ Some condition → s.mutexes m ≡ Some mutex → is_held_by mutex.holder t ≡ true → is_other m condition.mutex ≡ false
    → ForSome deadline (λ until. s.now < until) → ForSome deadline (λ until. until < s.now + 2 ^ 32)
    → IsGood (await_condition s t c condition m mutex deadline)
good_await_condition s t c condition m mutex deadline good ready here there held free later soon =
    let count = count_of mutex.holder in
    let st : Standing = Waits (Cond c m deadline count) in
    let o : Option Condition = Some (entered_by t m condition) in
    let range = good.within t (ready_live (standings s t) ready).0 in
    let may = (sound_here s m mutex good there).owned t held in
    good_asleep s t (Cond c m deadline count) (without t s.ready) s.mutexes (put s.conditions c o) good range (λ u. refl)
    (ready_without (standings s) t st s.ready refl good.ready)
    (mutexes_stay (standings s) t st s.mutexes good.mutexes (λ k. sym (ready_wants k (standings s t) ready)) (λ k h. refl))
    (conditions_put (standings s) s.mutexes t st s.conditions c o (λ k ne. ne_eqb c k (λ e. ne (sym e))) (λ k ne. ready_waits_on k (standings s t) ready)
    (condition_entered (standings s) s.mutexes t c m count deadline condition range (ready_waits_on c (standings s t) ready) (ap is_some there) free
    (subst (IsSoundCondition (standings s) s.mutexes c) here (good.conditions c)))
    good.conditions)
    (record { count = (may.least, may.most); later = later; soon = soon; some = for_none None (λ set. 0 < set) refl })

-- a ready thread waits to have a mutex back that another has
good_await_back : (g : Outcome) (t m count : ℕ) (o : Option Mutex) → IsGood g.state → g.state.mutexes m ≡ o → is_ready (standings g.state t) ≡ true
    → is_free (holder_in o) ≡ false → IsCount count → IsGood (await_back g t m o count).state
good_await_back g t m count None good there ready taken many = good
good_await_back g t m count (Some mutex) good there ready taken many =
    let s : State = g.state in
    let st : Standing = Waits (Reacquire m (Answer timed_out) count) in
    good_queued s m mutex good there t (Reacquire m (Answer timed_out) count) (without t s.ready) s.conditions taken (good.within t (ready_live (standings s t) ready).0)
    (ready_without (standings s) t st s.ready refl good.ready) refl (λ k. ready_wants k (standings s t) ready)
    (conditions_apart (standings s) s.mutexes t st s.conditions (λ c. refl) (λ c. ready_waits_on c (standings s t) ready) good.conditions)
    (steady s.now st many refl refl)

module _ (s : State) (t m : ℕ) (mutex : Mutex) (good : IsGood s) (ready : is_ready (standings s t) ≡ true) (there : s.mutexes m ≡ Some mutex)
    (held : is_held_by mutex.holder t ≡ true) where
  -- the caller's mutex goes to the best waiter, who is ready then, and so is the caller until it waits
  good_pass_on : (u : ℕ) → best_waiter s mutex ≡ Some u → IsGood (pass_on s t m mutex u).state
  good_pass_on u best =
      let passed : Outcome = hand_off (begun s) m mutex (Some u) in
      let may = (sound_here s m mutex good there).owned t held in
      good_await_back passed t m (count_of mutex.holder) (passed.state.mutexes m) (good_hand_off s m mutex good there (eff s) (Some u) best) refl
      (each_put (λ v (x : Thread). is_ready (standings s v) ≡ true → is_ready x.standing ≡ true) s.threads u _ (λ h. refl) (λ v ne h. h) t ready)
      (ap (λ o. is_free (holder_in o)) (put_same s.mutexes m _)) (may.least, may.most)

  good_time_out : (who : Option ℕ) → best_waiter s mutex ≡ who → GoodCall (time_out s t m mutex who)
  good_time_out None best = good_reply s t timed_out 0 good
  good_time_out (Some u) best = good_pass_on u best

  good_wait_until : (c : ℕ) (condition : Condition) (deadline : Option ℕ) → s.conditions c ≡ Some condition → is_other m condition.mutex ≡ false
      → ForSome deadline (λ until. until < s.now + 2 ^ 32) → GoodCall (wait_until s t c condition m mutex deadline)
  good_wait_until c condition deadline here free soon = by (has_come s.now deadline) refl
    where
      by : (b : Bool) → has_come s.now deadline ≡ b
          → GoodCall (if b then time_out s t m mutex (best_waiter s mutex) else wait_and_release s t c condition m mutex deadline)
      by true passed = good_time_out (best_waiter s mutex) refl
      by false coming =
          good_hand_off (await_condition s t c condition m mutex deadline) m mutex
          (good_await_condition s t c condition m mutex deadline good ready here there held free (is_later s.now deadline coming) soon)
          there (eff s) (best_waiter s mutex) refl

good_cond_wait_of : (s : State) (t c : ℕ) (condition : Option Condition) (m : ℕ) (mutex : Option Mutex) (deadline : Option ℕ) → IsGood s → is_ready (standings s t) ≡ true
    → s.conditions c ≡ condition → s.mutexes m ≡ mutex → ForSome deadline (λ until. until < s.now + 2 ^ 32) → GoodCall (cond_wait_of s t c condition m mutex deadline)
good_cond_wait_of s t c None m mutex deadline good ready here there soon = good_refused s t EINVAL good
good_cond_wait_of s t c (Some condition) m None deadline good ready here there soon = good_refused s t EINVAL good
good_cond_wait_of s t c (Some condition) m (Some mutex) deadline good ready here there soon =
    good_refusing s t ((not (is_held_by mutex.holder t), EPERM) ∷ (is_other m condition.mutex, EINVAL) ∷ []) (wait_until s t c condition m mutex deadline) good
    (λ may. good_wait_until s t m mutex good ready there (not-false (is_held_by mutex.holder t) may.0) c condition deadline here may.1.0 soon)

good_cond_wait : IsGoodRow cond_wait
good_cond_wait s t c good ready =
    good_cond_wait_of s t c.a0 (s.conditions c.a0) c.a1 (s.mutexes c.a1) None good ready refl refl (for_none None (λ until. until < s.now + 2 ^ 32) refl)

good_cond_timedwait : IsGoodRow cond_timedwait
good_cond_timedwait s t c good ready =
    let few = few_ticks c.a2 in
    good_cond_wait_of s t c.a0 (s.conditions c.a0) c.a1 (s.mutexes c.a1) (Some (ticks_in c.a2)) good ready refl refl
    (for_some (ticks_in c.a2) (λ until. until < s.now + 2 ^ 32) (omega (arith, few)))

module _ (s : State) (t c : ℕ) (condition : Condition) (good : IsGood s) (ready : is_ready (s.threads t).standing ≡ true) (here : s.conditions c ≡ Some condition) where
  good_cond_destroy_of : GoodCall (cond_destroy_of s t c (Some condition))
  good_cond_destroy_of =
      good_refusing s t ((not (is_nil condition.waiters), EBUSY) ∷ []) (values (begun (set_condition s c None)) t 0 0) good (λ idle.
      good_reply (set_condition s c None) t 0 0
      (good_condition s c None good
      (condition_idle (standings s) s.mutexes c None (λ h. absurd (never false h refl))
      (λ u. sym ((good.conditions c).listed u) ∙ ap (λ o. is_in u (cond_waiters o)) here ∙ ap (is_in u) (none_waits condition.waiters idle.0)) refl refl)))

  good_cond_signal_of : GoodCall (cond_signal_of s t (Some condition))
  good_cond_signal_of = good_reply (wake_one (begun s) (next_woken s condition)).state t 0 0 (good_wake_one (begun s) (next_woken s condition) good)

  good_cond_broadcast_of : GoodCall (cond_broadcast_of s t (Some condition))
  good_cond_broadcast_of =
      good_reply (wake_all (begun s) (in_order (eff s) condition.waiters)).state t 0 0 (good_wake_all (begun s) (in_order (eff s) condition.waiters) good)

good_cond_destroy : IsGoodRow cond_destroy
good_cond_destroy = good_lookup (λ (s : State). s.conditions) cond_destroy_of (λ s t c. refl) good_cond_destroy_of

good_cond_signal : IsGoodRow cond_signal
good_cond_signal = good_lookup (λ (s : State). s.conditions) (λ s t c. cond_signal_of s t) (λ s t c. refl) good_cond_signal_of

good_cond_broadcast : IsGoodRow cond_broadcast
good_cond_broadcast = good_lookup (λ (s : State). s.conditions) (λ s t c. cond_broadcast_of s t) (λ s t c. refl) good_cond_broadcast_of

pub good_condition_calls : AreGoodRows condition_calls
good_condition_calls = (good_cond_init, (good_cond_destroy, (good_cond_wait, (good_cond_timedwait, (good_cond_signal, (good_cond_broadcast, tt))))))
