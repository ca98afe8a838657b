-- The waits whose time has come end one after another, by the numbers of their threads.
use Rattle.std.proofs.Common.{◌≡◌, ◌≢◌, ◌∙◌, ap, sym, refl, subst, arith, inl, inr, ℕ, zero, suc, ◌+◌, ◌-◌, ◌<◌, ◌≤◌, Bool, true, false, cond, find, List, [], ◌∷◌, Option, Some, None}
use Rattle.std.specs.Prelude.{if◌then◌else◌, filter, nat_le}
use Rattle.std.specs.List.{range_with_len}
use Rattle.std.proofs.lemmas.Bool.{cases_Bool, cases_eq}
use Rattle.thread_base.specs.Holders.{is_free}
use Rattle.thread_base.specs.Priority.{tids}
use Rattle.thread_base.specs.Maps.{put}
use Rattle.thread_base.proofs.MapLemmas.{put_same, put_other}
use Rattle.thread_base.proofs.SearchLemmas.{find_passes, find_member, range_in}
use Rattle.posix_model.specs.State.{State, Thread, Mutex, Standing, Ready, Waits, ATime, target, wait_of, deadline_by, is_ready}
use Rattle.posix_model.specs.Changes.{Outcome, begun, set_thread, to_end, with_reply}
use Rattle.posix_model.specs.Conditions.{leave, wake, wake_from}
use Rattle.posix_model.specs.Mutexes.{give, requeue, retake_of}
use Rattle.posix_model.specs.Arrivals.{has_come, timed_out, has_turn, charge_to, charge, expire_at, expire_all, expired, ring, tick}
use Rattle.posix_model.specs.Good.{IsGood}
use Rattle.posix_model.specs.Scheduling.{chosen}
use Rattle.posix_model.specs.declared.RetakeReply.{RetakeReply}
use Rattle.posix_model.specs.declared.RetakeReply.TheVariants.{Answer, Cancel}
use Rattle.posix_model.specs.declared.Wait.{Wait}
use Rattle.posix_model.specs.declared.Wait.TheVariants.{Cond, Sleep}
use Rattle.posix_model.proofs.StandingLemmas.{never}
use Rattle.posix_model.proofs.GoodConditions.{good_wake}
use Rattle.posix_model.proofs.GoodLemmas.{good_set, good_to_end, chosen_ready}
use Rattle.posix_model.proofs.GoodDeliveries.{good_unqueued}
use Rattle.posix_model.proofs.WakeLemmas.{wake_alike, wake_leaves, wake_elsewhere}
use Rattle.dispatcher.specs.Ticking.{later, is_late, late_from, IsInTick, AreStillWaiting}

-- ---- those that pass a test in a range, from the first on

pub found_first : (p : ℕ → Bool) (a n t : ℕ) → find p (range_with_len a n) ≡ Some t → filter p (range_with_len a n) ≡ t ∷ filter p (range_with_len (t + 1) (a + n - (t + 1)))
found_first p a zero t h = let e : None ≡ Some t = h in absurd (cc)
found_first p a (suc n) t h =
    elim (cases_Bool (p a)) [
      | inl is ↦
          (let first : Some a ≡ Some t = sym (ap (λ b. cond b (Some a) (find p (range_with_len (a + 1) n))) is) ∙ h in
          let same : a ≡ t = cc in
          let count : n ≡ a + suc n - (a + 1) = omega arith in
          ap (λ b. cond b (a ∷ filter p (range_with_len (a + 1) n)) (filter p (range_with_len (a + 1) n))) is
          ∙ ap (λ k. a ∷ filter p (range_with_len (a + 1) k)) count ∙ ap (λ k. k ∷ filter p (range_with_len (k + 1) (a + suc n - (k + 1)))) same)
      | inr is ↦
          (let rest : find p (range_with_len (a + 1) n) ≡ Some t = sym (ap (λ b. cond b (Some a) (find p (range_with_len (a + 1) n))) is) ∙ h in
          let count : a + 1 + n ≡ a + suc n = omega arith in
          ap (λ b. cond b (a ∷ filter p (range_with_len (a + 1) n)) (filter p (range_with_len (a + 1) n))) is
          ∙ found_first p (a + 1) n t rest ∙ ap (λ k. t ∷ filter p (range_with_len (t + 1) (k - (t + 1)))) count)
    ]

pub none_found : (p : ℕ → Bool) (xs : List ℕ) → find p xs ≡ None → filter p xs ≡ []
none_found p [] h = refl
none_found p (x ∷ xs) h =
    elim (cases_Bool (p x)) [
      | inl is ↦ (let e : Some x ≡ None = sym (ap (λ b. cond b (Some x) (find p xs)) is) ∙ h in absurd (cc))
      | inr is ↦ ap (λ b. cond b (x ∷ filter p xs) (filter p xs)) is ∙ none_found p xs (sym (ap (λ b. cond b (Some x) (find p xs)) is) ∙ h)
    ]

-- ---- what a wake leaves

retaken_drops : (g : Outcome) (m : ℕ) (o : Option Mutex) (t count : ℕ) (reply : RetakeReply) → (retake_of g m o t count reply).report.drops ≡ g.report.drops
retaken_drops g m None t count reply = refl
retaken_drops g m (Some mutex) t count reply = by (is_free mutex.holder) reply
  where
    by : (b : Bool) (r : RetakeReply) → (if b then give g m mutex t count r else requeue g m mutex t count r).report.drops ≡ g.report.drops
    by true (Answer error) = refl
    by true Cancel = refl
    by false r = refl

woken_drops : (g : Outcome) (t : ℕ) (reply : RetakeReply) (wait : Option Wait) → (wake_from g t reply wait).report.drops ≡ g.report.drops
woken_drops g t reply (Some (Cond c m deadline count)) = retaken_drops (leave g c t) m (g.state.mutexes m) t count reply
woken_drops g t reply wait = refl

wake_drops : (g : Outcome) (t : ℕ) (reply : RetakeReply) → (wake g t reply).report.drops ≡ g.report.drops
wake_drops g t reply = woken_drops g t reply (wait_of (g.state.threads t).standing)

woken_in_tick : (s : State) (g : Outcome) (t : ℕ) (reply : RetakeReply) → IsInTick s g → IsInTick s (wake g t reply)
woken_in_tick s g t reply at =
    let leaves = wake_leaves g t reply in
    record {
      now = ap (λ (x : State). x.now) leaves ∙ at.now;
      alarm = ap (λ (x : State). x.alarm) leaves ∙ at.alarm;
      actions = ap (λ (x : State). x.actions) leaves ∙ at.actions;
      pending = ap (λ (x : State). x.pending) leaves ∙ at.pending;
      drops = wake_drops g t reply ∙ at.drops;
    }

-- the same at another time
wake_at : (now : ℕ) (g : Outcome) (t : ℕ) (reply : RetakeReply) → (wake (record g { state = record g.state { now = now } }) t reply).state ≡ record (wake g t reply).state { now = now }
wake_at now g t reply = wake_alike g (record g.state { now = now }) t reply ∙ sym (ap (λ (x : State). record x { now = now }) (wake_leaves g t reply))

-- ---- one wait ends

-- a thread whose time has come sleeps, or waits for a condition
pub data IsTimed : Standing → Type 0 where
  sleeps : (until : ℕ) → IsTimed (Waits (Sleep until))
  waits : (c m : ℕ) (deadline : Option ℕ) (count : ℕ) → IsTimed (Waits (Cond c m deadline count))

pub timed : (now : ℕ) (st : Standing) → has_come now (deadline_by (wait_of st)) ≡ true → IsTimed st
timed now (Waits (Sleep until)) h = sleeps until
timed now (Waits (Cond c m deadline count)) h = waits c m deadline count
timed now st h = let e : false ≡ true = h in absurd (cc)

module _ (s : State) (from t : ℕ) (limit : from ≤ 65) (found : find (is_late s) (range_with_len from (65 - from)) ≡ Some t) where
  pub late_within : (from ≤ t) × (t < 65)
  late_within =
      let range = range_in from (65 - from) t (find_member (is_late s) (range_with_len from (65 - from)) t found) in
      let high = range.1 in
      (range.0, omega (arith, high, limit))

  pub is_late_now : is_late s t ≡ true
  is_late_now = find_passes (is_late s) (range_with_len from (65 - from)) t found

  pub first_late : late_from s from ≡ t ∷ late_from s (t + 1)
  first_late =
      let count : from + (65 - from) ≡ 65 = omega (arith, limit) in
      found_first (is_late s) from (65 - from) t found ∙ ap (λ k. t ∷ filter (is_late s) (range_with_len (t + 1) (k - (t + 1)))) count

  module _ (g : Outcome) (still : AreStillWaiting s from g) where
    pub same_now : g.state.threads t ≡ s.threads t
    same_now = still.same t late_within.0 is_late_now

    pub one_ended : AreStillWaiting s (t + 1) (expire_at g t (target (g.state.threads t).standing))
    one_ended = by (g.state.threads t).standing refl (timed (s.now + 1) (g.state.threads t).standing (ap (λ (x : Thread). has_come (s.now + 1) (deadline_by (wait_of x.standing))) same_now ∙ is_late_now))
      where
        by : (st : Standing) → (g.state.threads t).standing ≡ st → IsTimed st → AreStillWaiting s (t + 1) (expire_at g t (target st))
        by st is (sleeps until) = record {
          good = good_unqueued (record g.state { now = s.now }) t still.good (ATime until) (with_reply (g.state.threads t) 0 0) (ap target is) refl refl refl;
          same = λ u high late.
              (let low = late_within.0 in
              put_other g.state.threads t _ u (λ e. omega (arith, e, high)) ∙ still.same u (omega (arith, low, high)) late);
          others = record { now = still.others.now; alarm = still.others.alarm; actions = still.others.actions; pending = still.others.pending; drops = still.others.drops };
        }
        by st is (waits c m deadline count) = record {
          good = subst IsGood (wake_at s.now g t (Answer timed_out)) (good_wake (record g { state = record g.state { now = s.now } }) t (Answer timed_out) still.good);
          same = λ u high late.
              (let low = late_within.0 in
              wake_elsewhere g t u (Answer timed_out) (λ e. omega (arith, e, high)) ∙ still.same u (omega (arith, low, high)) late);
          others = woken_in_tick s g t (Answer timed_out) still.others;
        }

-- and then no time has come
pub none_late : (s : State) (from : ℕ) → find (is_late s) (range_with_len from (65 - from)) ≡ None → late_from s from ≡ []
none_late s from none = none_found (is_late s) (range_with_len from (65 - from)) none

-- ---- who is charged

ready_is_never_late : (now : ℕ) (st : Standing) → is_ready st ≡ true → has_come now (deadline_by (wait_of st)) ≡ false
ready_is_never_late now Ready h = refl
ready_is_never_late now st h = let e : false ≡ true = h in absurd (cc)

-- the thread that ran is charged: the others are as before, and the state is good at the time before
charged_waiting : (quantum : ℕ) (s : State) (o : Option ℕ) → IsGood s → ((t : ℕ) → o ≡ Some t → is_ready (s.threads t).standing ≡ true)
    → AreStillWaiting s 1 (begun (charge quantum (later s) o))
charged_waiting quantum s None good ready = record {
  good = good;
  same = λ u high late. refl;
  others = record { now = refl; alarm = refl; actions = refl; pending = refl; drops = refl };
}
charged_waiting quantum s (Some t) good ready = by (has_turn (s.threads t).policy)
  where
    more : Thread
    more = record (s.threads t) { used = (s.threads t).used + 1 }

    apart : (u : ℕ) → is_late s u ≡ true → u ≢ t
    apart u late same = never (is_late s u) late (ap (is_late s) same ∙ ready_is_never_late (s.now + 1) (s.threads t).standing (ready t refl))

    turn : (b : Bool) → AreStillWaiting s 1 (begun (if b then to_end (later s) t else set_thread (later s) t more))
    turn true = record {
      good = good_to_end s t good (ready t refl);
      same = λ u high late. put_other s.threads t _ u (apart u late);
      others = record { now = refl; alarm = refl; actions = refl; pending = refl; drops = refl };
    }
    turn false = record {
      good = good_set s t more refl refl good;
      same = λ u high late. put_other s.threads t _ u (apart u late);
      others = record { now = refl; alarm = refl; actions = refl; pending = refl; drops = refl };
    }

    by : (b : Bool) → AreStillWaiting s 1 (begun (if b then charge_to quantum (later s) t else later s))
    by true = turn (nat_le quantum ((s.threads t).used + 1))
    by false = record {
      good = good;
      same = λ u high late. refl;
      others = record { now = refl; alarm = refl; actions = refl; pending = refl; drops = refl };
    }

pub charged_still : (quantum : ℕ) (s : State) → IsGood s → AreStillWaiting s 1 (begun (charge quantum (later s) (chosen s)))
charged_still quantum s good = charged_waiting quantum s (chosen s) good (λ t e. (chosen_ready s t good e).0)

-- what a tick makes: every wait ends whose time has come, and then the alarm
expired_is : (s r : State) → r.now ≡ s.now + 1 → ((u : ℕ) → (r.threads u).standing ≡ (s.threads u).standing) → expired r ≡ late_from s 1
unfolding tids
expired_is s r now same = λ i. filter (λ u. has_come (now i) (deadline_by (wait_of (same u i)))) (range_with_len 1 64)

charge_standing : (quantum : ℕ) (s : State) (o : Option ℕ) (u : ℕ) → ((charge quantum (later s) o).threads u).standing ≡ (s.threads u).standing
charge_standing quantum s None u = refl
charge_standing quantum s (Some t) u = by (has_turn (s.threads t).policy)
  where
    standing : (x : Thread) → x.standing ≡ (s.threads t).standing → (put s.threads t x u).standing ≡ (s.threads u).standing
    standing x is =
        elim (cases_eq u t) [
          | inl same ↦ ap (λ v. (put s.threads t x v).standing) same ∙ ap (λ (y : Thread). y.standing) (put_same s.threads t x) ∙ is ∙ ap (λ v. (s.threads v).standing) (sym same)
          | inr other ↦ ap (λ (y : Thread). y.standing) (put_other s.threads t x u other)
        ]

    turn : (b : Bool) → ((if b then to_end (later s) t else set_thread (later s) t (record (s.threads t) { used = (s.threads t).used + 1 })).threads u).standing ≡ (s.threads u).standing
    turn true = standing _ refl
    turn false = standing _ refl

    by : (b : Bool) → ((if b then charge_to quantum (later s) t else later s).threads u).standing ≡ (s.threads u).standing
    by true = turn (nat_le quantum ((s.threads t).used + 1))
    by false = refl

charged_now : (quantum : ℕ) (s : State) (o : Option ℕ) → (charge quantum (later s) o).now ≡ s.now + 1
charged_now quantum s None = refl
charged_now quantum s (Some t) = by (has_turn (s.threads t).policy)
  where
    turn : (b : Bool) → (if b then to_end (later s) t else set_thread (later s) t (record (s.threads t) { used = (s.threads t).used + 1 })).now ≡ s.now + 1
    turn true = refl
    turn false = refl

    by : (b : Bool) → (if b then charge_to quantum (later s) t else later s).now ≡ s.now + 1
    by true = turn (nat_le quantum ((s.threads t).used + 1))
    by false = refl

pub tick_is : (quantum : ℕ) (s : State)
    → ring (expire_all (begun (charge quantum (later s) (chosen s))) (late_from s 1)) ≡ tick quantum (begun s)
tick_is quantum s =
    let charged : State = charge quantum (later s) (chosen s) in
    let now : charged.now ≡ s.now + 1 = (charged_now quantum s (chosen s)) in
    ap (λ ts. ring (expire_all (begun charged) ts)) (sym (expired_is s charged now (charge_standing quantum s (chosen s))))
