-- The small changes by which a mutex is handed over and a thread is woken.
use Rattle.std.proofs.Common.{◌≡◌, ◌∙◌, ap, sym, refl, ℕ, true, false, Option, Some, None, is_some}
use Rattle.std.proofs.lemmas.Bool.{eqb-true}
use Rattle.thread_base.specs.Holders.{is_free}
use Rattle.thread_base.specs.Objects.{holder_in, waiters_in, with_holder, with_waiters}
use Rattle.thread_base.specs.Orders.{is_in, without}
use Rattle.thread_base.specs.declared.mutex.Holder.TheVariants.{Free, Held}
use Rattle.thread_base.proofs.MapLemmas.{put_same, put-put}
use Rattle.posix_model.specs.State.{State, Thread, Mutex, Standing, Absent, Ready, Waits, Ended, is_ready, is_live, wants, waits_on, mutex_with, wait_of, count_due}
use Rattle.posix_model.specs.Good.{IsGood}
use Rattle.posix_model.specs.Changes.{Outcome, go_on}
use Rattle.posix_model.specs.Mutexes.{set_mutex, retake, reply_due, hand_off}
use Rattle.posix_model.specs.Conditions.{leave, wake_from, wake}
use Rattle.posix_model.specs.declared.RetakeReply.{RetakeReply}
use Rattle.posix_model.specs.declared.Wait.TheVariants.{Join, Mutex as OfMutexWait, Cond, Reacquire, Signal as OfSignal, Sleep, Read}
use Rattle.posix_model.proofs.StandingLemmas.{never, wants_waits}
use Rattle.posix_model.proofs.GoodConditions.{mutex_there}
use Rattle.kernel_state.specs.Changing.{Can, CanRetake, change_by}
use Rattle.kernel_state.specs.declared.change.Change.TheVariants.{Mutex as OfMutex, Condition as OfCondition, Retake}
use Rattle.kernel_state.specs.declared.change.ConditionChange.TheVariants.{Leave}
use Rattle.kernel_state.specs.declared.change.MutexChange.TheVariants.{Hold, DropWaiter}
use Rattle.kernel_state.specs.Waking.{WaitsOn, LeavesMutex}
use Rattle.kernel_state.proofs.MutexLemmas.{retake_is}

-- a mutex that nobody waits for is free
pub freed_by : (s : State) (g : Outcome) (m : ℕ) (mutex : Mutex) → s.mutexes m ≡ Some mutex → LeavesMutex s g.state m
    → Can (OfMutex m (Hold Free)) g × (change_by (OfMutex m (Hold Free)) g ≡ hand_off g m mutex None)
freed_by s g m mutex there leaves = (
  ap is_some (leaves.mutex ∙ there),
  ap (λ o. record g { state = set_mutex g.state m (with_holder Free o) }) (leaves.mutex ∙ there),
)

-- a mutex that is handed to a waiter
module _ (s : State) (g : Outcome) (m u : ℕ) (mutex : Mutex) (good : IsGood s) (there : s.mutexes m ≡ Some mutex) (leaves : LeavesMutex s g.state m)
    (waits : is_in u (waiters_in (s.mutexes m)) ≡ true) where
  abbrev freed : Outcome
  freed = change_by (OfMutex m (Hold Free)) g

  abbrev dropped : Outcome
  dropped = change_by (OfMutex m (DropWaiter u)) freed

  abbrev open_mutex : Mutex
  open_mutex = record mutex { holder = Free; waiters = without u mutex.waiters }

  freed_there : freed.state.mutexes m ≡ Some (record mutex { holder = Free })
  freed_there = put_same g.state.mutexes m (with_holder Free (g.state.mutexes m)) ∙ ap (with_holder Free) (leaves.mutex ∙ there)

  dropped_there : dropped.state.mutexes m ≡ Some open_mutex
  dropped_there = put_same freed.state.mutexes m (with_waiters (without u) (freed.state.mutexes m)) ∙ ap (with_waiters (without u)) freed_there

  pub can_hold : Can (OfMutex m (Hold Free)) g
  can_hold = ap is_some (leaves.mutex ∙ there)

  pub can_drop : Can (OfMutex m (DropWaiter u)) (change_by (OfMutex m (Hold Free)) g)
  can_drop = ap (λ o. is_in u (waiters_in o)) freed_there ∙ sym (ap (λ o. is_in u (waiters_in o)) there) ∙ waits

  pub can_retake : CanRetake u m (change_by (OfMutex m (DropWaiter u)) (change_by (OfMutex m (Hold Free)) g)).state
  can_retake = record {
    there = ap is_some dropped_there;
    away = leaves.away u waits;
    live = ap (λ (x : Thread). is_live x.standing) (leaves.threads u waits) ∙ (wants_waits m (s.threads u).standing (sym ((good.mutexes m).listed u) ∙ waits)).2;
    free = λ taken. absurd (never (is_free (holder_in (dropped.state.mutexes m))) (ap (λ o. is_free (holder_in o)) dropped_there) taken);
  }

  pub handed_over : (count : ℕ) → count ≡ count_due (s.threads u).standing → (reply : RetakeReply) → reply ≡ reply_due (s.threads u).standing
      → change_by (Retake u m count reply) (change_by (OfMutex m (DropWaiter u)) (change_by (OfMutex m (Hold Free)) g)) ≡ hand_off g m mutex (Some u)
  handed_over count often reply due =
      let thread = leaves.threads u waits in
      let held : ℕ → Option Mutex = λ n. Some (record mutex { holder = Held u n; waiters = without u mutex.waiters }) in
      (retake_is dropped m u count reply open_mutex dropped_there).0 refl
      ∙ ap (λ (map : ℕ → Option Mutex). go_on (record g { state = record g.state { mutexes = map } }) u reply) (
      put-put freed.state.mutexes m (with_waiters (without u) (freed.state.mutexes m)) (held count)
      ∙ put-put g.state.mutexes m (with_holder Free (g.state.mutexes m)) (held count))
      ∙ (λ i. go_on (record g { state = set_mutex g.state m (held ((often ∙ sym (ap (λ (x : Thread). count_due x.standing) thread)) i)) }) u
      ((due ∙ sym (ap (λ (x : Thread). reply_due x.standing) thread)) i))

-- what a thread is doing that waits for a condition with a mutex
stands_on : (c m : ℕ) (st : Standing) → waits_on c st ≡ true → mutex_with st ≡ Some m → (deadline : Option ℕ) × (st ≡ Waits (Cond c m deadline (count_due st)))
stands_on c m Absent h e = absurd (let f : false ≡ true = h in cc)
stands_on c m Ready h e = absurd (let f : false ≡ true = h in cc)
stands_on c m (Waits (Join v)) h e = absurd (let f : false ≡ true = h in cc)
stands_on c m (Waits (OfMutexWait k)) h e = absurd (let f : false ≡ true = h in cc)
stands_on c m (Waits (Cond d k deadline count)) h e =
    (deadline, (λ i. Waits (Cond (eqb-true d c h i) ((let f : Some k ≡ Some m = e in let same : k ≡ m = cc in same) i) deadline count)))
stands_on c m (Waits (Reacquire k reply count)) h e = absurd (let f : false ≡ true = h in cc)
stands_on c m (Waits (OfSignal set)) h e = absurd (let f : false ≡ true = h in cc)
stands_on c m (Waits (Sleep until)) h e = absurd (let f : false ≡ true = h in cc)
stands_on c m (Waits (Read buffer size)) h e = absurd (let f : false ≡ true = h in cc)
stands_on c m (Ended value) h e = absurd (let f : false ≡ true = h in cc)

-- a thread that waits for a condition is woken
module _ (g : Outcome) (c m u before : ℕ) (good : IsGood (record g.state { now = before })) (waiting_on : WaitsOn g.state u c m) where
  stands : (deadline : Option ℕ) × ((g.state.threads u).standing ≡ Waits (Cond c m deadline (count_due (g.state.threads u).standing)))
  stands = stands_on c m (g.state.threads u).standing waiting_on.waits waiting_on.beside

  pub can_leave : Can (OfCondition c (Leave u)) g
  can_leave = (good.conditions c).listed u ∙ waiting_on.waits

  pub can_take_back : CanRetake u m (change_by (OfCondition c (Leave u)) g).state
  can_take_back = record {
    there = mutex_there (record g.state { now = before }) u c m (count_due (g.state.threads u).standing) stands.0 good stands.1;
    away = good.ready.listed u ∙ ap is_ready stands.1;
    live = ap is_live stands.1;
    free = λ taken k. (good.mutexes k).listed u ∙ ap (wants k) stands.1;
  }

  pub woken : (count : ℕ) → count ≡ count_due (g.state.threads u).standing → (reply : RetakeReply)
      → change_by (Retake u m count reply) (change_by (OfCondition c (Leave u)) g) ≡ wake g u reply
  woken count often reply =
      ap (λ n. retake (leave g c u) m u n reply) often ∙ sym (ap (λ st. wake_from g u reply (wait_of st)) stands.1)
