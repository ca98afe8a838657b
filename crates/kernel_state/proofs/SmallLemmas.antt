-- Each small change is small.
use Rattle.std.proofs.Common.{◌≡◌, ◌≢◌, ◌∙◌, ap, sym, refl, subst, ℕ, ◌+◌, eqb, Bool, true, false, not, List, [], ◌∷◌, ◌++◌, Option, Some, None, cond}
use Rattle.std.specs.Option.{IsNone}
use Rattle.std.proofs.lemmas.Bool.{eq-eqb}
use Rattle.std.specs.Prelude.{if◌then◌else◌}
use Rattle.thread_base.specs.Holders.{is_free}
use Rattle.thread_base.specs.Maps.{put}
use Rattle.thread_base.specs.Objects.{Mutex, Condition, with_waiters, with_holder, waiters_in, cond_waiters, without_waiter, entered}
use Rattle.thread_base.specs.Orders.{without}
use Rattle.thread_base.proofs.MapLemmas.{put_same, put_other, kept}
use Rattle.thread_base.proofs.OrderLemmas.{not_in-without, without_absent}
use Rattle.posix_model.specs.State.{State, Thread, is_ready, no_keys}
use Rattle.posix_model.specs.Deliveries.{set_pending, left_of}
use Rattle.posix_model.specs.Arrivals.{dropped}
use Rattle.posix_model.specs.SignalCalls.{forgotten}
use Rattle.thread_base.specs.Actions.{ignores}
use Rattle.thread_base.specs.declared.action.Action.{Action}
use Rattle.thread_signals.specs.Counts.{place_of}
use Rattle.posix_model.specs.Changes.{Outcome}
use Rattle.posix_model.specs.Leaving.{without_thread, over_with_last}
use Rattle.posix_model.specs.Mutexes.{retake_of, give, requeue}
use Rattle.posix_model.specs.Threads.{some_live}
use Rattle.posix_model.specs.declared.Ending.TheVariants.{Exit}
use Rattle.posix_model.specs.declared.RetakeReply.{RetakeReply}
use Rattle.kernel_state.specs.Changing.{Can, CanMutex, CanCondition, CanThread, HasNoMutex, change_by, thread_change_by, signal_change_by, clock_change_by, mutex_change_by, condition_change_by, remains_of}
use Rattle.kernel_state.specs.Small.{Object, TheMutex, TheCondition, TheSignal, TheClock, TheEnding, bare, IsSame, ThreadList, ReadyList, MutexWaiters, CondWaiters, threads_of_list, IsUnmoved, IsSmall}
use Rattle.kernel_state.specs.declared.change.Change.{Change}
use Rattle.kernel_state.specs.declared.change.Change.TheVariants.{Thread as OfThread, Mutex as OfMutex, Condition as OfCondition, Signal as OfSignal, Clock as OfClock, Retake, Output, Over, Kill}
use Rattle.kernel_state.specs.declared.change.ClockChange.{ClockChange}
use Rattle.kernel_state.specs.declared.change.ClockChange.TheVariants.{Advance, Set, Ring}
use Rattle.kernel_state.specs.declared.change.ConditionChange.{ConditionChange}
use Rattle.kernel_state.specs.declared.change.ConditionChange.TheVariants.{Make as MakeCondition, Destroy as DestroyCondition, Enter, Leave}
use Rattle.kernel_state.specs.declared.change.MutexChange.{MutexChange}
use Rattle.kernel_state.specs.declared.change.MutexChange.TheVariants.{Make as MakeMutex, Destroy as DestroyMutex, Hold, AddWaiter, DropWaiter}
use Rattle.kernel_state.specs.declared.change.SignalChange.{SignalChange}
use Rattle.kernel_state.specs.declared.change.SignalChange.TheVariants.{Pend, Take, Accept, Drop as DropAll, Lose, Act}
use Rattle.kernel_state.specs.declared.change.ThreadChange.{ThreadChange}
use Rattle.kernel_state.specs.declared.change.ThreadChange.TheVariants.{Reply, ToEnd, Create, StartExit, Await, Answer, Resume, Block, Handle, GoBack, Schedule, Charge, Detach, Free, End}
use Rattle.kernel_state.proofs.ViewLemmas.{gone_calmly}

-- one thread is put in, taken out or moved
without_pushed : (t : ℕ) (ts : List ℕ) → without t (ts ++ t ∷ []) ≡ without t ts
without_pushed t [] = rw (eq-eqb t t refl) refl
without_pushed t (u ∷ us) = by (eqb u t) (without_pushed t us)
  where
    by : (b : Bool) → without t (us ++ t ∷ []) ≡ without t us
        → cond (not b) (u ∷ without t (us ++ t ∷ [])) (without t (us ++ t ∷ [])) ≡ cond (not b) (u ∷ without t us) (without t us)
    by true rest = rest
    by false rest = ap (λ vs. u ∷ vs) rest

without_twice : (t : ℕ) (ts : List ℕ) → without t (without t ts) ≡ without t ts
without_twice t ts = without_absent t (without t ts) (not_in-without t ts)

moved : (t : ℕ) (ts : List ℕ) → without t (without t ts ++ t ∷ []) ≡ without t ts
moved t ts = without_pushed t (without t ts) ∙ without_twice t ts

moved_where : (b : Bool) (t : ℕ) (ts : List ℕ) → without t (if b then without t ts ++ t ∷ [] else ts) ≡ without t ts
moved_where true t ts = moved t ts
moved_where false t ts = refl

-- what a mutex and a condition are without their waiters
bare_held : (h : _) (o : Option Mutex) → waiters_in (with_holder h o) ≡ waiters_in o
bare_held h None = refl
bare_held h (Some mutex) = refl

bare_mutex : (change : List ℕ → List ℕ) (o : Option Mutex) → with_waiters (λ ts. []) (with_waiters change o) ≡ with_waiters (λ ts. []) o
bare_mutex change None = refl
bare_mutex change (Some mutex) = refl

waiters_changed : (t : ℕ) (change : List ℕ → List ℕ) (o : Option Mutex) → ((ts : List ℕ) → without t (change ts) ≡ without t ts)
    → without t (waiters_in (with_waiters change o)) ≡ without t (waiters_in o)
waiters_changed t change None same = refl
waiters_changed t change (Some mutex) same = same mutex.waiters

cond_entered : (t m : ℕ) (o : Option Condition) → without t (cond_waiters (entered t m o)) ≡ without t (cond_waiters o)
cond_entered t m None = refl
cond_entered t m (Some condition) = without_pushed t condition.waiters

cond_left : (t : ℕ) (o : Option Condition) → without t (cond_waiters (without_waiter t o)) ≡ without t (cond_waiters o)
cond_left t None = refl
cond_left t (Some condition) = without_twice t condition.waiters

no_waiters : (o : Option Mutex) → IsNone o → waiters_in o ≡ []
no_waiters None h = refl
no_waiters (Some mutex) h = absurd (let e : true ≡ false = h in cc)

no_cond_waiters : (o : Option Condition) → IsNone o → cond_waiters o ≡ []
no_cond_waiters None h = refl
no_cond_waiters (Some condition) h = absurd (let e : true ≡ false = h in cc)

-- what no small change reaches is as it was, and so is the clock
abbrev IsStill : State → State → Type 0
IsStill s r = IsUnmoved s r × IsSame TheClock s r

still : (s : State) → IsStill s s
still s = ((refl, refl, refl, refl), (refl, refl))

-- beside the record of a thread, its place in the ready list and the ending nothing changes
small_thread : (s r : State) (t : ℕ) → ((u : ℕ) → u ≢ t → r.threads u ≡ s.threads u) → without t r.ready ≡ without t s.ready → r.mutexes ≡ s.mutexes → r.conditions ≡ s.conditions
    → r.pending ≡ s.pending → r.actions ≡ s.actions → IsStill s r → IsSmall s r
small_thread s r t threads ready mutexes conditions pending actions others = record {
  thread = t;
  object = TheEnding;
  list = ReadyList;
  placed = t;
  threads = threads;
  objects = objects;
  lists = lists;
  place = ready;
  others = others.0;
}
  where
    objects : (o : Object) → o ≢ TheEnding → IsSame o s r
    objects (TheMutex m) ne = ap (λ (f : ℕ → Option Mutex). with_waiters (λ ts. []) (f m)) mutexes
    objects (TheCondition c) ne = ap (λ (f : ℕ → Option Condition). bare (f c)) conditions
    objects (TheSignal sig) ne = (ap (λ (f : ℕ → Action). f sig) actions, λ u. ap (λ (f : ℕ → ℕ → ℕ). f u sig) pending)
    objects TheClock ne = others.1
    objects TheEnding ne = absurd (ne refl)

    lists : (l : ThreadList) → l ≢ ReadyList → threads_of_list l r ≡ threads_of_list l s
    lists ReadyList ne = absurd (ne refl)
    lists (MutexWaiters m) ne = ap (λ (f : ℕ → Option Mutex). waiters_in (f m)) mutexes
    lists (CondWaiters c) ne = ap (λ (f : ℕ → Option Condition). cond_waiters (f c)) conditions

-- beside a mutex, a place among its waiters and the record of a thread nothing changes
small_mutex : (s : State) (m t : ℕ) (threads : ℕ → Thread) (o : Option Mutex) → ((u : ℕ) → u ≢ t → threads u ≡ s.threads u) → without t (waiters_in o) ≡ without t (waiters_in (s.mutexes m))
    → IsSmall s (record s { threads = threads; mutexes = put s.mutexes m o })
small_mutex s m t threads o others place = record {
  thread = t;
  object = TheMutex m;
  list = MutexWaiters m;
  placed = t;
  threads = others;
  objects = objects;
  lists = lists;
  place = ap (λ x. without t (waiters_in x)) (put_same s.mutexes m o) ∙ place;
  others = (still s).0;
}
  where
    r : State
    r = record s { threads = threads; mutexes = put s.mutexes m o }

    objects : (b : Object) → b ≢ TheMutex m → IsSame b s r
    objects (TheMutex k) ne = ap (with_waiters (λ ts. [])) (put_other s.mutexes m o k (λ e. ne (ap TheMutex e)))
    objects (TheCondition c) ne = refl
    objects (TheSignal sig) ne = (refl, λ u. refl)
    objects TheClock ne = (refl, refl)
    objects TheEnding ne = refl

    lists : (l : ThreadList) → l ≢ MutexWaiters m → threads_of_list l r ≡ threads_of_list l s
    lists ReadyList ne = refl
    lists (MutexWaiters k) ne = ap waiters_in (put_other s.mutexes m o k (λ e. ne (ap MutexWaiters e)))
    lists (CondWaiters c) ne = refl

-- beside a condition and a place among its waiters nothing changes
small_condition : (s : State) (c t : ℕ) (o : Option Condition) → without t (cond_waiters o) ≡ without t (cond_waiters (s.conditions c))
    → IsSmall s (record s { conditions = put s.conditions c o })
small_condition s c t o place = record {
  thread = t;
  object = TheCondition c;
  list = CondWaiters c;
  placed = t;
  threads = λ u ne. refl;
  objects = objects;
  lists = lists;
  place = ap (λ x. without t (cond_waiters x)) (put_same s.conditions c o) ∙ place;
  others = (still s).0;
}
  where
    r : State
    r = record s { conditions = put s.conditions c o }

    objects : (b : Object) → b ≢ TheCondition c → IsSame b s r
    objects (TheMutex m) ne = refl
    objects (TheCondition k) ne = ap bare (put_other s.conditions c o k (λ e. ne (ap TheCondition e)))
    objects (TheSignal sig) ne = (refl, λ u. refl)
    objects TheClock ne = (refl, refl)
    objects TheEnding ne = refl

    lists : (l : ThreadList) → l ≢ CondWaiters c → threads_of_list l r ≡ threads_of_list l s
    lists ReadyList ne = refl
    lists (MutexWaiters m) ne = refl
    lists (CondWaiters k) ne = ap cond_waiters (put_other s.conditions c o k (λ e. ne (ap CondWaiters e)))

-- beside what pends of a signal and its action nothing changes
small_signal : (s : State) (sig : ℕ) (pending : ℕ → ℕ → ℕ) (actions : ℕ → Action) → ((t k : ℕ) → k ≢ sig → pending t k ≡ s.pending t k) → ((k : ℕ) → k ≢ sig → actions k ≡ s.actions k)
    → IsSmall s (record s { pending = pending; actions = actions })
small_signal s sig pending actions others_pend others_act = record {
  thread = 0;
  object = TheSignal sig;
  list = ReadyList;
  placed = 0;
  threads = λ u ne. refl;
  objects = objects;
  lists = lists;
  place = refl;
  others = (still s).0;
}
  where
    r : State
    r = record s { pending = pending; actions = actions }

    objects : (b : Object) → b ≢ TheSignal sig → IsSame b s r
    objects (TheMutex m) ne = refl
    objects (TheCondition c) ne = refl
    objects (TheSignal k) ne = (others_act k (λ e. ne (ap TheSignal e)), λ u. others_pend u k (λ e. ne (ap TheSignal e)))
    objects TheClock ne = (refl, refl)
    objects TheEnding ne = refl

    lists : (l : ThreadList) → l ≢ ReadyList → threads_of_list l r ≡ threads_of_list l s
    lists ReadyList ne = refl
    lists (MutexWaiters m) ne = refl
    lists (CondWaiters c) ne = refl

-- another count in one place
small_count : (s : State) (t sig n : ℕ) → IsSmall s (set_pending s t sig n)
small_count s t sig n =
    small_signal s sig (put s.pending t (put (s.pending t) sig n)) s.actions
    (λ u k ne. kept (λ (row : ℕ → ℕ). row k) s.pending t u (put (s.pending t) sig n) (put_other (s.pending t) sig n k ne)) (λ k ne. refl)

-- nothing at all
small_none : (s : State) → IsSmall s s
small_none s = small_thread s s 0 (λ u ne. refl) refl refl refl refl refl (still s)

small_of_signal : (change : SignalChange) (sig : ℕ) (g : Outcome) → IsSmall g.state (signal_change_by change sig g).state
small_of_signal (Pend place count) sig g = small_count g.state (place_of place) sig _
small_of_signal (Take place) sig g = small_count g.state (place_of place) sig 0
small_of_signal (Accept place) sig g = small_count g.state (place_of place) sig 0
small_of_signal (DropAll place) sig g = small_count g.state (place_of place) sig 0
small_of_signal (Lose count) sig g = small_none g.state
small_of_signal (Act action) sig g =
    elim (ignores action sig) as (λ b. IsSmall g.state (if b
    then dropped (record g { state = record g.state { actions = put g.state.actions sig action; pending = forgotten sig g.state.pending } }) sig (left_of g.state sig)
    else record g { state = record g.state { actions = put g.state.actions sig action } }).state) [
      | true ↦
          small_signal g.state sig (forgotten sig g.state.pending) (put g.state.actions sig action)
          (λ t k ne. put_other (g.state.pending t) sig 0 k ne) (λ k ne. put_other g.state.actions sig action k ne)
      | false ↦ small_signal g.state sig g.state.pending (put g.state.actions sig action) (λ t k ne. refl) (λ k ne. put_other g.state.actions sig action k ne)
    ]

-- a waiting thread gets a mutex and becomes ready
small_given : (s : State) (m t : ℕ) (mutex : Mutex) (h : _) (thread : Thread) → s.mutexes m ≡ Some mutex
    → IsSmall s (record s { threads = put s.threads t thread; ready = s.ready ++ t ∷ []; mutexes = put s.mutexes m (Some (record mutex { holder = h })) })
small_given s m t mutex h thread here = record {
  thread = t;
  object = TheMutex m;
  list = ReadyList;
  placed = t;
  threads = λ u ne. put_other s.threads t thread u ne;
  objects = objects;
  lists = lists;
  place = without_pushed t s.ready;
  others = (still s).0;
}
  where
    given : Option Mutex
    given = Some (record mutex { holder = h })

    r : State
    r = record s { threads = put s.threads t thread; ready = s.ready ++ t ∷ []; mutexes = put s.mutexes m given }

    objects : (b : Object) → b ≢ TheMutex m → IsSame b s r
    objects (TheMutex k) ne = ap (with_waiters (λ ts. [])) (put_other s.mutexes m given k (λ e. ne (ap TheMutex e)))
    objects (TheCondition c) ne = refl
    objects (TheSignal sig) ne = (refl, λ u. refl)
    objects TheClock ne = (refl, refl)
    objects TheEnding ne = refl

    lists : (l : ThreadList) → l ≢ ReadyList → threads_of_list l r ≡ threads_of_list l s
    lists ReadyList ne = absurd (ne refl)
    lists (MutexWaiters k) ne = kept waiters_in s.mutexes m k given (sym (ap waiters_in here))
    lists (CondWaiters c) ne = refl

-- a mutex is taken back at once, or waited for
small_retake : (g : Outcome) (m t count : ℕ) (reply : RetakeReply) (o : Option Mutex) → g.state.mutexes m ≡ o → IsSmall g.state (retake_of g m o t count reply).state
small_retake g m t count reply None here = small_thread g.state g.state t (λ u ne. refl) refl refl refl refl refl (still g.state)
small_retake g m t count reply (Some mutex) here =
    elim (is_free mutex.holder) as (λ b. IsSmall g.state (if b then give g m mutex t count reply else requeue g m mutex t count reply).state) [
      | true ↦ small_given g.state m t mutex _ _ here
      | false ↦ small_mutex g.state m t _ _ (λ u ne. put_other g.state.threads t _ u ne) (without_pushed t mutex.waiters ∙ ap (λ x. without t (waiters_in x)) (sym here))
    ]

-- a thread is gone that had no mutex and on which nothing pended
small_end : (g : Outcome) (t : ℕ) (left : Thread) → ((sig : ℕ) → g.state.pending t sig ≡ 0) → HasNoMutex g.state t → g.state.keys ≡ no_keys → IsSmall g.state (over_with_last (without_thread g.state t left))
small_end g t left calm none keyless =
    let s = g.state in
    let gone = gone_calmly s t left calm none keyless in
    subst (λ x. IsSmall s (over_with_last x)) gone
    (elim (some_live (record s { threads = put s.threads t left; ready = without t s.ready }))
    as (λ b. IsSmall s (if b then record s { threads = put s.threads t left; ready = without t s.ready } else record s { threads = put s.threads t left; ready = without t s.ready; over = Some (Exit 0) })) [
      | true ↦ small_thread s _ t (λ u ne. put_other s.threads t left u ne) (without_twice t s.ready) refl refl refl refl (still s)
      | false ↦ small_thread s _ t (λ u ne. put_other s.threads t left u ne) (without_twice t s.ready) refl refl refl refl (still s)
    ])

small_of_thread : (change : ThreadChange) (t : ℕ) (g : Outcome) → CanThread change t g.state → IsSmall g.state (thread_change_by change t g).state
small_of_thread (Reply error value) t g can = small_thread g.state _ t (λ u ne. put_other g.state.threads t _ u ne) refl refl refl refl refl (still g.state)
small_of_thread ToEnd t g can = small_thread g.state _ t (λ u ne. put_other g.state.threads t _ u ne) (moved t g.state.ready) refl refl refl refl (still g.state)
small_of_thread (Create beginning) t g can = small_thread g.state _ t (λ u ne. put_other g.state.threads t _ u ne) (without_pushed t g.state.ready) refl refl refl refl (still g.state)
small_of_thread (StartExit value) t g can = small_thread g.state _ t (λ u ne. put_other g.state.threads t _ u ne) refl refl refl refl refl (still g.state)
small_of_thread (Await wait) t g can = small_thread g.state _ t (λ u ne. put_other g.state.threads t _ u ne) (without_twice t g.state.ready) refl refl refl refl (still g.state)
small_of_thread (Answer error value) t g can = small_thread g.state _ t (λ u ne. put_other g.state.threads t _ u ne) (without_pushed t g.state.ready) refl refl refl refl (still g.state)
small_of_thread Resume t g can = small_thread g.state _ t (λ u ne. put_other g.state.threads t _ u ne) (without_pushed t g.state.ready) refl refl refl refl (still g.state)
small_of_thread (Block mask) t g can = small_thread g.state _ t (λ u ne. put_other g.state.threads t _ u ne) refl refl refl refl refl (still g.state)
small_of_thread (Handle signal at mask) t g can = small_thread g.state _ t (λ u ne. put_other g.state.threads t _ u ne) refl refl refl refl refl (still g.state)
small_of_thread GoBack t g can = small_thread g.state _ t (λ u ne. put_other g.state.threads t _ u ne) refl refl refl refl refl (still g.state)
small_of_thread (Schedule policy base) t g can = small_thread g.state _ t (λ u ne. put_other g.state.threads t _ u ne) (moved_where (is_ready (g.state.threads t).standing) t g.state.ready) refl refl refl refl (still g.state)
small_of_thread Charge t g can = small_thread g.state _ t (λ u ne. put_other g.state.threads t _ u ne) refl refl refl refl refl (still g.state)
small_of_thread Detach t g can = small_thread g.state _ t (λ u ne. put_other g.state.threads t _ u ne) refl refl refl refl refl (still g.state)
small_of_thread Free t g can = small_thread g.state _ t (λ u ne. put_other g.state.threads t _ u ne) refl refl refl refl refl (still g.state)
small_of_thread (End value joined) t g can = small_end g t (remains_of (g.state.threads t) value joined) can.1 can.2 can.3

-- a mutex changes, and a place among its waiters
mutex_only : (s : State) (m t : ℕ) (o : Option Mutex) → without t (waiters_in o) ≡ without t (waiters_in (s.mutexes m)) → IsSmall s (record s { mutexes = put s.mutexes m o })
mutex_only s m t o place = small_mutex s m t s.threads o (λ u ne. refl) place

small_of_mutex : (change : MutexChange) (m : ℕ) (s : State) → CanMutex change m s.mutexes → IsSmall s (record s { mutexes = put s.mutexes m (mutex_change_by change (s.mutexes m)) })
small_of_mutex (MakeMutex kind protocol) m s can = mutex_only s m 0 _ (ap (without 0) (sym (no_waiters (s.mutexes m) can.1)))
small_of_mutex DestroyMutex m s can = mutex_only s m 0 _ (ap (without 0) (sym can.1))
small_of_mutex (Hold holder) m s can = mutex_only s m 0 _ (ap (without 0) (bare_held holder (s.mutexes m)))
small_of_mutex (AddWaiter t) m s can = mutex_only s m t _ (waiters_changed t _ (s.mutexes m) (without_pushed t))
small_of_mutex (DropWaiter t) m s can = mutex_only s m t _ (waiters_changed t _ (s.mutexes m) (without_twice t))

small_of_condition : (change : ConditionChange) (c : ℕ) (s : State) → CanCondition change c s.conditions → IsSmall s (record s { conditions = put s.conditions c (condition_change_by change (s.conditions c)) })
small_of_condition MakeCondition c s can = small_condition s c 0 _ (ap (without 0) (sym (no_cond_waiters (s.conditions c) can.1)))
small_of_condition DestroyCondition c s can = small_condition s c 0 _ (ap (without 0) (sym can.1))
small_of_condition (Enter t m) c s can = small_condition s c t _ (cond_entered t m (s.conditions c))
small_of_condition (Leave t) c s can = small_condition s c t _ (cond_left t (s.conditions c))

-- beside the clock with its alarm nothing changes
small_clock : (s : State) (now : ℕ) (alarm : Option ℕ) → IsSmall s (record s { now = now; alarm = alarm })
small_clock s now alarm = record {
  thread = 0;
  object = TheClock;
  list = ReadyList;
  placed = 0;
  threads = λ u ne. refl;
  objects = objects;
  lists = lists;
  place = refl;
  others = (refl, refl, refl, refl);
}
  where
    r : State
    r = record s { now = now; alarm = alarm }

    objects : (o : Object) → o ≢ TheClock → IsSame o s r
    objects (TheMutex m) ne = refl
    objects (TheCondition c) ne = refl
    objects (TheSignal sig) ne = (refl, λ u. refl)
    objects TheClock ne = absurd (ne refl)
    objects TheEnding ne = refl

    lists : (l : ThreadList) → l ≢ ReadyList → threads_of_list l r ≡ threads_of_list l s
    lists ReadyList ne = refl
    lists (MutexWaiters m) ne = refl
    lists (CondWaiters c) ne = refl

small_of_clock : (change : ClockChange) (g : Outcome) → IsSmall g.state (clock_change_by change g).state
small_of_clock Advance g = small_clock g.state (g.state.now + 1) g.state.alarm
small_of_clock (Set alarm) g = small_clock g.state g.state.now alarm
small_of_clock Ring g = small_clock g.state g.state.now None

pub small_change : (change : Change) (g : Outcome) → Can change g → IsSmall g.state (change_by change g).state
small_change (OfThread t change) g can = small_of_thread change t g can
small_change (OfMutex m change) g can = small_of_mutex change m g.state can
small_change (OfCondition c change) g can = small_of_condition change c g.state can
small_change (OfSignal sig change) g can = small_of_signal change sig g
small_change (OfClock change) g can = small_of_clock change g
small_change (Retake t m count reply) g can = small_retake g m t count reply (g.state.mutexes m) refl
small_change (Output descriptor buffer size) g can = small_thread g.state g.state 0 (λ u ne. refl) refl refl refl refl refl (still g.state)
small_change (Over ending) g can = small_thread g.state _ 0 (λ u ne. refl) refl refl refl refl refl (still g.state)
small_change (Kill signal count) g can = small_thread g.state _ 0 (λ u ne. refl) refl refl refl refl refl (still g.state)
