-- The small changes by which a thread waits for a condition.
use Rattle.std.proofs.Common.{◌≡◌, ◌≢◌, ◌∙◌, ap, sym, refl, ℕ, Bool, true, false, List, Option, Some, None, is_some}
use Rattle.std.specs.Prelude.{not, ◌==◌, if◌then◌else◌}
use Rattle.std.proofs.lemmas.Bool.{eqb-true}
use Rattle.thread_base.specs.Holders.{is_held_by, count_of}
use Rattle.thread_base.specs.declared.mutex.Holder.TheVariants.{Held}
use Rattle.thread_base.specs.declared.Errno.TheVariants.{EPERM, EINVAL}
use Rattle.posix_model.specs.State.{State, Thread, Mutex, Condition, is_ready, count_due}
use Rattle.posix_model.specs.Scheduling.{eff}
use Rattle.posix_model.specs.Mutexes.{set_mutex, best_waiter, hand_off}
use Rattle.posix_model.specs.Arrivals.{has_come, timed_out}
use Rattle.posix_model.specs.Good.{IsGood}
use Rattle.posix_model.specs.Changes.{Outcome, begun, await}
use Rattle.std.specs.Option.{ForSome}
use Rattle.thread_base.specs.Objects.{cond_mutex, entered as entered_in, appended, with_waiters}
use Rattle.posix_model.specs.Conditions.{set_condition, is_other}
use Rattle.posix_model.specs.ConditionCalls.{await_condition, wait_and_release, await_back, time_out, cond_wait_of}
use Rattle.posix_model.specs.Replies.{refused}
use Rattle.posix_model.specs.declared.RetakeReply.TheVariants.{Answer}
use Rattle.posix_model.specs.declared.Wait.TheVariants.{Cond, Reacquire}
use Rattle.posix_model.proofs.StandingLemmas.{never, ready_waits_on}
use Rattle.posix_model.proofs.ListLemmas.{each_put}
use Rattle.posix_model.proofs.GoodHands.{good_hand_off}
use Rattle.thread_base.specs.Objects.{waiters_in}
use Rattle.thread_base.specs.Orders.{is_in, without}
use Rattle.thread_base.proofs.MapLemmas.{put_same, put_other}
use Rattle.thread_base.proofs.OrderLemmas.{is_in-without}
use Rattle.kernel_state.specs.View.{view}
use Rattle.kernel_state.specs.Waking.{LeavesMutex}
use Rattle.calls_sync.proofs.MutexLemmas.{leaves_at_first, waits_for_none as no_mutex, handed_there}
use Rattle.kernel_state.specs.Changing.{change_by, IsListed, WaitsForNoMutex, WaitsForNoCondition}
use Rattle.kernel_state.specs.Begun.{CanNote, HasNoted, NotesMore}
use Rattle.kernel_state.specs.declared.change.Change.TheVariants.{Thread as OfThread, Mutex as OfMutex, Condition as OfCondition}
use Rattle.kernel_state.specs.declared.change.ConditionChange.TheVariants.{Enter}
use Rattle.kernel_state.specs.declared.change.MutexChange.TheVariants.{AddWaiter}
use Rattle.kernel_state.specs.declared.change.ThreadChange.TheVariants.{Await}
use Rattle.kernel_state.specs.Kernels.{KernelState}
use Rattle.kernel_state.proofs.NoteLemmas.{noted_none, noted_two, tables_stay}

-- who is ready waits for no condition
waits_for_none : (s : State) (t : ℕ) → IsGood s → IsListed s t → WaitsForNoCondition s.conditions t
waits_for_none s t good listed c = (good.conditions c).listed t ∙ ready_waits_on c (s.threads t).standing listed.2

bound_so : (o : Option ℕ) (m : ℕ) → is_other m o ≡ false → ForSome o (λ k. k ≡ m)
bound_so None m same k e = absurd (let f : None ≡ Some k = e in cc)
bound_so (Some n) m same k e = (let f : Some n ≡ Some k = e in let g : n ≡ k = cc in sym g) ∙ by (n == m) refl same
  where
    by : (b : Bool) → (n == m) ≡ b → not b ≡ false → n ≡ m
    by true is h = eqb-true n m is
    by false is h = absurd (let e : true ≡ false = h in cc)

module _ {R : Type 0} (order : R → List ℕ) (k : KernelState R) (t c m count : ℕ) (deadline : Option ℕ) (ready : CanNote order k t) (there : is_some ((view order k.tables).conditions c) ≡ true)
    (same : is_other m (cond_mutex ((view order k.tables).conditions c)) ≡ false)
    (q : KernelState R) (more : NotesMore order k q (OfCondition c (Enter t m))) (r : KernelState R) (more2 : NotesMore order q r (OfThread t (Await (Cond c m deadline count)))) where
  pub entered : HasNoted order k r (change_by (OfThread t (Await (Cond c m deadline count))) (change_by (OfCondition c (Enter t m)) (begun (view order k.tables))))
  entered =
      (noted_two order k k (begun (view order k.tables)) (noted_none order k ready.idle ready.untold)
      q (OfCondition c (Enter t m)) more (there, waits_for_none (view order k.tables) t ready.good ready.listed, bound_so (cond_mutex ((view order k.tables).conditions c)) m same)
      r (OfThread t (Await (Cond c m deadline count))) more2 ready.listed).so_far

  pub tables_entered : r.tables ≡ k.tables
  tables_entered = tables_stay order k r _ entered

pub waits_so : (s : State) (t c m count : ℕ) (deadline : Option ℕ) (condition : Condition) (mutex : Mutex) → s.conditions c ≡ Some condition → count ≡ count_of mutex.holder
    → change_by (OfThread t (Await (Cond c m deadline count))) (change_by (OfCondition c (Enter t m)) (begun s)) ≡ begun (await_condition s t c condition m mutex deadline)
waits_so s t c m count deadline condition mutex here often =
    λ i. begun (await (set_condition s c (entered_in t m (here i))) t (Cond c m deadline (often i)))

-- the caller waits for a condition from now on
pub leaves_at_wait : (s : State) (t c m : ℕ) (condition : Condition) (mutex : Mutex) (deadline : Option ℕ) → IsGood s → IsListed s t
    → LeavesMutex s (await_condition s t c condition m mutex deadline) m
leaves_at_wait s t c m condition mutex deadline good listed =
    let apart : (u : ℕ) → is_in u (waiters_in (s.mutexes m)) ≡ true → u ≢ t =
    λ u h e. never (is_in u (waiters_in (s.mutexes m))) h (ap (λ v. is_in v (waiters_in (s.mutexes m))) e ∙ no_mutex s t good listed m) in
    record {
      mutex = refl;
      threads = λ u h. put_other s.threads t _ u (apart u h);
      away = λ u h. is_in-without t u s.ready (apart u h) ∙ (leaves_at_first s m good).away u h;
    }

-- the row of a wait where nothing is refused: its deadline has passed, or not
module _ (s : State) (t c m : ℕ) (condition : Condition) (mutex : Mutex) (deadline : Option ℕ) (held : is_held_by mutex.holder t ≡ true) (same : is_other m condition.mutex ≡ false) where
  pub wait_over : has_come s.now deadline ≡ true → time_out s t m mutex (best_waiter s mutex) ≡ cond_wait_of s t c (Some condition) m (Some mutex) deadline
  wait_over passed =
      sym (λ i. if not (held i) then refused s t EPERM else if same i then refused s t EINVAL
      else if passed i then time_out s t m mutex (best_waiter s mutex) else wait_and_release s t c condition m mutex deadline)

  pub wait_held : has_come s.now deadline ≡ false → wait_and_release s t c condition m mutex deadline ≡ cond_wait_of s t c (Some condition) m (Some mutex) deadline
  wait_held coming =
      sym (λ i. if not (held i) then refused s t EPERM else if same i then refused s t EINVAL
      else if coming i then time_out s t m mutex (best_waiter s mutex) else wait_and_release s t c condition m mutex deadline)

-- the caller waits to have a mutex back that is there
pub waits_back : (g : Outcome) (t m count : ℕ) (mutex : Mutex) → g.state.mutexes m ≡ Some mutex
    → change_by (OfThread t (Await (Reacquire m (Answer timed_out) count))) (change_by (OfMutex m (AddWaiter t)) g) ≡ await_back g t m (g.state.mutexes m) count
waits_back g t m count mutex there =
    ap (λ o. change_by (OfThread t (Await (Reacquire m (Answer timed_out) count))) (record g { state = set_mutex g.state m (with_waiters (appended t) o) })) there
    ∙ sym (ap (λ o. await_back g t m o count) there)

-- a mutex that a waiter has, as often as is due to it
abbrev pub given_to : State → ℕ → Mutex → Mutex
given_to s u mutex = record mutex { holder = Held u (count_due (s.threads u).standing); waiters = without u mutex.waiters }

-- a mutex was handed to its best waiter: it is there, and the caller is ready still and waits for no mutex
module _ (s : State) (t m u : ℕ) (mutex : Mutex) (good : IsGood s) (listed : IsListed s t) (there : s.mutexes m ≡ Some mutex) (best : best_waiter s mutex ≡ Some u) where
  abbrev passed : Outcome
  passed = hand_off (begun s) m mutex (Some u)

  passed_good : IsGood passed.state
  passed_good = good_hand_off s m mutex good there (eff s) (Some u) best

  pub passed_mutex : passed.state.mutexes m ≡ Some (given_to s u mutex)
  passed_mutex = put_same s.mutexes m (Some (given_to s u mutex))

  pub passed_listed : IsListed passed.state t
  passed_listed =
      let ready : is_ready (passed.state.threads t).standing ≡ true =
      each_put (λ v (x : Thread). is_ready (s.threads v).standing ≡ true → is_ready x.standing ≡ true) s.threads u _ (λ h. refl) (λ v ne h. h) t listed.2 in
      (handed_there (begun s) m mutex (Some u) t listed.0, passed_good.ready.listed t ∙ ready, ready)

  pub passed_none : WaitsForNoMutex passed.state.mutexes t
  passed_none = no_mutex passed.state t passed_good passed_listed
