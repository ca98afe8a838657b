-- Goodness by its facets, and each change of which moves are made and that leaves mutexes and conditions as they are.
use Rattle.std.proofs.Common.{◌≡◌, ◌∙◌, ap, sym, refl, subst, ℕ, Bool, true, false, List, [], ◌∷◌, ◌++◌, Option, Some, None}
use Rattle.std.specs.Prelude.{if◌then◌else◌}
use Rattle.std.proofs.lemmas.Bool.{eqb-true}
use Rattle.thread_base.specs.Actions.{ignores}
use Rattle.thread_base.specs.Maps.{put}
use Rattle.thread_base.specs.Numbers.{IsTid}
use Rattle.thread_base.specs.Objects.{appended}
use Rattle.thread_base.specs.Orders.{without}
use Rattle.thread_base.specs.Priority.{tids}
use Rattle.thread_base.specs.declared.Policy.{Policy}
use Rattle.thread_base.specs.declared.action.Action.{Action}
use Rattle.thread_base.proofs.MapLemmas.{map_put, put_got, kept}
use Rattle.thread_base.proofs.OrderLemmas.{IsOrder-push, IsOrder-filter, not_in-without, is_in-to_end, within as in_order_within}
use Rattle.thread_base.proofs.PriorityLemmas.{first_in}
use Rattle.thread_base.proofs.SearchLemmas.{in_tids, find_none, any_none}
use Rattle.posix_model.specs.State.{State, Thread, Mutex, Condition, Standing, Absent, Ready, Waits, EndOf, MutexAt, ConditionAt, aim, target, is_target, no_thread, is_absent, is_ready, is_live, joins, wants, waits_on}
use Rattle.posix_model.specs.Scheduling.{eff, chosen}
use Rattle.posix_model.specs.Changes.{Outcome, set_thread, append, to_end, with_schedule, rescheduled, await, reply, with_reply, answer}
use Rattle.posix_model.specs.Threads.{joiner, has_joiner}
use Rattle.posix_model.specs.Leaving.{without_thread}
use Rattle.posix_model.specs.Deliveries.{set_pending}
use Rattle.posix_model.specs.Good.{standings, detachments, IsReadyList, AreWithin, MayJoin, AreJoining, AreSoundMutexes, AreSoundConditions, IsSoundWait, AreSoundWaits, AreSoundSignals, IsGood}
use Rattle.posix_model.specs.declared.Wait.{Wait}
use Rattle.posix_model.specs.declared.Wait.TheVariants.{Join}
use Rattle.posix_model.proofs.StandingLemmas.{never, ready_live, ready_target, ready_wants, ready_waits_on, target_is, waiting, once, steady, ready_wait, absent_wait, dead}
use Rattle.posix_model.proofs.ListLemmas.{each_put, listed_on, listed_appended, listed_without}
use Rattle.posix_model.proofs.MutexLemmas.{mutexes_stay, mutexes_orphaned}
use Rattle.posix_model.proofs.ConditionLemmas.{conditions_on, conditions_apart, stay_orphaned}

-- goodness over what the facets read
pub record AreGood (standing : ℕ → Standing) (detached : ℕ → Bool) (list : List ℕ) (mutex : ℕ → Option Mutex) (condition : ℕ → Option Condition)
    (now : ℕ) (alarm : Option ℕ) (action : ℕ → Action) (counts : ℕ → ℕ → ℕ) : Type 0 where
  pub ready : IsReadyList standing list
  pub within : AreWithin standing
  pub joining : AreJoining standing detached
  pub mutexes : AreSoundMutexes standing mutex
  pub conditions : AreSoundConditions standing mutex condition
  pub waits : AreSoundWaits now standing
  pub signals : AreSoundSignals now alarm action counts

-- a state is good by what its threads are doing and which are detached
good_by : (r : State) (standing : ℕ → Standing) (detached : ℕ → Bool) → standings r ≡ standing → detachments r ≡ detached
    → AreGood standing detached r.ready r.mutexes r.conditions r.now r.alarm r.actions r.pending → IsGood r
good_by r standing detached a b good = record {
  ready = subst (λ f. IsReadyList f r.ready) (sym a) good.ready;
  within = subst AreWithin (sym a) good.within;
  joining = subst (λ f. AreJoining f (detachments r)) (sym a) (subst (AreJoining standing) (sym b) good.joining);
  mutexes = subst (λ f. AreSoundMutexes f r.mutexes) (sym a) good.mutexes;
  conditions = subst (λ f. AreSoundConditions f r.mutexes r.conditions) (sym a) good.conditions;
  waits = subst (AreSoundWaits r.now) (sym a) good.waits;
  signals = good.signals;
}

-- where each thread does what it did, the other facets are given
pub good_alike : (s r : State) → standings r ≡ standings s → IsGood s → IsReadyList (standings s) r.ready → AreJoining (standings s) (detachments r)
    → AreSoundMutexes (standings s) r.mutexes → AreSoundConditions (standings s) r.mutexes r.conditions
    → AreSoundWaits r.now (standings s) → AreSoundSignals r.now r.alarm r.actions r.pending → IsGood r
good_alike s r same good ready joining sound agreed waits signals =
    good_by r (standings s) (detachments r) same refl
    (record {
      ready = ready;
      within = good.within;
      joining = joining;
      mutexes = sound;
      conditions = agreed;
      waits = waits;
      signals = signals;
    })

-- one thread changes, and the rest of the state
pub good_change : (s : State) (t : ℕ) (thread : Thread) (r : State) → r.threads ≡ put s.threads t thread
    → AreGood (put (standings s) t thread.standing) (put (detachments s) t thread.detached) r.ready r.mutexes r.conditions r.now r.alarm r.actions r.pending → IsGood r
good_change s t thread r e good =
    let standing = λ (x : Thread). x.standing in
    let detached = λ (x : Thread). x.detached in
    good_by r (put (standings s) t thread.standing) (put (detachments s) t thread.detached)
    (ap {B = ℕ → Standing} (λ (f : ℕ → Thread) u. standing (f u)) e ∙ map_put standing s.threads t thread)
    (ap {B = ℕ → Bool} (λ (f : ℕ → Thread) u. detached (f u)) e ∙ map_put detached s.threads t thread)
    good

-- a thread changes, but not what it is doing nor whether it is detached
pub good_set : (s : State) (t : ℕ) (thread : Thread) → thread.standing ≡ standings s t → thread.detached ≡ detachments s t → IsGood s → IsGood (set_thread s t thread)
good_set s t thread standing detached good =
    good_alike s (set_thread s t thread) (λ i u. kept (λ (x : Thread). x.standing) s.threads t u thread standing i) good good.ready
    (subst (AreJoining (standings s)) (λ i u. sym (kept (λ (x : Thread). x.detached) s.threads t u thread detached) i) good.joining)
    good.mutexes good.conditions good.waits good.signals

pub good_reply : (s : State) (t error value : ℕ) → IsGood s → IsGood (reply s t error value)
good_reply s t error value good = good_set s t (with_reply (s.threads t) error value) refl refl good

-- the ready list, the numbers and the waits, where one thread changes
module _ (standing : ℕ → Standing) (t : ℕ) (st : Standing) where
  pub ready_on : (list : List ℕ) → is_ready st ≡ is_ready (standing t) → IsReadyList standing list → IsReadyList (put standing t st) list
  ready_on list same sound = record { order = sound.order; listed = listed_on is_ready standing t st list sound.listed same }

  pub ready_appended : (list : List ℕ) → IsTid t → is_ready (standing t) ≡ false → is_ready st ≡ true → IsReadyList standing list → IsReadyList (put standing t st) (appended t list)
  ready_appended list range before after sound = record {
    order = IsOrder-push list t sound.order range.0 range.1 (sound.listed t ∙ before);
    listed = listed_appended is_ready standing t st list sound.listed after;
  }

  pub ready_without : (list : List ℕ) → is_ready st ≡ false → IsReadyList standing list → IsReadyList (put standing t st) (without t list)
  ready_without list after sound = record {
    order = IsOrder-filter _ list sound.order;
    listed = listed_without is_ready standing t st list sound.listed after;
  }

  pub within_put : AreWithin standing → (is_absent st ≡ false → IsTid t) → AreWithin (put standing t st)
  within_put within range = each_put (λ u x. is_absent x ≡ false → IsTid u) standing t st range (λ u ne. within u)

  pub waits_put : (now : ℕ) → AreSoundWaits now standing → IsSoundWait now st → AreSoundWaits now (put standing t st)
  waits_put now waits here = each_put (λ u x. IsSoundWait now x) standing t st here (λ u ne. waits u)

-- what pends in one place changes
signals_put : (now : ℕ) (alarm : Option ℕ) (action : ℕ → Action) (counts : ℕ → ℕ → ℕ) → AreSoundSignals now alarm action counts → (place : ℕ) (f : ℕ → ℕ)
    → ((sig : ℕ) → ignores (action sig) sig ≡ true → f sig ≡ 0) → AreSoundSignals now alarm action (put counts place f)
signals_put now alarm action counts sound place f heeded = record {
  later = sound.later;
  soon = sound.soon;
  heeded = each_put (λ p (count : ℕ → ℕ). (sig : ℕ) → ignores (action sig) sig ≡ true → count sig ≡ 0) counts place f heeded (λ p ne. sound.heeded p);
}

-- what pends of a signal that is not ignored changes, or nothing of it pends
pub good_pending : (s : State) (place sig count : ℕ) → IsGood s → (ignores (s.actions sig) sig ≡ true → count ≡ 0) → IsGood (set_pending s place sig count)
good_pending s place sig count good heeded =
    good_alike s (set_pending s place sig count) refl good good.ready good.joining good.mutexes good.conditions good.waits
    (signals_put s.now s.alarm s.actions s.pending good.signals place (put (s.pending place) sig count)
    (each_put (λ u n. ignores (s.actions u) u ≡ true → n ≡ 0) (s.pending place) sig count heeded (λ u ne. good.signals.heeded place u)))

module _ (standing : ℕ → Standing) (detached : ℕ → Bool) (t : ℕ) (sound : AreJoining standing detached) where
  -- a thread changes that joins nobody anew, and whoever joins it may
  pub joining_put : (st : Standing) (d : Bool) → ((u : ℕ) → joins u st ≡ true → joins u (standing t) ≡ true)
      → ((v : ℕ) → joins t (standing v) ≡ true → (is_live st ≡ true) × (d ≡ false)) → AreJoining (put standing t st) (put detached t d)
  joining_put st d idle may_be v u h =
      let was = before v u h in
      record {
        live = each_put (λ w x. joins w (standing v) ≡ true → is_live x ≡ true) standing t st (λ k. (may_be v k).0) (λ w ne k. (sound v w k).live) u was;
        joinable = each_put (λ w x. joins w (standing v) ≡ true → x ≡ false) detached t d (λ k. (may_be v k).1) (λ w ne k. (sound v w k).joinable) u was;
        alone = λ w k. (sound v u was).alone w (before w u k);
      }
    where
      before : (v u : ℕ) → joins u (put standing t st v) ≡ true → joins u (standing v) ≡ true
      before v u = each_put (λ w x. joins u x ≡ true → joins u (standing w) ≡ true) standing t st (idle u) (λ w ne k. k) v

  -- a live thread joins another that nobody joins
  module _ (u : ℕ) (mine : is_live (standing t) ≡ true) (live : is_live (standing u) ≡ true) (joinable : detached u ≡ false)
      (nobody : (v : ℕ) → joins u (standing v) ≡ true → ⊥) where
    abbrev joined : Standing
    joined = Waits (Join u)

    live_on : (w : ℕ) → is_live (standing w) ≡ true → is_live (put standing t joined w) ≡ true
    live_on w h = kept is_live standing t w joined (sym mine) ∙ h

    pub joining_new : AreJoining (put standing t (Waits (Join u))) detached
    joining_new v w =
        each_put (λ x st. joins w st ≡ true → MayJoin (put standing t joined) detached x w) standing t joined
        (λ h. subst (MayJoin (put standing t joined) detached t) (eqb-true u w h) (record {
          live = live_on u live;
          joinable = joinable;
          alone = each_put (λ x st. joins u st ≡ true → x ≡ t) standing t joined (λ k. refl) (λ x ne k. absurd (nobody x k));
        }))
        (λ x ne h. record {
          live = live_on w (sound x w h).live;
          joinable = (sound x w h).joinable;
          alone =
              each_put (λ y st. joins w st ≡ true → y ≡ x) standing t joined
              (λ k. absurd (nobody x (subst (λ y. joins y (standing x) ≡ true) (sym (eqb-true u w k)) h)))
              (λ y apart k. (sound x w h).alone y k);
        })
        v

-- a thread that is not ready becomes ready, and mutexes and conditions change beside
abbrev pub awoken : State → ℕ → Thread → (ℕ → Option Mutex) → (ℕ → Option Condition) → State
awoken s t thread mutexes conditions = record (append s t thread) { mutexes = mutexes; conditions = conditions }

pub good_awoken : (s : State) (t : ℕ) (thread : Thread) (mutexes : ℕ → Option Mutex) (conditions : ℕ → Option Condition) → IsGood s
    → is_ready (standings s t) ≡ false → IsTid t → ((v : ℕ) → joins t (standings s v) ≡ true → thread.detached ≡ false)
    → AreSoundMutexes (put (standings s) t Ready) mutexes → AreSoundConditions (put (standings s) t Ready) mutexes conditions
    → IsGood (awoken s t thread mutexes conditions)
good_awoken s t thread mutexes conditions good away range joinable sound agreed =
    good_change s t (record thread { standing = Ready; used = 0 }) (awoken s t thread mutexes conditions) refl
    (record {
      ready = ready_appended (standings s) t Ready s.ready range away refl good.ready;
      within = within_put (standings s) t Ready good.within (λ h. range);
      joining = joining_put (standings s) (detachments s) t good.joining Ready thread.detached (λ u h. absurd (never false h refl)) (λ v j. (refl, joinable v j));
      mutexes = sound;
      conditions = agreed;
      waits = waits_put (standings s) t Ready s.now good.waits (ready_wait s.now);
      signals = good.signals;
    })

-- a thread waits for no end from now on, and the ready list, mutexes and conditions change beside
abbrev pub asleep : State → ℕ → Wait → List ℕ → (ℕ → Option Mutex) → (ℕ → Option Condition) → State
asleep s t wait list mutexes conditions = record (await s t wait) { ready = list; mutexes = mutexes; conditions = conditions }

pub good_asleep : (s : State) (t : ℕ) (wait : Wait) (list : List ℕ) (mutexes : ℕ → Option Mutex) (conditions : ℕ → Option Condition) → IsGood s → IsTid t
    → ((u : ℕ) → is_target (EndOf u) (aim wait) ≡ false) → IsReadyList (put (standings s) t (Waits wait)) list
    → AreSoundMutexes (put (standings s) t (Waits wait)) mutexes → AreSoundConditions (put (standings s) t (Waits wait)) mutexes conditions
    → IsSoundWait s.now (Waits wait) → IsGood (asleep s t wait list mutexes conditions)
good_asleep s t wait list mutexes conditions good range idle listed sound agreed here =
    good_change s t (record (s.threads t) { standing = Waits wait }) (asleep s t wait list mutexes conditions) refl
    (record {
      ready = listed;
      within = within_put (standings s) t (Waits wait) good.within (λ h. range);
      joining =
          joining_put (standings s) (detachments s) t good.joining (Waits wait) (s.threads t).detached
          (λ u h. absurd (never (is_target (EndOf u) (aim wait)) h (idle u)))
          (λ v j. (refl, (good.joining v t j).joinable));
      mutexes = sound;
      conditions = agreed;
      waits = waits_put (standings s) t (Waits wait) s.now good.waits here;
      signals = good.signals;
    })

-- a thread that was not ready and waited for no mutex and no condition becomes ready
pub good_append : (s : State) (t : ℕ) (thread : Thread) → IsGood s → is_ready (standings s t) ≡ false → ((m : ℕ) → wants m (standings s t) ≡ false)
    → ((c : ℕ) → waits_on c (standings s t) ≡ false) → IsTid t → ((v : ℕ) → joins t (standings s v) ≡ true → thread.detached ≡ false) → IsGood (append s t thread)
good_append s t thread good away wanted awake range joinable =
    good_awoken s t thread s.mutexes s.conditions good away range joinable
    (mutexes_stay (standings s) t Ready s.mutexes good.mutexes (λ m. sym (wanted m)) (λ m h. refl))
    (conditions_apart (standings s) s.mutexes t Ready s.conditions (λ c. refl) awake good.conditions)

-- who waits for an end is answered
pub good_answer : (g : Outcome) (u t error value : ℕ) → IsGood g.state → joins t (standings g.state u) ≡ true → IsGood (answer g u error value).state
good_answer g u t error value good h =
    let waits = waiting (EndOf t) (standings g.state u) h in
    let is = target_is (EndOf t) (target (standings g.state u)) h in
    good_append g.state u (with_reply (g.state.threads u) error value) good waits.0 (λ m. ap (is_target (MutexAt m)) is)
    (λ c. ap (is_target (ConditionAt c)) is) (good.within u waits.1) (λ v j. (good.joining v u j).joinable)

-- a ready thread that nobody joins is gone, or has ended
pub good_without : (s : State) (t : ℕ) (left : Thread) → IsGood s → is_live left.standing ≡ false → IsTid t → is_ready (standings s t) ≡ true
    → ((v : ℕ) → joins t (standings s v) ≡ true → ⊥) → IsGood (without_thread s t left)
good_without s t left good gone range ready nobody =
    let is = dead left.standing gone in
    let was = ready_target (standings s t) ready in
    good_change s t left (without_thread s t left) refl
    (record {
      ready = ready_without (standings s) t left.standing s.ready is.1 good.ready;
      within = within_put (standings s) t left.standing good.within (λ h. range);
      joining =
          joining_put (standings s) (detachments s) t good.joining left.standing left.detached
          (λ u h. absurd (never (joins u left.standing) h (ap (is_target (EndOf u)) is.0)))
          (λ v j. absurd (nobody v j));
      mutexes = mutexes_orphaned (standings s) t left.standing s.mutexes good.mutexes (λ m. ap (is_target (MutexAt m)) (is.0 ∙ sym was));
      conditions =
          conditions_on (put (standings s) t left.standing) s.mutexes _ s.conditions (λ c m e. stay_orphaned t (s.mutexes m))
          (conditions_apart (standings s) s.mutexes t left.standing s.conditions (λ c. ap (is_target (ConditionAt c)) is.0) (λ c. ap (is_target (ConditionAt c)) was) good.conditions);
      waits = waits_put (standings s) t left.standing s.now good.waits (is.2 s.now);
      signals = signals_put s.now s.alarm s.actions s.pending good.signals t (λ sig. 0) (λ sig h. refl);
    })

-- nobody waits for the end of a thread that has ended
pub unjoined : (s : State) (u : ℕ) → IsGood s → is_live (standings s u) ≡ false → (v : ℕ) → joins u (standings s v) ≡ true → ⊥
unjoined s u good gone v h = never (is_live (standings s u)) (good.joining v u h).live gone

-- the number of a thread that has ended is free
pub good_freed_number : (s : State) (t : ℕ) → IsGood s → is_live (standings s t) ≡ false → IsGood (set_thread s t no_thread)
good_freed_number s t good gone =
    let was = dead (standings s t) gone in
    good_change s t no_thread (set_thread s t no_thread) refl
    (record {
      ready = ready_on (standings s) t Absent s.ready (sym was.1) good.ready;
      within = within_put (standings s) t Absent good.within (λ h. absurd (never true refl h));
      joining =
          joining_put (standings s) (detachments s) t good.joining Absent false (λ u h. absurd (never false h refl)) (λ v j. absurd (unjoined s t good gone v j));
      mutexes =
          mutexes_stay (standings s) t Absent s.mutexes good.mutexes (λ m. ap (is_target (MutexAt m)) (sym was.0))
          (λ m h. sym gone ∙ ((good.mutexes m).owned t h).live);
      conditions = conditions_apart (standings s) s.mutexes t Absent s.conditions (λ c. refl) (λ c. ap (is_target (ConditionAt c)) was.0) good.conditions;
      waits = waits_put (standings s) t Absent s.now good.waits (absent_wait s.now);
      signals = good.signals;
    })

-- a ready thread waits for the end of another that nobody joins
pub good_join : (s : State) (t u : ℕ) → IsGood s → is_ready (standings s t) ≡ true → is_live (standings s u) ≡ true → (s.threads u).detached ≡ false
    → ((v : ℕ) → joins u (standings s v) ≡ true → ⊥) → IsGood (await s t (Join u))
good_join s t u good ready live joinable nobody =
    let st : Standing = Waits (Join u) in
    good_change s t (record (s.threads t) { standing = Waits (Join u) }) (await s t (Join u)) refl
    (record {
      ready = ready_without (standings s) t st s.ready refl good.ready;
      within = within_put (standings s) t st good.within (λ h. good.within t (ready_live (standings s t) ready).0);
      joining =
          subst (AreJoining (put (standings s) t st)) (sym (put_got (detachments s) t))
          (joining_new (standings s) (detachments s) t good.joining u (ready_live (standings s t) ready).1 live joinable nobody);
      mutexes = mutexes_stay (standings s) t st s.mutexes good.mutexes (λ m. sym (ready_wants m (standings s t) ready)) (λ m h. refl);
      conditions = conditions_apart (standings s) s.mutexes t st s.conditions (λ c. refl) (λ c. ready_waits_on c (standings s t) ready) good.conditions;
      waits = waits_put (standings s) t st s.now good.waits (steady s.now st once refl refl);
      signals = good.signals;
    })

-- a thread that nobody joins is detached
pub good_detached : (s : State) (u : ℕ) → IsGood s → ((v : ℕ) → joins u (standings s v) ≡ true → ⊥) → IsGood (set_thread s u (record (s.threads u) { detached = true }))
good_detached s u good nobody =
    let loose : Thread = record (s.threads u) { detached = true } in
    good_alike s (set_thread s u loose) (λ i v. kept (λ (x : Thread). x.standing) s.threads u v loose refl i) good good.ready
    (subst (AreJoining (standings s)) (sym (map_put (λ (x : Thread). x.detached) s.threads u loose))
    (subst (λ f. AreJoining f (put (detachments s) u true)) (put_got (standings s) u)
    (joining_put (standings s) (detachments s) u good.joining (standings s u) true (λ v h. h) (λ v j. absurd (nobody v j)))))
    good.mutexes good.conditions good.waits good.signals

-- a ready thread goes to the end of the list, and its record changes, but not what it is doing nor whether it is detached
pub good_last : (s : State) (t : ℕ) (thread : Thread) → thread.standing ≡ standings s t → thread.detached ≡ detachments s t → IsGood s → is_ready (standings s t) ≡ true
    → IsGood (record (set_thread s t thread) { ready = without t s.ready ++ t ∷ [] })
good_last s t thread standing detached good h =
    let range = good.within t (ready_live (standings s t) h).0 in
    let good_here = good_set s t thread standing detached good in
    good_alike (set_thread s t thread) (record (set_thread s t thread) { ready = without t s.ready ++ t ∷ [] }) refl good_here
    (record {
      order = IsOrder-push (without t s.ready) t (IsOrder-filter _ s.ready good.ready.order) range.0 range.1 (not_in-without t s.ready);
      listed = λ u. is_in-to_end t u s.ready (good.ready.listed t ∙ h) ∙ good_here.ready.listed u;
    })
    good_here.joining good_here.mutexes good_here.conditions good_here.waits good_here.signals

pub good_to_end : (s : State) (t : ℕ) → IsGood s → is_ready (standings s t) ≡ true → IsGood (to_end s t)
good_to_end s t good h = good_last s t (record (s.threads t) { used = 0 }) refl refl good h

-- a thread that is scheduled anew is at the end of the list where it is ready
pub good_rescheduled : (s : State) (t : ℕ) (policy : Policy) (base : ℕ) → IsGood s → IsGood (rescheduled s t policy base)
good_rescheduled s t policy base good = by (is_ready (standings s t)) refl
  where
    thread : Thread
    thread = with_schedule (s.threads t) policy base

    by : (b : Bool) → is_ready (standings s t) ≡ b → IsGood (record (set_thread s t thread) { ready = if b then without t s.ready ++ t ∷ [] else s.ready })
    by true h = good_last s t thread refl refl good h
    by false h = good_set s t thread refl refl good

-- where no thread is found that joins, none joins
pub nobody_joins : (s : State) (u : ℕ) → IsGood s → has_joiner s u ≡ false → (v : ℕ) → joins u (standings s v) ≡ true → ⊥
nobody_joins s u good none v h =
    let range = good.within v (waiting (EndOf u) (standings s v) h).1 in
    never (joins u (standings s v)) h (any_none (λ w. joins u (standings s w)) tids v none (in_tids v range.0 range.1))

pub no_joiner : (s : State) (u : ℕ) → IsGood s → joiner s u ≡ None → (v : ℕ) → joins u (standings s v) ≡ true → ⊥
no_joiner s u good none v h =
    let range = good.within v (waiting (EndOf u) (standings s v) h).1 in
    never (joins u (standings s v)) h (find_none (λ w. joins u (standings s w)) tids v none (in_tids v range.0 range.1))

-- the chosen thread is ready
pub chosen_ready : (s : State) (t : ℕ) → IsGood s → chosen s ≡ Some t → (is_ready (standings s t) ≡ true) × IsTid t
unfolding chosen
chosen_ready s t good e =
    let here = first_in (eff s) s.ready t e in
    (sym (good.ready.listed t) ∙ here, in_order_within s.ready t good.ready.order here)
