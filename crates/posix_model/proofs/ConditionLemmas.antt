-- What keeps a condition sound: a thread that changes, the condition that changes, or both, while no mutex that waiters use goes.
use Rattle.std.proofs.Common.{◌≡◌, ◌≢◌, ◌∙◌, ap, sym, refl, subst, ℕ, ◌<◌, true, false, List, [], ◌∷◌, Option, Some, None, arith}
use Rattle.std.specs.Prelude.{◌==◌, is_some}
use Rattle.std.proofs.lemmas.Bool.{eqb-true, eq-eqb, not-false}
use Rattle.thread_base.specs.Maps.{put}
use Rattle.thread_base.specs.Numbers.{IsTid}
use Rattle.thread_base.specs.Objects.{cond_mutex, cond_waiters, appended, entered_by, still_bound, without_waiter, is_mutex, condition_numbers}
use Rattle.thread_base.specs.Orders.{is_in, without, IsOrder}
use Rattle.thread_base.proofs.OrderLemmas.{IsOrder-push, IsOrder-filter, is_in-without, is_in-pushed}
use Rattle.thread_base.proofs.SearchLemmas.{in_range, any_none}
use Rattle.posix_model.specs.State.{State, Standing, Mutex, Condition, Waits, waits_on, mutex_with}
use Rattle.posix_model.specs.Mutexes.{orphan_in}
use Rattle.posix_model.specs.Conditions.{is_other, is_used}
use Rattle.posix_model.specs.Good.{IsSoundCondition, AreSoundConditions}
use Rattle.posix_model.specs.declared.Wait.TheVariants.{Cond}
use Rattle.posix_model.proofs.StandingLemmas.{never, waits_with}
use Rattle.posix_model.proofs.ListLemmas.{each_put, listed_on, listed_appended, listed_without}

-- a condition for which nobody waits, or that is not there
pub condition_idle : (standing : ℕ → Standing) (mutexes : ℕ → Option Mutex) (c : ℕ) (o : Option Condition) → (is_some o ≡ true → c < 256)
    → ((u : ℕ) → waits_on c (standing u) ≡ false) → cond_mutex o ≡ None → cond_waiters o ≡ [] → IsSoundCondition standing mutexes c o
condition_idle standing mutexes c o range idle unbound nobody = record {
  within = range;
  order = subst IsOrder (sym nobody) tt;
  listed = λ u. ap (is_in u) nobody ∙ sym (idle u);
  together = λ u h. absurd (never (waits_on c (standing u)) h (idle u));
  there = λ m e. (let none : None ≡ Some m = sym unbound ∙ e in absurd (cc));
  unused = λ h. unbound;
}

-- the mutexes that are there stay there
pub stay_put : (mutexes : ℕ → Option Mutex) (m : ℕ) (mutex : Mutex) (k : ℕ) → is_some (mutexes k) ≡ true → is_some (put mutexes m (Some mutex) k) ≡ true
stay_put mutexes m mutex = each_put (λ k o. is_some (mutexes k) ≡ true → is_some o ≡ true) mutexes m (Some mutex) (λ h. refl) (λ k ne h. h)

pub stay_orphaned : (t : ℕ) (o : Option Mutex) → is_some o ≡ true → is_some (orphan_in t o) ≡ true
stay_orphaned t None h = h
stay_orphaned t (Some mutex) h = refl

pub conditions_on : (standing : ℕ → Standing) (before after : ℕ → Option Mutex) (conditions : ℕ → Option Condition)
    → ((c m : ℕ) → cond_mutex (conditions c) ≡ Some m → is_some (before m) ≡ true → is_some (after m) ≡ true)
    → AreSoundConditions standing before conditions → AreSoundConditions standing after conditions
conditions_on standing before after conditions stay sound c = record {
  within = (sound c).within;
  order = (sound c).order;
  listed = (sound c).listed;
  together = (sound c).together;
  there = λ m e. stay c m e ((sound c).there m e);
  unused = (sound c).unused;
}

-- the mutex of a condition stays bound as long as somebody waits
stays_bound : (mutex : Option ℕ) (ws : List ℕ) (u : ℕ) → is_in u ws ≡ true → still_bound mutex ws ≡ mutex
stays_bound mutex [] u h = absurd (never false h refl)
stays_bound mutex (w ∷ ws) u h = refl

was_bound : (mutex : Option ℕ) (ws : List ℕ) (m : ℕ) → still_bound mutex ws ≡ Some m → mutex ≡ Some m
was_bound mutex [] m h = let e : None ≡ Some m = h in absurd (cc)
was_bound mutex (w ∷ ws) m h = h

-- who waits with a condition's waiters waits with their mutex
one_mutex : (m : ℕ) (bound beside : Option ℕ) → is_some beside ≡ true → beside ≡ bound → is_other m bound ≡ false → beside ≡ Some m
one_mutex m None beside some same free = absurd (never (is_some beside) some (ap is_some same))
one_mutex m (Some k) beside some same free = same ∙ ap Some (eqb-true k m (not-false (k == m) free))

-- a thread changes
module _ (standing : ℕ → Standing) (mutexes : ℕ → Option Mutex) (t : ℕ) (st : Standing) where
  -- it waits for the condition neither before nor after
  pub condition_apart : (c : ℕ) (o : Option Condition) → waits_on c st ≡ false → waits_on c (standing t) ≡ false
      → IsSoundCondition standing mutexes c o → IsSoundCondition (put standing t st) mutexes c o
  condition_apart c o after before sound = record {
    within = sound.within;
    order = sound.order;
    listed = listed_on (waits_on c) standing t st (cond_waiters o) sound.listed (after ∙ sym before);
    together = each_put (λ u x. waits_on c x ≡ true → mutex_with x ≡ cond_mutex o) standing t st (λ h. absurd (never (waits_on c st) h after)) (λ u ne. sound.together u);
    there = sound.there;
    unused = sound.unused;
  }

  -- it waits for the condition no more
  pub condition_left : (c : ℕ) (o : Option Condition) → waits_on c st ≡ false
      → IsSoundCondition standing mutexes c o → IsSoundCondition (put standing t st) mutexes c (without_waiter t o)
  condition_left c None after sound =
      condition_idle (put standing t st) mutexes c None (λ h. absurd (never false h refl))
      (each_put (λ u x. waits_on c x ≡ false) standing t st after (λ u ne. sym (sound.listed u))) refl refl
  condition_left c (Some condition) after sound =
      let ws = condition.waiters in
      let rest = without t ws in
      record {
        within = sound.within;
        order = IsOrder-filter _ ws sound.order;
        listed = listed_without (waits_on c) standing t st ws sound.listed after;
        together =
            each_put (λ u x. waits_on c x ≡ true → mutex_with x ≡ still_bound condition.mutex rest) standing t st
            (λ h. absurd (never (waits_on c st) h after))
            (λ u ne h. sound.together u h ∙ sym (stays_bound condition.mutex rest u (is_in-without t u ws ne ∙ sound.listed u ∙ h)));
        there = λ m e. sound.there m (was_bound condition.mutex rest m e);
        unused = λ e. ap (still_bound condition.mutex) e;
      }

  -- a condition changes too, and the thread waits for no other before or after
  pub conditions_put : (conditions : ℕ → Option Condition) (c : ℕ) (o : Option Condition) → ((k : ℕ) → k ≢ c → waits_on k st ≡ false)
      → ((k : ℕ) → k ≢ c → waits_on k (standing t) ≡ false) → IsSoundCondition (put standing t st) mutexes c o
      → AreSoundConditions standing mutexes conditions → AreSoundConditions (put standing t st) mutexes (put conditions c o)
  conditions_put conditions c o after before here sound =
      each_put (IsSoundCondition (put standing t st) mutexes) conditions c o here (λ k ne. condition_apart k (conditions k) (after k ne) (before k ne) (sound k))

  pub conditions_apart : (conditions : ℕ → Option Condition) → ((c : ℕ) → waits_on c st ≡ false) → ((c : ℕ) → waits_on c (standing t) ≡ false)
      → AreSoundConditions standing mutexes conditions → AreSoundConditions (put standing t st) mutexes conditions
  conditions_apart conditions after before sound c = condition_apart c (conditions c) (after c) (before c) (sound c)

-- a thread waits for a condition with a mutex, after the others
pub condition_entered : (standing : ℕ → Standing) (mutexes : ℕ → Option Mutex) (t c m count : ℕ) (deadline : Option ℕ) (condition : Condition) → IsTid t → waits_on c (standing t) ≡ false
    → is_some (mutexes m) ≡ true → is_other m condition.mutex ≡ false
    → IsSoundCondition standing mutexes c (Some condition) → IsSoundCondition (put standing t (Waits (Cond c m deadline count))) mutexes c (Some (entered_by t m condition))
condition_entered standing mutexes t c m count deadline condition range awake there free sound =
    let st : Standing = Waits (Cond c m deadline count) in
    let ws = condition.waiters in
    record {
      within = sound.within;
      order = IsOrder-push ws t sound.order range.0 range.1 (sound.listed t ∙ awake);
      listed = listed_appended (waits_on c) standing t st ws sound.listed (eq-eqb c c refl);
      together =
          each_put (λ u x. waits_on c x ≡ true → mutex_with x ≡ Some m) standing t st (λ h. refl)
          (λ u ne h. one_mutex m condition.mutex (mutex_with (standing u)) (waits_with c (standing u) h) (sound.together u h) free);
      there = λ k e. (let same : m ≡ k = (let f : Some m ≡ Some k = e in cc) in subst (λ j. is_some (mutexes j) ≡ true) same there);
      unused = λ e. absurd (never (is_in t (appended t ws)) (is_in-pushed t ws) (ap (is_in t) e));
    }

-- a condition whose waiters use a mutex is there
uses_there : (o : Option Condition) (m : ℕ) → cond_mutex o ≡ Some m → is_some o ≡ true
uses_there None m h = let e : None ≡ Some m = h in absurd (cc)
uses_there (Some condition) m h = refl

in_numbers : (c : ℕ) → c < 256 → is_in c condition_numbers ≡ true
unfolding condition_numbers
in_numbers c h = in_range 0 256 c (omega arith) (omega arith)

-- where no condition's waiters use a mutex, what they use is another
pub used_other : (s : State) (standing : ℕ → Standing) (m : ℕ) → AreSoundConditions standing s.mutexes s.conditions → is_used s m ≡ false
    → (c k : ℕ) → cond_mutex (s.conditions c) ≡ Some k → k ≢ m
used_other s standing m sound free c k e same =
    never (is_mutex m (cond_mutex (s.conditions c))) (ap (is_mutex m) e ∙ eq-eqb k m same)
    (any_none (λ d. is_mutex m (cond_mutex (s.conditions d))) condition_numbers c free (in_numbers c ((sound c).within (uses_there (s.conditions c) k e))))
