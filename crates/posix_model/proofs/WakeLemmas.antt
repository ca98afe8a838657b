-- The order in which waiters are woken, and what a wake changes.
use Rattle.std.proofs.Common.{◌≡◌, ◌≢◌, ◌∙◌, ap, sym, refl, subst, inl, inr, ℕ, ◌<◌, ◌≤◌, Bool, true, false, ◌||◌, eqb, leb, List, [], ◌∷◌, Option, Some, None, arith, find, cond, not}
use Rattle.std.specs.Prelude.{if◌then◌else◌, is_some}
use Rattle.std.proofs.lemmas.Bool.{cases_lt, eq-eqb, ne_eqb, eqb-true, eqb-false, le-leb, lt-leb, or_parts, or_from, false_from_ne_true}
use Rattle.std.proofs.Math.Bool.{or-true}
use Rattle.thread_base.specs.Holders.{is_free}
use Rattle.thread_base.specs.Maps.{put}
use Rattle.thread_base.specs.Objects.{cond_waiters}
use Rattle.thread_base.specs.Orders.{is_in, without, IsOrder}
use Rattle.thread_base.specs.Priority.{greatest, first_greatest}
use Rattle.thread_base.proofs.MapLemmas.{put_other, put_got}
use Rattle.thread_base.proofs.OrderLemmas.{without_absent}
use Rattle.thread_base.proofs.PriorityLemmas.{first_in, first_some}
use Rattle.thread_base.proofs.SearchLemmas.{find_passes}
use Rattle.posix_model.specs.State.{State, Thread, Mutex, Condition, Standing, Waits, target, wait_of, waits_on, deadline_by, is_at_condition}
use Rattle.posix_model.specs.Scheduling.{eff}
use Rattle.posix_model.specs.Changes.{Outcome, begun}
use Rattle.posix_model.specs.Mutexes.{give, requeue, retake_of}
use Rattle.posix_model.specs.Conditions.{leave, wake_from, wake, wake_all, insert, in_order}
use Rattle.posix_model.specs.ConditionCalls.{cond_broadcast_of}
use Rattle.posix_model.specs.Good.{standings, IsGood}
use Rattle.posix_model.specs.Laws.{BestComesFirst, EveryoneIsWoken}
use Rattle.posix_model.specs.declared.RetakeReply.{RetakeReply}
use Rattle.posix_model.specs.declared.RetakeReply.TheVariants.{Answer}
use Rattle.posix_model.specs.declared.Wait.{Wait}
use Rattle.posix_model.specs.declared.Wait.TheVariants.{Cond}
use Rattle.posix_model.proofs.StandingLemmas.{never, kept}
use Rattle.posix_model.proofs.ListLemmas.{each_put}
use Rattle.posix_model.proofs.GoodConditions.{mutex_there, good_wake}

-- the first of the greatest has the greatest key
first_key : (key : ℕ → ℕ) (ts : List ℕ) (t : ℕ) → first_greatest key ts ≡ Some t → key t ≡ greatest key ts
first_key key ts t e = eqb-true (key t) (greatest key ts) (find_passes (λ u. eqb (key u) (greatest key ts)) ts t e)

-- a thread stands in front of those whose keys are not greater
stays_first : (key : ℕ → ℕ) (x u : ℕ) (us : List ℕ) → key u ≤ key x → insert key x (u ∷ us) ≡ x ∷ u ∷ us
stays_first key x u us h = ap (λ b. cond b (x ∷ u ∷ us) (u ∷ insert key x us)) (le-leb (key u) (key x) h)

goes_behind : (key : ℕ → ℕ) (x u : ℕ) (us : List ℕ) → key x < key u → insert key x (u ∷ us) ≡ u ∷ insert key x us
goes_behind key x u us h = ap (λ b. cond b (x ∷ u ∷ us) (u ∷ insert key x us)) (lt-leb (key u) (key x) h)

in_front : (key : ℕ → ℕ) (x : ℕ) (ys : List ℕ) → ((t : ℕ) → first_greatest key ys ≡ Some t → in_order key ys ≡ t ∷ in_order key (without t ys))
    → greatest key ys ≤ key x → insert key x (in_order key ys) ≡ x ∷ in_order key ys
in_front key x [] best few = refl
in_front key x (y ∷ ys) best few =
    let first = first_some key y ys in
    let is = best first.0 first.1 in
    let top = first_key key (y ∷ ys) first.0 first.1 in
    ap (insert key x) is ∙ stays_first key x first.0 (in_order key (without first.0 (y ∷ ys))) (omega (arith, top, few)) ∙ ap (λ us. x ∷ us) (sym is)

pub best_comes_first : BestComesFirst
best_comes_first key [] t order e = let h : None ≡ Some t = e in absurd (cc)
best_comes_first key (x ∷ xs) t order e =
    elim (cases_lt (key x) (greatest key xs)) [
      | inl lt ↦
          (let top : greatest key (x ∷ xs) ≡ greatest key xs = omega arith in
          let rest : first_greatest key xs ≡ Some t =
          sym (ap (λ b. cond b (Some x) (first_greatest key xs)) (ne_eqb (key x) (greatest key xs) (λ f. omega (arith, f, lt))))
          ∙ ap (λ n. find (λ u. eqb (key u) n) (x ∷ xs)) (sym top) ∙ e in
          let apart : x ≢ t = λ same. never (is_in t xs) (first_in key xs t rest) (subst (λ u. is_in u xs ≡ false) same order.2) in
          let high = first_key key xs t rest in
          ap (insert key x) (best_comes_first key xs t order.3 rest)
          ∙ goes_behind key x t (in_order key (without t xs)) (omega (arith, high, lt))
          ∙ ap (λ us. t ∷ in_order key us) (sym (ap (λ b. cond (not b) (x ∷ without t xs) (without t xs)) (ne_eqb x t apart))))
      | inr ge ↦
          (let top : key x ≡ greatest key (x ∷ xs) = omega arith in
          let first : Some x ≡ Some t = sym (ap (λ b. cond b (Some x) (find (λ u. eqb (key u) (greatest key (x ∷ xs))) xs)) (eq-eqb (key x) (greatest key (x ∷ xs)) top)) ∙ e in
          let same : x ≡ t = cc in
          in_front key x xs (λ u f. best_comes_first key xs u order.3 f) ge
          ∙ ap (λ u. x ∷ in_order key u) (sym (without_absent x xs order.2))
          ∙ ap (λ us. x ∷ in_order key us) (sym (ap (λ b. cond (not b) (x ∷ without x xs) (without x xs)) (eq-eqb x x refl)))
          ∙ ap (λ u. u ∷ in_order key (without u (x ∷ xs))) same)
    ]

or_swap : (a b c : Bool) → a || (b || c) ≡ b || (a || c)
or_swap true b c = sym (or-true b)
or_swap false b c = refl

-- in order are the threads that were there
insert_is_in : (key : ℕ → ℕ) (u x : ℕ) (ys : List ℕ) → is_in u (insert key x ys) ≡ is_in u (x ∷ ys)
insert_is_in key u x [] = refl
insert_is_in key u x (y ∷ ys) =
    elim (leb (key y) (key x)) as (λ b. is_in u (if b then x ∷ y ∷ ys else y ∷ insert key x ys) ≡ is_in u (x ∷ y ∷ ys)) [
      | true ↦ refl
      | false ↦ ap (λ b. eqb u y || b) (insert_is_in key u x ys) ∙ or_swap (eqb u y) (eqb u x) (is_in u ys)
    ]

pub in_order_is_in : (key : ℕ → ℕ) (u : ℕ) (ts : List ℕ) → is_in u (in_order key ts) ≡ is_in u ts
in_order_is_in key u [] = refl
in_order_is_in key u (t ∷ ts) = insert_is_in key u t (in_order key ts) ∙ ap (λ b. eqb u t || b) (in_order_is_in key u ts)

IsOrder-insert : (key : ℕ → ℕ) (x : ℕ) (ys : List ℕ) → IsOrder ys → 1 ≤ x → x ≤ 64 → is_in x ys ≡ false → IsOrder (insert key x ys)
IsOrder-insert key x [] order low high away = (low, high, refl, tt)
IsOrder-insert key x (y ∷ ys) order low high away =
    let parts = or_parts (eqb x y) (is_in x ys) away in
    let alone : eqb y x ≡ false = ne_eqb y x (λ e. eqb-false x y parts.0 (sym e)) in
    elim (leb (key y) (key x)) as (λ b. IsOrder (if b then x ∷ y ∷ ys else y ∷ insert key x ys)) [
      | true ↦ (low, high, away, order)
      | false ↦ (order.0, order.1, insert_is_in key y x ys ∙ or_from (eqb y x) (is_in y ys) alone order.2, IsOrder-insert key x ys order.3 low high parts.1)
    ]

-- and each of them once
pub IsOrder-in_order : (key : ℕ → ℕ) (ts : List ℕ) → IsOrder ts → IsOrder (in_order key ts)
IsOrder-in_order key [] order = tt
IsOrder-in_order key (t ∷ ts) order =
    IsOrder-insert key t (in_order key ts) (IsOrder-in_order key ts order.3) order.0 order.1 (in_order_is_in key t ts ∙ order.2)

-- a state with the threads, the ready list, the mutexes and the conditions of another
abbrev pub with_threads_of : State → State → State
with_threads_of r s = record r { threads = s.threads; ready = s.ready; mutexes = s.mutexes; conditions = s.conditions }

retaken_alike : (g : Outcome) (r : State) (t c m count : ℕ) (reply : RetakeReply) (o : Option Mutex)
    → (retake_of (leave (record g { state = with_threads_of r g.state }) c t) m o t count reply).state ≡ with_threads_of r (retake_of (leave g c t) m o t count reply).state
retaken_alike g r t c m count reply None = refl
retaken_alike g r t c m count reply (Some mutex) = by (is_free mutex.holder)
  where
    there : Outcome
    there = leave (record g { state = with_threads_of r g.state }) c t

    by : (b : Bool) → (if b then give there m mutex t count reply else requeue there m mutex t count reply).state
        ≡ with_threads_of r (if b then give (leave g c t) m mutex t count reply else requeue (leave g c t) m mutex t count reply).state
    by true = refl
    by false = refl

woken_alike : (g : Outcome) (r : State) (t : ℕ) (reply : RetakeReply) (wait : Option Wait)
    → (wake_from (record g { state = with_threads_of r g.state }) t reply wait).state ≡ with_threads_of r (wake_from g t reply wait).state
woken_alike g r t reply (Some (Cond c m deadline count)) = retaken_alike g r t c m count reply (g.state.mutexes m)
woken_alike g r t reply wait = refl

-- a wake reads and changes threads, ready list, mutexes and conditions alone
pub wake_alike : (g : Outcome) (r : State) (t : ℕ) (reply : RetakeReply)
    → (wake (record g { state = with_threads_of r g.state }) t reply).state ≡ with_threads_of r (wake g t reply).state
wake_alike g r t reply = woken_alike g r t reply (wait_of (standings g.state t))

pub wake_leaves : (g : Outcome) (t : ℕ) (reply : RetakeReply) → (wake g t reply).state ≡ with_threads_of g.state (wake g t reply).state
wake_leaves g t reply = wake_alike g g.state t reply

-- a wake changes one thread, who then waits for no condition, and without a time where it waited for one
abbrev pub Woken : Outcome → ℕ → (ℕ → Thread) → Type 0
Woken g t threads =
    (x : Thread) × (threads ≡ put g.state.threads t x) × (IsGood g.state → (d : ℕ) → waits_on d x.standing ≡ false)
    × (IsGood g.state → is_at_condition (target (standings g.state t)) ≡ true → deadline_by (wait_of x.standing) ≡ None)

retaken : (g : Outcome) (t c m count : ℕ) (deadline : Option ℕ) (reply : RetakeReply) (o : Option Mutex) → standings g.state t ≡ Waits (Cond c m deadline count)
    → g.state.mutexes m ≡ o → Woken g t (retake_of (leave g c t) m o t count reply).state.threads
retaken g t c m count deadline reply None e none =
    let there = λ (good : IsGood g.state). never false (sym (ap is_some none) ∙ mutex_there g.state t c m count deadline good e) refl in
    (g.state.threads t, sym (put_got g.state.threads t), λ good d. absurd (there good), λ good h. absurd (there good))
retaken g t c m count deadline reply (Some mutex) e there = by (is_free mutex.holder)
  where
    by : (b : Bool) → Woken g t (if b then give (leave g c t) m mutex t count reply else requeue (leave g c t) m mutex t count reply).state.threads
    by true = (_, refl, λ good d. refl, λ good h. refl)
    by false = (_, refl, λ good d. refl, λ good h. refl)

woken_from : (g : Outcome) (t : ℕ) (reply : RetakeReply) (st : Standing) → standings g.state t ≡ st → Woken g t (wake_from g t reply (wait_of st)).state.threads
woken_from g t reply (Waits (Cond c m deadline count)) e = retaken g t c m count deadline reply (g.state.mutexes m) e refl
woken_from g t reply st e = (
  g.state.threads t,
  sym (put_got g.state.threads t),
  λ good d. ap (waits_on d) e,
  λ good h. absurd (never (is_at_condition (target (standings g.state t))) h (ap (λ x. is_at_condition (target x)) e)),
)

pub wake_changes : (g : Outcome) (t : ℕ) (reply : RetakeReply) → Woken g t (wake g t reply).state.threads
wake_changes g t reply = woken_from g t reply (standings g.state t) refl

pub wake_elsewhere : (g : Outcome) (t u : ℕ) (reply : RetakeReply) → u ≢ t → (wake g t reply).state.threads u ≡ g.state.threads u
wake_elsewhere g t u reply ne =
    let woken = wake_changes g t reply in
    ap (λ (f : ℕ → Thread). f u) woken.1 ∙ put_other g.state.threads t woken.0 u ne

-- who waits for a condition after a wake is another thread, and waited before
waits_after : (g : Outcome) (t u d : ℕ) (reply : RetakeReply) → IsGood g.state → waits_on d (standings (wake g t reply).state u) ≡ true
    → (u ≢ t) × (waits_on d (standings g.state u) ≡ true)
waits_after g t u d reply good h =
    let woken = wake_changes g t reply in
    each_put (λ v (x : Thread). waits_on d x.standing ≡ true → (v ≢ t) × (waits_on d (standings g.state v) ≡ true)) g.state.threads t woken.0
    (λ k. absurd (never (waits_on d woken.0.standing) k (woken.2 good d))) (λ v ne k. (ne, k)) u
    (ap (λ (f : ℕ → Thread). waits_on d (f u).standing) (sym woken.1) ∙ h)

-- where every waiter is woken, nobody waits
all_woken : (g : Outcome) (ts : List ℕ) (u d : ℕ) → IsGood g.state → (waits_on d (standings g.state u) ≡ true → is_in u ts ≡ true)
    → waits_on d (standings (wake_all g ts).state u) ≡ false
all_woken g [] u d good listed = false_from_ne_true _ (λ h. never false (listed h) refl)
all_woken g (t ∷ ts) u d good listed =
    all_woken (wake g t (Answer 0)) ts u d (good_wake g t (Answer 0) good) (λ h.
    let was = waits_after g t u d (Answer 0) good h in
    sym (ap (λ b. b || is_in u ts) (ne_eqb u t was.0)) ∙ listed was.1)

everyone_by : (s : State) (t c : ℕ) (o : Option Condition) → IsGood s → s.conditions c ≡ o → is_some o ≡ true
    → (u : ℕ) → waits_on c ((cond_broadcast_of s t o).outcome.state.threads u).standing ≡ false
everyone_by s t c None good here there u = absurd (never false there refl)
everyone_by s t c (Some condition) good here there u =
    kept (λ (x : Thread). waits_on c x.standing) (wake_all (begun s) (in_order (eff s) condition.waiters)).state.threads t u _ refl
    ∙ all_woken (begun s) (in_order (eff s) condition.waiters) u c good (λ h.
    in_order_is_in (eff s) u condition.waiters ∙ ap (λ o. is_in u (cond_waiters o)) (sym here) ∙ (good.conditions c).listed u ∙ h)

pub everyone_is_woken : EveryoneIsWoken
everyone_is_woken s t c good there u = everyone_by s t c.a0 (s.conditions c.a0) good refl there u
