-- The waiters of a condition, and what a broadcast makes of them one after another.
use Rattle.std.proofs.Common.{◌≡◌, ◌∙◌, ap, sym, refl, subst, arith, ℕ, zero, suc, ◌+◌, ◌<◌, ◌≤◌, Bool, true, false, not, ◌||◌, eqb, List, [], ◌∷◌, ◌++◌, take, length, get_or, Option, Some, None, is_some}
use Rattle.std.proofs.lemmas.Bool.{eq-eqb, ne_eqb}
use Rattle.std.proofs.lemmas.List.{take_more}
use Rattle.thread_base.specs.Orders.{is_in, IsOrder}
use Rattle.thread_base.specs.Objects.{cond_mutex, cond_waiters}
use Rattle.posix_model.specs.State.{State, Thread, Condition, is_absent, is_ready, waits_on, mutex_with}
use Rattle.posix_model.specs.Good.{IsGood}
use Rattle.posix_model.specs.Changes.{Outcome, begun}
use Rattle.posix_model.specs.Scheduling.{eff}
use Rattle.posix_model.specs.Threads.{exists}
use Rattle.posix_model.specs.Conditions.{in_order, wake, wake_all}
use Rattle.posix_model.specs.declared.RetakeReply.TheVariants.{Answer}
use Rattle.posix_model.proofs.StandingLemmas.{never, ready_waits_on}
use Rattle.posix_model.proofs.GoodConditions.{good_wake}
use Rattle.posix_model.proofs.WakeLemmas.{IsOrder-in_order, in_order_is_in, wake_elsewhere}
use Rattle.kernel_state.specs.Changing.{IsListed}
use Rattle.kernel_state.proofs.ConditionLemmas.{few_threads}
use Rattle.kernel_state.specs.Waking.{WaitsOn}

-- a waiter of a condition waits on it, with its mutex
pub is_waiter_on : (s : State) (u c m : ℕ) → IsGood s → is_in u (cond_waiters (s.conditions c)) ≡ true → cond_mutex (s.conditions c) ≡ Some m → WaitsOn s u c m
is_waiter_on s u c m good waits bound =
    let on : waits_on c (s.threads u).standing ≡ true = sym ((good.conditions c).listed u) ∙ waits in
    record { waits = on; beside = (good.conditions c).together u on ∙ bound }

-- there is a condition
pub a_condition : (o : Option Condition) → is_some o ≡ true → (condition : Condition) × (o ≡ Some condition)
a_condition None h = absurd (let e : false ≡ true = h in cc)
a_condition (Some condition) h = (condition, refl)

-- who is there is there where another thread changes
there_still : (s r : State) (t : ℕ) → r.threads t ≡ s.threads t → exists s t ≡ true → exists r t ≡ true
there_still s r t same h = ap (λ (x : Thread). not (is_absent x.standing)) same ∙ h

-- a thread that is ready stays as it is where a cond_waiter is woken
pub ready_stays : (g : Outcome) (t u c m : ℕ) → is_ready (g.state.threads t).standing ≡ true → WaitsOn g.state u c m
    → (wake g u (Answer 0)).state.threads t ≡ g.state.threads t
ready_stays g t u c m ready waiting_on =
    wake_elsewhere g u t (Answer 0) (λ same. never (waits_on c (g.state.threads u).standing) waiting_on.waits
    (ap (λ v. waits_on c (g.state.threads v).standing) (sym same) ∙ ready_waits_on c (g.state.threads t).standing ready))

pub there_woken : (s : State) (t u c m : ℕ) → IsListed s t → WaitsOn s u c m → exists (wake (begun s) u (Answer 0)).state t ≡ true
there_woken s t u c m listed waiting_on = there_still s (wake (begun s) u (Answer 0)).state t (ready_stays (begun s) t u c m listed.2 waiting_on) listed.0

or_parts : (a b : Bool) → a || b ≡ false → (a ≡ false) × (b ≡ false)
or_parts true b h = absurd (let e : true ≡ false = h in cc)
or_parts false b h = (refl, h)

-- a member of an order is not among those before it
member_in : (xs : List ℕ) (i d : ℕ) → i < length xs → is_in (get_or xs i d) xs ≡ true
member_in [] i d few = absurd (omega (arith, few))
member_in (x ∷ xs) zero d few = ap (λ b. b || is_in x xs) (eq-eqb x x refl)
member_in (x ∷ xs) (suc i) d few = or_last (eqb (get_or xs i d) x) (is_in (get_or xs i d) xs) (member_in xs i d (omega (arith, few)))
  where
    or_last : (a b : Bool) → b ≡ true → a || b ≡ true
    or_last true b h = refl
    or_last false b h = h

not_before : (xs : List ℕ) (i d : ℕ) → IsOrder xs → i < length xs → is_in (get_or xs i d) (take i xs) ≡ false
not_before [] i d order few = absurd (omega (arith, few))
not_before (x ∷ xs) zero d order few = refl
not_before (x ∷ xs) (suc i) d order few =
    let here = member_in xs i d (omega (arith, few)) in
    ap (λ b. b || is_in (get_or xs i d) (take i xs)) (ne_eqb (get_or xs i d) x (λ same. never (is_in x xs) (ap (λ v. is_in v xs) (sym same) ∙ here) order.2))
    ∙ not_before xs i d order.3 (omega (arith, few))

-- threads that are woken one after another
wake_all_push : (g : Outcome) (xs : List ℕ) (u : ℕ) → wake_all g (xs ++ u ∷ []) ≡ wake (wake_all g xs) u (Answer 0)
wake_all_push g [] u = refl
wake_all_push g (x ∷ xs) u = wake_all_push (wake g x (Answer 0)) xs u

good_all : (g : Outcome) (xs : List ℕ) → IsGood g.state → IsGood (wake_all g xs).state
good_all g [] good = good
good_all g (x ∷ xs) good = good_all (wake g x (Answer 0)) xs (good_wake g x (Answer 0) good)

all_elsewhere : (g : Outcome) (xs : List ℕ) (t : ℕ) → is_in t xs ≡ false → (wake_all g xs).state.threads t ≡ g.state.threads t
all_elsewhere g [] t none = refl
all_elsewhere g (x ∷ xs) t none =
    let apart = or_parts (eqb t x) (is_in t xs) none in
    all_elsewhere (wake g x (Answer 0)) xs t apart.1
    ∙ wake_elsewhere g x t (Answer 0) (λ same. never (eqb t x) (eq-eqb t x same) apart.0)

-- the wake_order of a condition in order
module _ (s : State) (c m : ℕ) (good : IsGood s) (bound : cond_mutex (s.conditions c) ≡ Some m) (xs : List ℕ) (all : xs ≡ in_order (eff s) (cond_waiters (s.conditions c))) where
  order_all : IsOrder xs
  order_all = subst IsOrder (sym all) (IsOrder-in_order (eff s) (cond_waiters (s.conditions c)) (good.conditions c).order)

  pub few_cond_waiters : length xs ≤ 64
  few_cond_waiters = let few = few_threads xs order_all in omega (arith, few)

  module _ (i : ℕ) (few : i < length xs) (u : ℕ) (is : u ≡ get_or xs i 0) where
    pub still_waits : is_in u (cond_waiters (s.conditions c)) ≡ true
    still_waits = sym (in_order_is_in (eff s) u (cond_waiters (s.conditions c))) ∙ ap (is_in u) (sym all) ∙ ap (λ v. is_in v xs) is ∙ member_in xs i 0 few

    pub stays_there : (wake_all (begun s) (take i xs)).state.threads u ≡ s.threads u
    stays_there = all_elsewhere (begun s) (take i xs) u (ap (λ v. is_in v (take i xs)) is ∙ not_before xs i 0 order_all few)

    pub good_before : IsGood (wake_all (begun s) (take i xs)).state
    good_before = good_all (begun s) (take i xs) good

    pub waits_on_still : WaitsOn (wake_all (begun s) (take i xs)).state u c m
    waits_on_still =
        let entered = is_waiter_on s u c m good still_waits bound in
        record {
          waits = ap (λ (x : Thread). waits_on c x.standing) stays_there ∙ entered.waits;
          beside = ap (λ (x : Thread). mutex_with x.standing) stays_there ∙ entered.beside;
        }

    pub one_more : wake (wake_all (begun s) (take i xs)) u (Answer 0) ≡ wake_all (begun s) (take (i + 1) xs)
    one_more =
        sym (ap (wake_all (begun s)) (take_more xs i 0 few) ∙ wake_all_push (begun s) (take i xs) (get_or xs i 0) ∙ ap (λ v. wake (wake_all (begun s) (take i xs)) v (Answer 0)) (sym is))

  -- who is ready is there when all are woken
  pub there_all : (t : ℕ) → IsListed s t → exists (wake_all (begun s) xs).state t ≡ true
  there_all t listed =
      there_still s (wake_all (begun s) xs).state t
      (all_elsewhere (begun s) xs t
      (ap (is_in t) all ∙ in_order_is_in (eff s) t (cond_waiters (s.conditions c)) ∙ (good.conditions c).listed t ∙ ready_waits_on c (s.threads t).standing listed.2))
      listed.0
