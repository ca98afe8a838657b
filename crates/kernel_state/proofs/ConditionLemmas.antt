-- The conditions that the tables show, and threads in order of their priorities.
use Rattle.std.proofs.Common.{◌≡◌, ◌∙◌, ap, sym, refl, inl, inr, ℕ, zero, suc, ◌<◌, Bool, true, false, ◌||◌, eqb, List, [], ◌∷◌, length, Option, Some, None, is_some, arith}
use Rattle.std.specs.Prelude.{if◌then◌else◌, nat_le}
use Rattle.std.proofs.Math.ListN.{get_or-eq_default}
use Rattle.std.proofs.lemmas.Bool.{cases_Bool, cases_lt, eq-eqb, eqb-true}
use Rattle.thread_base.specs.Numbers.{IsTid}
use Rattle.thread_base.proofs.SearchLemmas.{any_some, none_any, in_range}
use Rattle.thread_base.specs.Maps.{numbered}
use Rattle.thread_base.specs.Objects.{Condition, cond_mutex, cond_waiters, is_mutex, condition_numbers}
use Rattle.thread_base.specs.Orders.{is_in, IsOrder}
use Rattle.thread_base.proofs.OrderLemmas.{room}
use Rattle.posix_model.specs.State.{State}
use Rattle.posix_model.specs.Conditions.{is_used, insert, in_order}
use Rattle.posix_model.specs.Good.{IsGood}
use Rattle.posix_model.proofs.WakeLemmas.{in_order_is_in}

pub absent_mutex : (o : Option Condition) → is_some o ≡ false → None ≡ cond_mutex o
absent_mutex None h = refl
absent_mutex (Some condition) h = let e : true ≡ false = h in absurd (cc)

pub absent_cond_waiters : (o : Option Condition) → is_some o ≡ false → cond_waiters o ≡ []
absent_cond_waiters None h = refl
absent_cond_waiters (Some condition) h = let e : true ≡ false = h in absurd (cc)

uses_it : (o : Option ℕ) (m : ℕ) → is_mutex m o ≡ true → o ≡ Some m
uses_it None m h = let e : false ≡ true = h in absurd (cc)
uses_it (Some k) m h = ap (λ j. Some j) (eqb-true k m h)

is_there : (o : Option Condition) (m : ℕ) → cond_mutex o ≡ Some m → is_some o ≡ true
is_there None m h = let e : None ≡ Some m = h in absurd (cc)
is_there (Some condition) m h = refl

-- some condition's waiters use a mutex
pub used_shown : (s : State) (m : ℕ) (used : Bool) → IsGood s → (used ≡ true → (c : ℕ) × (cond_mutex (s.conditions c) ≡ Some m))
    → ((c : ℕ) → cond_mutex (s.conditions c) ≡ Some m → used ≡ true) → used ≡ is_used s m
unfolding condition_numbers
used_shown s m true good some each =
    let found = some refl in
    let is = found.1 in
    sym (any_some (λ d. is_mutex m (cond_mutex (s.conditions d))) condition_numbers found.0
    (in_range 0 256 found.0 (omega arith) ((good.conditions found.0).within (is_there (s.conditions found.0) m is)))
    (ap (is_mutex m) is ∙ eq-eqb m m refl))
used_shown s m false good some each =
    sym (none_any (λ d. is_mutex m (cond_mutex (s.conditions d))) condition_numbers (λ c h. elim (cases_Bool (is_mutex m (cond_mutex (s.conditions c)))) [
      | inl uses ↦ absurd (let e : false ≡ true = each c (uses_it (cond_mutex (s.conditions c)) m uses) in cc)
      | inr other ↦ other
    ]))

-- a list of levels has 0 where no thread has a number
pub level_beyond : (levels : List ℕ) (n : ℕ) → length levels ≡ 64 → ¬ IsTid n → 0 ≡ numbered 0 levels n
unfolding numbered
level_beyond levels zero count none = refl
level_beyond levels (suc n) count none = sym (get_or-eq_default levels 0 (elim (cases_lt n 64) [
  | inl lt ↦ absurd (none (omega (arith, lt), omega (arith, lt)))
  | inr ge ↦ omega (arith, ge, count)
]))

-- threads that stand once in a list are 64 at most
pub few_threads : (ts : List ℕ) → IsOrder ts → length ts < 65
few_threads [] order = omega arith
few_threads (t ∷ ts) order = let few = room ts t order.3 order.0 order.1 order.2 in omega (arith, few)

or_true : (a b : Bool) → b ≡ true → a || b ≡ true
or_true true b h = refl
or_true false b h = h

-- a thread in its place, where the keys of all members agree
insert_agree : (f g : ℕ → ℕ) (t : ℕ) (us : List ℕ) → f t ≡ g t → ((u : ℕ) → is_in u us ≡ true → f u ≡ g u) → insert f t us ≡ insert g t us
insert_agree f g t [] same each = refl
insert_agree f g t (u ∷ us) same each =
    (λ i. if nat_le (each u (ap (λ b. b || is_in u us) (eq-eqb u u refl)) i) (same i) then t ∷ u ∷ us else u ∷ insert f t us)
    ∙ ap (λ (rest : List ℕ). if nat_le (g u) (g t) then t ∷ u ∷ us else u ∷ rest) (insert_agree f g t us same (λ v h. each v (or_true (eqb v u) (is_in v us) h)))

pub in_order_agree : (f g : ℕ → ℕ) (ts : List ℕ) → ((u : ℕ) → is_in u ts ≡ true → f u ≡ g u) → in_order f ts ≡ in_order g ts
in_order_agree f g [] each = refl
in_order_agree f g (t ∷ ts) each =
    let later : (u : ℕ) → is_in u ts ≡ true → f u ≡ g u = λ u h. each u (or_true (eqb u t) (is_in u ts) h) in
    insert_agree f g t (in_order f ts) (each t (ap (λ b. b || is_in t ts) (eq-eqb t t refl))) (λ u h. later u (sym (in_order_is_in f u ts) ∙ h))
    ∙ ap (insert g t) (in_order_agree f g ts later)

-- what still follows of an insertion, where the new member stands already or not
abbrev pub to_follow : Bool → (ℕ → ℕ) → ℕ → List ℕ → List ℕ
to_follow stands key t us = if stands then us else insert key t us
