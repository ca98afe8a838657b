-- What a thread's standing says of what it waits for.
use Rattle.std.proofs.Common.{◌≡◌, ◌∙◌, ap, sym, refl, subst, ℕ, ◌+◌, ◌^◌, ◌<◌, Bool, true, false, arith, Option, Some, None}
use Rattle.std.specs.Prelude.{is_some}
use Rattle.std.specs.Option.{ForSome}
use Rattle.std.proofs.lemmas.Bool.{eqb-true, leb-false}
pub use Rattle.thread_base.proofs.MapLemmas.{at_same, at_other, kept}
use Rattle.posix_model.specs.State.{Standing, Absent, Ready, Waits, Ended, Target, Nothing, EndOf, MutexAt, ConditionAt, ASignal, ATime, Input, target, wait_of, is_target, is_absent, is_ready, is_live, joins, wants, waits_on, mutex_with, count_due, deadline_by, set_at}
use Rattle.posix_model.specs.Arrivals.{has_come}
use Rattle.posix_model.specs.Good.{IsCount, IsSoundWait}
use Rattle.posix_model.specs.declared.Wait.TheVariants.{Cond}

pub never : (b : Bool) → b ≡ true → b ≡ false → ⊥
never b h k = let e : true ≡ false = sym h ∙ k in absurd (cc)

pub is_none : {A : Type 0} (o : Option A) → is_some o ≡ false → o ≡ None
is_none None h = refl
is_none (Some x) h = absurd (never true refl h)

pub ready_is : (st : Standing) → is_ready st ≡ true → st ≡ Ready
ready_is Ready h = refl
ready_is st h = absurd (never false h refl)

pub absent_is : (st : Standing) → is_absent st ≡ true → st ≡ Absent
absent_is Absent h = refl
absent_is st h = absurd (never false h refl)

pub ready_live : (st : Standing) → is_ready st ≡ true → (is_absent st ≡ false) × (is_live st ≡ true)
ready_live st h = let e = ready_is st h in (ap is_absent e, ap is_live e)

-- who can run waits for nothing
pub ready_target : (st : Standing) → is_ready st ≡ true → target st ≡ Nothing
ready_target st h = ap target (ready_is st h)

-- to wait for something is to have that target, and no other
pub target_is : (a b : Target) → is_target a b ≡ true → b ≡ a
target_is (EndOf t) (EndOf u) h = ap EndOf (eqb-true u t h)
target_is (MutexAt m) (MutexAt k) h = ap MutexAt (eqb-true k m h)
target_is (ConditionAt c) (ConditionAt d) h = ap ConditionAt (eqb-true d c h)
target_is a b h = absurd (never false h refl)

for_nothing : (a : Target) → is_target a Nothing ≡ false
for_nothing Nothing = refl
for_nothing (EndOf t) = refl
for_nothing (MutexAt m) = refl
for_nothing (ConditionAt c) = refl
for_nothing (ASignal set) = refl
for_nothing (ATime until) = refl
for_nothing (Input buffer size) = refl

-- who waits for something is there, and neither is ready nor has ended
pub waiting : (a : Target) (st : Standing) → is_target a (target st) ≡ true → (is_ready st ≡ false) × (is_absent st ≡ false) × (is_live st ≡ true)
waiting a (Waits wait) h = (refl, refl, refl)
waiting a st h = absurd (never (is_target a Nothing) h (for_nothing a))

-- it is a target, and not nothing
abbrev pub is_something : Target → Bool
is_something Nothing = false
is_something a = true

pub aiming : (st : Standing) → is_something (target st) ≡ true → (is_ready st ≡ false) × (is_absent st ≡ false) × (is_live st ≡ true)
aiming (Waits wait) h = (refl, refl, refl)
aiming st h = absurd (never false h refl)

pub joins_waits : (u : ℕ) (st : Standing) → joins u st ≡ true → (is_ready st ≡ false) × (is_absent st ≡ false) × (is_live st ≡ true)
joins_waits u st h = waiting (EndOf u) st h

pub wants_waits : (m : ℕ) (st : Standing) → wants m st ≡ true → (is_ready st ≡ false) × (is_absent st ≡ false) × (is_live st ≡ true)
wants_waits m st h = waiting (MutexAt m) st h

pub ready_wants : (m : ℕ) (st : Standing) → is_ready st ≡ true → wants m st ≡ false
ready_wants m st h = ap (is_target (MutexAt m)) (ready_target st h)

pub ready_waits_on : (c : ℕ) (st : Standing) → is_ready st ≡ true → waits_on c st ≡ false
ready_waits_on c st h = ap (is_target (ConditionAt c)) (ready_target st h)

-- who waits for a condition waits with a mutex
pub waits_with : (c : ℕ) (st : Standing) → waits_on c st ≡ true → is_some (mutex_with st) ≡ true
waits_with c (Waits (Cond d m deadline count)) h = refl
waits_with c st h = absurd (never false h refl)

-- a thread may have a mutex once
pub once : IsCount 1
once = (omega arith, omega arith)

pub for_none : (o : Option ℕ) (P : ℕ → Type 0) → o ≡ None → ForSome o P
for_none o P none x e = absurd (let f : None ≡ Some x = sym none ∙ e in cc)

pub for_some : (n : ℕ) (P : ℕ → Type 0) → P n → ForSome (Some n) P
for_some n P h x e = subst P (let same : n ≡ x = cc in same) h

-- a time that has not come is later
pub is_later : (now : ℕ) (o : Option ℕ) → has_come now o ≡ false → ForSome o (λ until. now < until)
is_later now o h until e = leb-false until now (sym (ap (has_come now) e) ∙ h)

-- what a thread waits for without a time and without a set of signals is sound, where the count is
pub steady : (now : ℕ) (st : Standing) → IsCount (count_due st) → deadline_by (wait_of st) ≡ None → set_at (target st) ≡ None → IsSoundWait now st
steady now st many timeless setless = record {
  count = many;
  later = for_none (deadline_by (wait_of st)) (λ until. now < until) timeless;
  soon = for_none (deadline_by (wait_of st)) (λ until. until < now + 2 ^ 32) timeless;
  some = for_none (set_at (target st)) (λ set. 0 < set) setless;
}

-- who can run waits for nothing, and so does who is not there
pub ready_wait : (now : ℕ) → IsSoundWait now Ready
ready_wait now = steady now Ready once refl refl

pub absent_wait : (now : ℕ) → IsSoundWait now Absent
absent_wait now = steady now Absent once refl refl

-- who is not there any more waits for nothing and cannot run
pub dead : (st : Standing) → is_live st ≡ false → (target st ≡ Nothing) × (is_ready st ≡ false) × ((now : ℕ) → IsSoundWait now st)
dead Absent h = (refl, refl, absent_wait)
dead (Ended value) h = (refl, refl, λ now. steady now (Ended value) once refl refl)
dead st h = absurd (never true refl h)
