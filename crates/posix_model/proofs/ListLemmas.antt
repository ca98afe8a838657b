-- Maps and lists of threads after the change of one thread.
use Rattle.std.proofs.Common.{◌≡◌, ◌≢◌, ◌∙◌, ap, sym, refl, subst, inl, inr, ℕ, zero, suc, ◌+◌, ◌≤◌, Bool, true, false, ◌&&◌, eqb, List, [], ◌∷◌, arith}
use Rattle.std.specs.Prelude.{filter}
use Rattle.std.specs.List.{range_with_len}
use Rattle.std.proofs.Math.Bool.{and-false}
use Rattle.std.proofs.lemmas.Bool.{cases_eq, cases_Bool, eqb-true, false_from_ne_true}
use Rattle.thread_base.specs.Maps.{put}
use Rattle.thread_base.specs.Objects.{appended}
use Rattle.thread_base.specs.Orders.{is_in, without, IsOrder}
use Rattle.thread_base.specs.Priority.{tids}
use Rattle.thread_base.proofs.MapLemmas.{put_same, put_other, kept}
use Rattle.thread_base.proofs.OrderLemmas.{not_in-without, is_in-without, is_in-push, is_in-pushed}
use Rattle.thread_base.proofs.SearchLemmas.{range_in}

-- what holds of each entry of a map holds after a change of one
pub each_put : {A : Type 0} (P : ℕ → A → Type 0) (f : ℕ → A) (t : ℕ) (x : A) → P t x → ((u : ℕ) → u ≢ t → P u (f u)) → (u : ℕ) → P u (put f t x u)
each_put P f t x here there u =
    elim (cases_eq u t) [
      | inl same ↦ subst (λ v. P v (put f t x v)) (sym same) (subst (P t) (sym (put_same f t x)) here)
      | inr other ↦ subst (P u) (sym (put_other f t x u other)) (there u other)
    ]

-- a list has each thread that passes a test, and one thread changes: it passes as before, from now on or no more
module _ {A : Type 0} (test : A → Bool) (standing : ℕ → A) (t : ℕ) (st : A) (ts : List ℕ) (listed : (u : ℕ) → is_in u ts ≡ test (standing u)) where
  pub listed_on : test st ≡ test (standing t) → (u : ℕ) → is_in u ts ≡ test (put standing t st u)
  listed_on same u = listed u ∙ sym (kept test standing t u st same)

  pub listed_appended : test st ≡ true → (u : ℕ) → is_in u (appended t ts) ≡ test (put standing t st u)
  listed_appended passes = each_put (λ u x. is_in u (appended t ts) ≡ test x) standing t st (is_in-pushed t ts ∙ sym passes) (λ u ne. is_in-push t u ts ne ∙ listed u)

  pub listed_without : test st ≡ false → (u : ℕ) → is_in u (without t ts) ≡ test (put standing t st u)
  listed_without fails = each_put (λ u x. is_in u (without t ts) ≡ test x) standing t st (not_in-without t ts ∙ sym fails) (λ u ne. is_in-without t u ts ne ∙ listed u)

-- a filtered list has who passes and was there
pub is_in_filter : (p : ℕ → Bool) (u : ℕ) (ts : List ℕ) → is_in u (filter p ts) ≡ p u && is_in u ts
is_in_filter p u [] = sym (and-false (p u))
is_in_filter p u (t ∷ ts) =
    elim (cases_Bool (p t)) [
      | inl passes ↦
          rw passes
          (elim (cases_Bool (eqb u t)) [
            | inl same ↦ (let own : p u ≡ true = ap p (eqb-true u t same) ∙ passes in rw same (rw own refl))
            | inr other ↦ (let rest = is_in_filter p u ts in rw other rest)
          ])
      | inr fails ↦
          rw fails
          (elim (cases_Bool (eqb u t)) [
            | inl same ↦
                (let own : p u ≡ false = ap p (eqb-true u t same) ∙ fails in
                is_in_filter p u ts ∙ ap (λ b. b && is_in u ts) own ∙ sym (ap (λ b. b && is_in u (t ∷ ts)) own))
            | inr other ↦ (let rest = is_in_filter p u ts in rw other rest)
          ])
    ]

-- the numbers of threads are in order
IsOrder-range : (first count : ℕ) → 1 ≤ first → first + count ≤ 65 → IsOrder (range_with_len first count)
IsOrder-range first zero low high = tt
IsOrder-range first (suc count) low high =
    let apart = false_from_ne_true _ (λ h. let r = range_in (first + 1) count first h in omega (arith, r.0)) in
    (low, omega (arith, high), apart, IsOrder-range (first + 1) count (omega arith) (omega (arith, high)))

pub IsOrder-tids : IsOrder tids
unfolding tids
IsOrder-tids = IsOrder-range 1 64 (omega arith) (omega arith)
