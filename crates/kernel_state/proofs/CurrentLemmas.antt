-- What keeps the priorities of the ready list those of its threads, and the first of the greatest the chosen thread.
use Rattle.std.proofs.Common.{◌≡◌, ◌≢◌, ◌∙◌, ap, sym, refl, subst, inl, inr, ℕ, ◌≤◌, Bool, true, false, List, [], ◌∷◌, ◌++◌, Some, None, arith}
use Rattle.std.specs.Prelude.{if◌then◌else◌}
use Rattle.std.proofs.lemmas.Bool.{cases_eq, ne_eqb}
use Rattle.thread_base.specs.Maps.{put}
use Rattle.thread_base.specs.Orders.{is_in, without}
use Rattle.thread_base.specs.Priority.{Leads, here, along, IsEffective, leads, effective, greatest, tids, first_greatest}
use Rattle.thread_base.proofs.MapLemmas.{put_same, put_other, at_same, at_other, kept}
use Rattle.thread_base.proofs.OrderLemmas.{not_in-without, is_in-without, is_in-push, is_in-to_end}
use Rattle.thread_base.proofs.PriorityLemmas.{first_agree}
use Rattle.thread_base.proofs.ReachLemmas.{effective_alone}
use Rattle.posix_model.specs.State.{State, Thread}
use Rattle.posix_model.specs.Scheduling.{own, edge, eff, chosen}
use Rattle.posix_model.specs.Changes.{set_thread}
use Rattle.posix_model.specs.Threads.{some_live}
use Rattle.posix_model.specs.Leaving.{over_with_last}
use Rattle.posix_model.specs.declared.Ending.TheVariants.{Exit}
use Rattle.posix_model.proofs.PriorityLaws.{priority_is_inherited}
use Rattle.kernel_state.specs.View.{AreCurrent, with_ready}

-- without edges a thread has its own priority
no_way : (s : State) (u t : ℕ) → Leads (edge s) u t → u ≡ t
no_way s u t here = refl
no_way s u t (along e l) = absurd (let h : None ≡ Some _ = e in cc)

pub eff_own : (s : State) (t : ℕ) → 1 ≤ t → t ≤ 64 → eff s t ≡ own s t
eff_own s t low high =
    let inherited = priority_is_inherited s t low high in
    let alone : IsEffective (own s) (edge s) t (own s t) = record {
      lender = t;
      within = (low, high);
      leads = here;
      is = refl;
      none_above = λ u a b way. (let e = ap (own s) (no_way s u t way) in omega (arith, e));
    } in
    effective_alone (own s) (edge s) t (eff s t) (own s t) inherited alone

-- who lends a thread its priority is the thread itself
lends : (s : State) (u t : ℕ) → u ≢ t → (if leads (edge s) 64 (Some u) t then own s u else 0) ≡ 0
unfolding leads
lends s u t ne = rw (ne_eqb u t ne) refl

pub eff_same : (s r : State) (t : ℕ) → own r t ≡ own s t → eff r t ≡ eff s t
unfolding eff effective
eff_same s r t e = λ i. greatest (λ u. same u i) tids
  where
    same : (u : ℕ) → (if leads (edge r) 64 (Some u) t then own r u else 0) ≡ (if leads (edge s) 64 (Some u) t then own s u else 0)
    same u =
        elim (cases_eq u t) [
          | inl is ↦ ap (λ n. if leads (edge s) 64 (Some u) t then n else 0) (ap (own r) is ∙ e ∙ ap (own s) (sym is))
          | inr ne ↦ lends r u t ne ∙ sym (lends s u t ne)
        ]

-- each thread of the ready list was there, and has its priority and the kept one as before
pub still_current : (s r : State) (p q : ℕ → ℕ) → ((u : ℕ) → is_in u r.ready ≡ true → (is_in u s.ready ≡ true) × (q u ≡ p u) × (own r u ≡ own s u))
    → AreCurrent p s → AreCurrent q r
unfolding AreCurrent
still_current s r p q each current u h = let was = each u h in was.1 ∙ current u was.0 ∙ sym (eff_same s r u was.2)

-- a thread's record changes and its base priority stays
pub kept_current : (s : State) (t : ℕ) (thread : Thread) (p : ℕ → ℕ) → thread.base ≡ own s t → AreCurrent p s → AreCurrent p (set_thread s t thread)
kept_current s t thread p base =
    still_current s (set_thread s t thread) p p (λ u h. (h, refl, kept (λ (x : Thread). x.base) s.threads t u thread base))

-- the record of a thread that is not ready changes
pub away_current : (s : State) (t : ℕ) (thread : Thread) (p : ℕ → ℕ) → is_in t s.ready ≡ false → AreCurrent p s → AreCurrent p (set_thread s t thread)
away_current s t thread p away =
    still_current s (set_thread s t thread) p p
    (λ u h. (
      h,
      refl,
      at_other (λ (x : Thread). x.base) s.threads t u thread
          (λ same. absurd (let e : false ≡ true = sym away ∙ subst (λ v. is_in v s.ready ≡ true) same h in cc)),
    ))

-- the own priority of a thread that was put
pub base_put : (s r : State) (t : ℕ) (thread : Thread) → r ≡ set_thread s t thread → own r t ≡ thread.base
base_put s r t thread e = ap (λ (x : State). own x t) e ∙ at_same (λ (x : Thread). x.base) s.threads t t thread refl

-- a thread leaves the ready list, or goes to its end
in_list : (t u : ℕ) (ts : List ℕ) → is_in u (without t ts) ≡ true → is_in u ts ≡ true
in_list t u ts h =
    elim (cases_eq u t) [
      | inl same ↦ absurd (let e : false ≡ true = sym (not_in-without t ts) ∙ subst (λ v. is_in v (without t ts) ≡ true) same h in cc)
      | inr other ↦ sym (is_in-without t u ts other) ∙ h
    ]

pub out_current : (s : State) (t : ℕ) (p q : ℕ → ℕ) → q ≡ p → AreCurrent p s → AreCurrent q (with_ready s (without t s.ready))
out_current s t p q e =
    still_current s (with_ready s (without t s.ready)) p q (λ u h. (in_list t u s.ready h, ap (λ (f : ℕ → ℕ). f u) e, refl))

pub last_current : (s : State) (t : ℕ) (p q : ℕ → ℕ) → is_in t s.ready ≡ true → q ≡ p → AreCurrent p s → AreCurrent q (with_ready s (without t s.ready ++ t ∷ []))
last_current s t p q there e =
    still_current s (with_ready s (without t s.ready ++ t ∷ [])) p q (λ u h. (sym (is_in-to_end t u s.ready there) ∙ h, ap (λ (f : ℕ → ℕ). f u) e, refl))

-- a thread comes with its base priority
pub come_current : (s : State) (t base : ℕ) (p q : ℕ → ℕ) → 1 ≤ t → t ≤ 64 → base ≡ own s t → q ≡ put p t base → AreCurrent p s → AreCurrent q (with_ready s (s.ready ++ t ∷ []))
unfolding AreCurrent
come_current s t base p q low high is e current u h =
    elim (cases_eq u t) [
      | inl same ↦
          ap (λ (f : ℕ → ℕ). f u) e ∙ ap (put p t base) same ∙ put_same p t base ∙ is ∙ sym (eff_own s t low high) ∙ ap (eff s) (sym same)
          ∙ sym (eff_same s (with_ready s (s.ready ++ t ∷ [])) u refl)
      | inr other ↦
          ap (λ (f : ℕ → ℕ). f u) e ∙ put_other p t base u other ∙ current u (sym (is_in-push t u s.ready other) ∙ h)
          ∙ sym (eff_same s (with_ready s (s.ready ++ t ∷ [])) u refl)
    ]

-- what is not of the threads or of the ready list does not count
pub alike : (s r : State) (p q : ℕ → ℕ) → r.threads ≡ s.threads → r.ready ≡ s.ready → q ≡ p → AreCurrent p s → AreCurrent q r
alike s r p q threads ready e =
    still_current s r p q (λ u h. (ap (is_in u) (sym ready) ∙ h, ap (λ (f : ℕ → ℕ). f u) e, ap (λ (m : ℕ → Thread). (m u).base) threads))

pub over_current : (s : State) (p : ℕ → ℕ) → AreCurrent p s → AreCurrent p (over_with_last s)
over_current s p current = by (some_live s)
  where
    by : (b : Bool) → AreCurrent p (if b then s else record s { over = Some (Exit 0) })
    by true = current
    by false = alike s (record s { over = Some (Exit 0) }) p p refl refl refl current

-- the first of the greatest kept priority is the chosen thread
pub chosen_is : (s : State) (p : ℕ → ℕ) → AreCurrent p s → first_greatest p s.ready ≡ chosen s
unfolding AreCurrent chosen
chosen_is s p current = first_agree p (eff s) s.ready current

pub moved_current : (p q : ℕ → ℕ) (s r : State) → q ≡ p → r ≡ s → AreCurrent p s → AreCurrent q r
moved_current p q s r e f current = subst (λ x. AreCurrent q x) (sym f) (subst (λ x. AreCurrent x s) (sym e) current)
