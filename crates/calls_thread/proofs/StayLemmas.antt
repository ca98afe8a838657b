-- Who is still there after a small change.
use Rattle.std.proofs.Common.{◌≡◌, ◌≢◌, ◌∙◌, ap, sym, subst, inl, inr, refl, ℕ, true, false, not, Some}
use Rattle.std.proofs.lemmas.Bool.{cases_eq}
use Rattle.thread_base.specs.Maps.{put}
use Rattle.thread_base.proofs.MapLemmas.{put_same, put_other}
use Rattle.thread_base.specs.Orders.{is_in}
use Rattle.thread_base.specs.Priority.{tids}
use Rattle.thread_base.specs.declared.Policy.{Policy}
use Rattle.thread_base.proofs.SearchLemmas.{find_passes}
use Rattle.posix_model.specs.State.{State, Thread, Standing, Absent, Ready, Waits, Ended, is_absent, is_ready, is_live}
use Rattle.posix_model.specs.Good.{IsGood}
use Rattle.posix_model.specs.Changes.{Outcome, to_end, with_schedule, rescheduled, append, set_thread}
use Rattle.posix_model.specs.Threads.{exists, free_number}
use Rattle.kernel_state.specs.Changing.{Can, CanThread}
use Rattle.kernel_state.specs.declared.change.Change.{Change}
use Rattle.kernel_state.specs.declared.change.Change.TheVariants.{Thread as OfThread}
use Rattle.kernel_state.specs.declared.change.ThreadChange.TheVariants.{Reply, Schedule}

-- a thread whose record is not that of none is there
there_put : (m : ℕ → Thread) (t : ℕ) (thread : Thread) → not (is_absent thread.standing) ≡ true → not (is_absent (put m t thread t).standing) ≡ true
there_put m t thread h = ap (λ (x : Thread). not (is_absent x.standing)) (put_same m t thread) ∙ h

-- another thread is there where it was
there_besides : (m : ℕ → Thread) (t u : ℕ) (thread : Thread) → t ≢ u → not (is_absent (m t).standing) ≡ true → not (is_absent (put m u thread t).standing) ≡ true
there_besides m t u thread ne h = ap (λ (x : Thread). not (is_absent x.standing)) (put_other m u thread t ne) ∙ h

pub there_to_end : (s : State) (t : ℕ) → exists s t ≡ true → exists (to_end s t) t ≡ true
there_to_end s t h = there_put s.threads t (record (s.threads t) { used = 0 }) h

pub there_append : (s : State) (t u : ℕ) (thread : Thread) → exists s t ≡ true → exists (append s u thread) t ≡ true
there_append s t u thread h =
    elim (cases_eq t u) [
      | inl same ↦ subst (λ v. exists (append s u thread) v ≡ true) (sym same) (there_put s.threads u _ refl)
      | inr other ↦ there_besides s.threads t u _ other h
    ]

pub there_set : (s : State) (t u : ℕ) (thread : Thread) → t ≢ u → exists s t ≡ true → exists (set_thread s u thread) t ≡ true
there_set s t u thread ne h = there_besides s.threads t u thread ne h

pub there_detached : (s : State) (t u : ℕ) → exists s t ≡ true → exists (set_thread s u (record (s.threads u) { detached = true })) t ≡ true
there_detached s t u h =
    elim (cases_eq t u) [
      | inl same ↦ subst (λ v. exists (set_thread s u (record (s.threads u) { detached = true })) v ≡ true) (sym same)
          (there_put s.threads u (record (s.threads u) { detached = true }) (subst (λ v. exists s v ≡ true) same h))
      | inr other ↦ there_besides s.threads t u _ other h
    ]

pub there_scheduled : (s : State) (t u : ℕ) (policy : Policy) (base : ℕ) → exists s t ≡ true → exists (rescheduled s u policy base) t ≡ true
there_scheduled s t u policy base h =
    let thread = with_schedule (s.threads u) policy base in
    elim (cases_eq t u) [
      | inl same ↦ subst (λ v. exists (rescheduled s u policy base) v ≡ true) (sym same) (there_put s.threads u thread (subst (λ v. exists s v ≡ true) same h))
      | inr other ↦ there_besides s.threads t u thread other h
    ]

live_there : (st : Standing) → is_live st ≡ true → not (is_absent st) ≡ true
live_there Absent h = let e : false ≡ true = h in cc
live_there Ready h = refl
live_there (Waits wait) h = refl
live_there (Ended value) h = refl

-- the priority of a thread that has not ended can be set
pub can_schedule : (s : State) (u : ℕ) (policy : Policy) (base : ℕ) → IsGood s → is_live (s.threads u).standing ≡ true → CanThread (Schedule policy base) u s
can_schedule s u policy base good live = (live_there (s.threads u).standing live, good.ready.listed u)

absent_idle : (st : Standing) → is_absent st ≡ true → is_ready st ≡ false
absent_idle Absent h = refl
absent_idle Ready h = let e : false ≡ true = h in cc
absent_idle (Waits wait) h = refl
absent_idle (Ended value) h = refl

-- a number that is free is not ready
pub free_away : (s : State) (u : ℕ) → IsGood s → free_number s ≡ Some u → is_in u s.ready ≡ false
free_away s u good e =
    good.ready.listed u ∙ absent_idle (s.threads u).standing (find_passes (λ t. is_absent (s.threads t).standing) tids u e)

-- a thread that is ready and one that has ended are two
pub ended_apart : (s : State) (t u : ℕ) → is_ready (s.threads t).standing ≡ true → is_ready (s.threads u).standing ≡ false → t ≢ u
ended_apart s t u h k e = let f : true ≡ false = sym h ∙ ap (λ v. is_ready (s.threads v).standing) e ∙ k in absurd (let x : false ≡ true = sym f in cc)

-- a caller that is there can be answered
pub can_reply : (x : Change) (t error value : ℕ) (g : Outcome) → x ≡ OfThread t (Reply error value) → exists g.state t ≡ true → Can x g
can_reply x t error value g same h = subst (λ y. Can y g) (sym same) h
