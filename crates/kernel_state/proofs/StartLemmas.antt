-- The tables at the start of a run.
use Rattle.std.proofs.Common.{◌≡◌, ◌∙◌, ap, sym, refl, arith, ℕ, true, false, not, List, [], ◌∷◌, length, None}
use Rattle.thread_base.specs.Maps.{put}
use Rattle.thread_base.specs.Orders.{is_in}
use Rattle.thread_base.proofs.MapLemmas.{put_same, at_same}
use Rattle.cond_table.specs.ConditionMap.{conditions as condition_map}
use Rattle.mutex_table.specs.MutexMap.{mutexes as mutex_map}
use Rattle.posix_model.specs.State.{State, Thread, is_absent, is_ready, no_thread, none_pending, default_actions}
use Rattle.posix_model.specs.Start.{start_state, start_registers, main_thread}
use Rattle.kernel_state.specs.Records.{threads_in, pending_in, actions_in, first_threads}
use Rattle.kernel_state.specs.View.{unkept, view, AreCurrent}
use Rattle.thread_base.specs.Deliveries.{signals}
use Rattle.thread_base.specs.Priority.{tids}
use Rattle.posix_model.specs.Weights.{pending_in_all}
use Rattle.kernel_state.specs.Begun.{HasRoom}
use Rattle.kernel_state.specs.Changing.{IsListed}
use Rattle.kernel_state.specs.declared.tables.Tables.{Tables}
use Rattle.kernel_state.proofs.CurrentLemmas.{come_current}

module _ {R : Type 0} (order : R → List ℕ) where
  pub view_start : (k : Tables R) (memory : List ℕ) (entry : ℕ) → threads_in k.records ≡ first_threads (start_registers (length memory) entry) → pending_in k.records ≡ none_pending
      → actions_in k.records ≡ default_actions → order k.ready ≡ 1 ∷ [] → mutex_map k.mutexes ≡ (λ m. None) → condition_map k.conditions ≡ (λ c. None) → k.ticks ≡ 0 → k.alarm ≡ None → k.memory ≡ memory → k.over ≡ None
      → view order k ≡ start_state memory entry
  unfolding view
  view_start k memory entry a b c d h n w l f g = λ i. record unkept {
    threads = a i;
    ready = d i;
    mutexes = h i;
    conditions = n i;
    actions = c i;
    pending = b i;
    now = w i;
    alarm = l i;
    memory = f i;
    over = g i;
  }

-- nobody is ready
no_one : (p : ℕ → ℕ) (s : State) → s.ready ≡ [] → AreCurrent p s
unfolding AreCurrent
no_one p s none u h = absurd (let e : false ≡ true = sym (ap (is_in u) none) ∙ h in cc)

-- thread 1 comes with its priority
pub start_current : (p : ℕ → ℕ) (memory : List ℕ) (entry : ℕ) → AreCurrent (put p 1 8) (start_state memory entry)
start_current p memory entry =
    let nobody : State = record (start_state memory entry) { ready = [] } in
    come_current nobody 1 8 p (put p 1 8) (omega arith) (omega arith)
    (sym (at_same (λ (x : Thread). x.base) (λ t. no_thread) 1 1 (main_thread (length memory) entry) refl)) refl (no_one p nobody refl)

-- at the start thread 1 is ready
pub start_listed : (memory : List ℕ) (entry : ℕ) → IsListed (start_state memory entry) 1
start_listed memory entry =
    let here = put_same (λ t. no_thread) 1 (main_thread (length memory) entry) in
    (ap (λ (x : Thread). not (is_absent x.standing)) here, refl, ap (λ (x : Thread). is_ready x.standing) here)

-- nothing pends at the start, and no tick has come
pub start_room : (memory : List ℕ) (entry : ℕ) → HasRoom (start_state memory entry)
unfolding pending_in_all signals tids
start_room memory entry = record { pends = omega arith; time = omega arith }
