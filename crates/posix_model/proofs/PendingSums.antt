-- How many more signals pend after an instruction, a delivery and an arrival, and by how much the time goes on.
use Rattle.std.proofs.Common.{◌∙◌, refl, ap, arith, ℕ, ◌+◌, true, false, ◌&&◌, List, [], ◌∷◌, length, min, Option, Some, None}
use Rattle.std.specs.Prelude.{◌==◌, not, nat_le}
use Rattle.thread_base.specs.Actions.{ignores}
use Rattle.thread_base.specs.Deliveries.{waits_for}
use Rattle.thread_base.specs.Numbers.{IsInScope}
use Rattle.thread_base.specs.declared.action.Action.{Action}
use Rattle.thread_base.specs.declared.action.Action.TheVariants.{Default, Ignore, Handler as OfHandler}
use Rattle.rv_exec.specs.Meaning.{Effect, Goes, Calls, Faults, Returns, effect}
use Rattle.rv_exec.specs.declared.Special.{Special}
use Rattle.rv_exec.specs.declared.Special.TheVariants.{Handler, Cleanup, Start}
use Rattle.posix_model.specs.State.{State, Thread, Frame, Key, Phase, Normal, Leaving, Target, Nothing, MutexAt, ConditionAt, ATime, Input, target, is_of_handler}
use Rattle.posix_model.specs.Changes.{Outcome, begun, answer, to_end, set_thread}
use Rattle.posix_model.specs.Conditions.{wake}
use Rattle.posix_model.specs.Scheduling.{chosen}
use Rattle.posix_model.specs.Threads.{joiner, some_live}
use Rattle.posix_model.specs.Leaving.{answer_joiner, remains, without_thread, over_with_last, end_with}
use Rattle.posix_model.specs.Exits.{ExitAction, RunCleanup, Destroy, Finish, exit_action, destroy_in, acted}
use Rattle.posix_model.specs.Calls.{call_number, arguments}
use Rattle.posix_model.specs.Deliveries.{Delivery, Acts, Gives, delivered, given, by_action, handled, wait_ended, unqueued, cancelled, set_pending, pend, killed_by, faulted, told, awaited, is_free_for}
use Rattle.posix_model.specs.Arrivals.{arrive_signal, read_into, charge, charge_to, has_turn, has_come, timed_out, expired, expire_at, expire_all, ring, tick, serve_at, serve_all, answer_all}
use Rattle.posix_model.specs.Instructions.{by_effect, instruction, handler_returned, cleanup_returned, start_returned, returned, segmentation_fault, told_return}
use Rattle.posix_model.specs.Weights.{PendsInScope}
use Rattle.posix_model.specs.declared.Ending.TheVariants.{Exit}
use Rattle.posix_model.specs.declared.Head.TheVariants.{Accept}
use Rattle.posix_model.specs.declared.RetakeReply.TheVariants.{Answer, Cancel}
use Rattle.posix_model.proofs.PendingLemmas.{either, Stays, calm_wake}
use Rattle.posix_model.proofs.PendingCalls.{adds_come, adds_call}
use Rattle.posix_model.proofs.FaultSignals.{FaultsInScope, faults_in_scope}
use Rattle.posix_model.proofs.NextLemmas.{some_pend}
use Rattle.posix_model.proofs.Weights.{IsDue, signal_range, due_place}
use Rattle.posix_model.proofs.PendingCounts.{Adds, adds_stays, adds_after, adds_pend, adds_cleared, sum_taken, scope_taken}

-- ---- an instruction

-- a fault adds one
adds_faulted : (s : State) (t sig : ℕ) → IsInScope sig → Adds s (faulted s t sig).state 1 0
adds_faulted s t sig in_scope =
    either (λ (g : Outcome). Adds s g.state 1 0) (is_free_for s t sig && not (ignores (s.actions sig) sig)) (begun (pend s t sig 1)) (killed_by sig 1 (begun s))
    (adds_pend s t sig 1 in_scope) (adds_stays s (killed_by sig 1 (begun s)).state 1 0 refl)

-- the end of a thread
stays_joiner : (s : State) (value : ℕ) (o : Option ℕ) → Stays s (answer_joiner (begun s) value o).state
stays_joiner s value None = refl
stays_joiner s value (Some u) = refl

stays_over : (s : State) → Stays s (over_with_last s)
stays_over s = either (Stays s) (some_live s) s (record s { over = Some (Exit 0) }) refl refl

adds_without : (s : State) (t : ℕ) (left : Thread) → Adds s (over_with_last (without_thread s t left)) 1 0
adds_without s t left =
    let stays = stays_over (without_thread s t left) in
    adds_cleared s (over_with_last (without_thread s t left)) t 1 0 (ap (λ (p : (ℕ → ℕ → ℕ) × ℕ). p.0) stays) (ap (λ (p : (ℕ → ℕ → ℕ) × ℕ). p.1) stays)

adds_end : (s : State) (t value : ℕ) (o : Option ℕ) → Adds s (end_with s t value o).state 1 0
adds_end s t value o =
    let answered : State = (answer_joiner (begun s) value o).state in
    adds_after s answered (end_with s t value o).state 1 0 (stays_joiner s value o) (adds_without answered t (remains (s.threads t) value o))

-- the actions of an exit
stays_destroy : (s : State) (t value k rounds : ℕ) (o : Option Key) → Stays s (destroy_in s t value k rounds o)
stays_destroy s t value k rounds None = refl
stays_destroy s t value k rounds (Some key) = refl

adds_acted : (s : State) (t value : ℕ) (action : ExitAction) → Adds s (acted s t value action).state 1 0
adds_acted s t value (RunCleanup cleanup others) = adds_stays s (acted s t value (RunCleanup cleanup others)).state 1 0 refl
adds_acted s t value (Destroy k rounds) = adds_stays s (acted s t value (Destroy k rounds)).state 1 0 (stays_destroy s t value k rounds (s.keys k))
adds_acted s t value Finish = adds_end s t value (joiner s t)

-- special returns
module _ (s : State) (t : ℕ) where
  not_due : Adds s (faulted s t segmentation_fault).state 1 0
  not_due = adds_faulted s t segmentation_fault refl

  adds_handler : (frames : List Frame) → Adds s (handler_returned s t frames).state 1 0
  adds_handler [] = not_due
  adds_handler (frame ∷ frames) =
      let before : Outcome = told_return t Handler (begun (set_thread s t (record (s.threads t) { registers = frame.registers; mask = frame.mask; frames = frames }))) in
      either (λ (g : Outcome). Adds s g.state 1 0) (is_of_handler frame.kind) before (faulted s t segmentation_fault) (adds_stays s before.state 1 0 refl) not_due

  adds_cleanup : (frames : List Frame) (phase : Phase) → Adds s (cleanup_returned s t frames phase).state 1 0
  adds_cleanup [] Normal = not_due
  adds_cleanup [] (Leaving value rounds next) = adds_acted s t value (exit_action s t (s.threads t).cleanups rounds next)
  adds_cleanup (frame ∷ frames) phase =
      let before : Outcome = told_return t Cleanup (begun (set_thread s t (record (s.threads t) { registers = frame.registers; frames = frames }))) in
      either (λ (g : Outcome). Adds s g.state 1 0) (is_of_handler frame.kind) (faulted s t segmentation_fault) before not_due (adds_stays s before.state 1 0 refl)

  adds_start : (frames : List Frame) (phase : Phase) → Adds s (start_returned s t frames phase).state 1 0
  adds_start [] Normal = adds_stays s (start_returned s t [] Normal).state 1 0 refl
  adds_start [] (Leaving value rounds next) = not_due
  adds_start (frame ∷ frames) phase = not_due

  adds_returned : (which : Special) → Adds s (returned s t which).state 1 0
  adds_returned Handler = adds_handler (s.threads t).frames
  adds_returned Cleanup = adds_cleanup (s.threads t).frames (s.threads t).phase
  adds_returned Start = adds_start (s.threads t).frames (s.threads t).phase

  adds_effect : (e : Effect) → FaultsInScope e → Adds s (by_effect s t e).state 1 0
  adds_effect (Goes pc x memory) scope = adds_stays s (by_effect s t (Goes pc x memory)).state 1 0 refl
  adds_effect Calls scope =
      let called = adds_call s t (call_number (s.threads t).registers) (arguments (s.threads t).registers) in
      record { sum = called.sum; time = called.time; scope = called.scope }
  adds_effect (Faults sig) scope = adds_faulted s t sig scope
  adds_effect (Returns which) scope = adds_returned which

  -- an instruction adds one at most
  pub adds_instruction : Adds s (instruction s t).state 1 0
  unfolding instruction
  adds_instruction =
      adds_effect (effect (s.threads t).registers.pc (s.threads t).registers.x s.memory) (faults_in_scope (s.threads t).registers.pc (s.threads t).registers.x s.memory)

-- ---- a delivery

stays_unqueued : (s : State) (t : ℕ) (a : Target) → Stays s (unqueued s t a)
stays_unqueued s t (MutexAt m) = refl
stays_unqueued s t a = refl

stays_cancelled : (s : State) (t : ℕ) (a : Target) → Stays s (cancelled s t a).state
stays_cancelled s t Nothing = refl
stays_cancelled s t (ConditionAt c) =
    calm_wake (begun (set_thread s t (record (s.threads t) { cancellation = record (s.threads t).cancellation { enabled = false; pending = false } }))) t Cancel
stays_cancelled s t a = stays_unqueued s t a

stays_ended : (g : Outcome) (t : ℕ) (a : Target) → Stays g.state (wait_ended g t a).state
stays_ended g t Nothing = refl
stays_ended g t (ATime until) = refl
stays_ended g t (Input buffer size) = refl
stays_ended g t a = stays_unqueued g.state t (target (g.state.threads t).standing)

-- a signal in scope that is given to a thread may pend on it with its whole count
module _ (s : State) (t sig count : ℕ) (in_scope : IsInScope sig) where
  adds_handled : (at mask : ℕ) (a : Target) → Adds s (handled s t sig count at mask a).state count 0
  adds_handled at mask (ConditionAt c) =
      let woken : Outcome = wake (begun s) t (Answer 0) in
      adds_after s woken.state (pend woken.state t sig count) count 0 (calm_wake (begun s) t (Answer 0)) (adds_pend woken.state t sig count in_scope)
  adds_handled at mask a = adds_stays s (handled s t sig count at mask a).state count 0 (stays_ended (begun s) t a)

  adds_action : (action : Action) → Adds s (by_action s t sig count action).state count 0
  adds_action Default = adds_stays s (by_action s t sig count Default).state count 0 refl
  adds_action Ignore = adds_stays s s count 0 refl
  adds_action (OfHandler at mask) = adds_handled at mask (target (s.threads t).standing)

  adds_given : Adds s (given s t sig count).state count 0
  adds_given =
      let accepted : Outcome = told t (Accept t sig count) (answer (begun s) t 0 sig) in
      either (λ (g : Outcome). Adds s g.state count 0) (waits_for (awaited s t) sig) accepted (by_action s t sig count (s.actions sig))
      (adds_stays s accepted.state count 0 refl) (adds_action (s.actions sig))

-- a delivery adds nothing
pub adds_delivered : (s : State) (d : Delivery) → PendsInScope s → IsDue s d → Adds s (delivered s (Some d)).state 0 0
adds_delivered s (Acts t) scope due = adds_stays s (delivered s (Some (Acts t))).state 0 0 (stays_cancelled s t (target (s.threads t).standing))
adds_delivered s (Gives t sig place) scope due =
    let number = signal_range sig due.2 in
    let count = s.pending place sig in
    let in_scope = scope place sig (some_pend (s.pending place sig) due.0) in
    let taken = sum_taken s place sig number.0 number.1 (due_place t place due.1 due.3) in
    let given = adds_given (set_pending s place sig 0) t sig count in_scope in
    let more = given.sum in
    record { sum = omega (arith, taken, more); time = given.time; scope = λ scope. given.scope (scope_taken s place sig scope) }

-- ---- an arrival

-- a tick
stays_charge_to : (quantum : ℕ) (s : State) (t : ℕ) → Stays s (charge_to quantum s t)
stays_charge_to quantum s t =
    either (Stays s) (nat_le quantum ((s.threads t).used + 1)) (to_end s t) (set_thread s t (record (s.threads t) { used = (s.threads t).used + 1 })) refl refl

stays_charge : (quantum : ℕ) (s : State) (o : Option ℕ) → Stays s (charge quantum s o)
stays_charge quantum s None = refl
stays_charge quantum s (Some t) = either (Stays s) (has_turn (s.threads t).policy) (charge_to quantum s t) s (stays_charge_to quantum s t) refl

stays_expire_at : (g : Outcome) (t : ℕ) (a : Target) → Stays g.state (expire_at g t a).state
stays_expire_at g t (ConditionAt c) = calm_wake g t (Answer timed_out)
stays_expire_at g t (ATime until) = refl
stays_expire_at g t a = refl

stays_expire_all : (g : Outcome) (ts : List ℕ) → Stays g.state (expire_all g ts).state
stays_expire_all g [] = refl
stays_expire_all g (t ∷ ts) =
    let a = target (g.state.threads t).standing in stays_expire_all (expire_at g t a) ts ∙ stays_expire_at g t a

adds_ring : (g : Outcome) → Adds g.state (ring g).state 1 0
adds_ring g =
    let rung : Outcome = record { state = record g.state { alarm = None }; report = record g.report { alarm = true } } in
    either (λ (o : Outcome). Adds g.state o.state 1 0) (has_come g.state.now g.state.alarm) (arrive_signal rung 14 1) g
    (adds_after g.state rung.state (arrive_signal rung 14 1).state 1 0 refl (adds_come rung 0 14 1 refl)) (adds_stays g.state g.state 1 0 refl)

-- it adds one at most, the signal of the alarm
pub adds_tick : (quantum : ℕ) (s : State) → Adds s (tick quantum (begun s)).state 1 1
adds_tick quantum s =
    let later : State = record s { now = s.now + 1 } in
    let charged : State = charge quantum later (chosen s) in
    let g : Outcome = record (begun s) { state = charged } in
    let calm : Outcome = expire_all g (expired charged) in
    let rung = adds_after later calm.state (ring calm).state 1 0 (stays_expire_all g (expired charged) ∙ stays_charge quantum later (chosen s)) (adds_ring calm) in
    let time = rung.time in
    record { sum = rung.sum; time = omega (arith, time); scope = rung.scope }

-- input and its end
stays_serve_at : (g : Outcome) (t : ℕ) (a : Target) → Stays g.state (serve_at g t a).state
stays_serve_at g t (Input buffer size) =
    either (λ (o : Outcome). Stays g.state o.state) (length g.state.input == 0) g (read_into g t buffer (min size (length g.state.input))) refl refl
stays_serve_at g t a = refl

pub stays_serve_all : (g : Outcome) (ts : List ℕ) → Stays g.state (serve_all g ts).state
stays_serve_all g [] = refl
stays_serve_all g (t ∷ ts) =
    let a = target (g.state.threads t).standing in stays_serve_all (serve_at g t a) ts ∙ stays_serve_at g t a

pub stays_answer_all : (g : Outcome) (ts : List ℕ) → Stays g.state (answer_all g ts).state
stays_answer_all g [] = refl
stays_answer_all g (t ∷ ts) = stays_answer_all (answer g t 0 0) ts
