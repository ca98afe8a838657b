-- Each move keeps a good state good.
use Rattle.std.proofs.Common.{◌≡◌, ◌≢◌, ◌∙◌, ap, refl, ℕ, ◌+◌, ◌<◌, Bool, true, false, arith, List, [], ◌∷◌, Option, Some, None, length}
use Rattle.std.specs.Prelude.{◌^◌, ◌&&◌, ◌||◌, not, if◌then◌else◌}
use Rattle.std.proofs.lemmas.Bool.{ne_eqb, and_parts}
use Rattle.thread_base.specs.Actions.{ignores}
use Rattle.thread_base.specs.Maps.{put}
use Rattle.thread_base.specs.Numbers.{IsTid}
use Rattle.thread_base.specs.Orders.{is_in}
use Rattle.thread_base.specs.Priority.{tids}
use Rattle.thread_base.proofs.MapLemmas.{at_other}
use Rattle.thread_base.proofs.SearchLemmas.{find_passes}
use Rattle.rv_exec.specs.Meaning.{Effect, Goes, Calls, Faults, Returns, effect}
use Rattle.rv_exec.specs.declared.Special.{Special}
use Rattle.rv_exec.specs.declared.Special.TheVariants.{Handler, Cleanup, Start}
use Rattle.posix_model.specs.State.{State, Thread, Registers, Frame, Key, is_of_handler, Phase, Normal, Leaving, Absent, Ready, Ended, EndOf, is_absent, is_ready, is_live, joins, wants, waits_on, no_thread, no_mutexes}
use Rattle.posix_model.specs.Changes.{begun, set_thread, set_registers, answer, called_at, cleanup_return}
use Rattle.posix_model.specs.Threads.{joiner, some_live}
use Rattle.posix_model.specs.Leaving.{remains, without_thread, over_with_last, end_with}
use Rattle.posix_model.specs.Calls.{call_number, arguments}
use Rattle.posix_model.specs.Deliveries.{is_free_for, pend, killed_by, faulted}
use Rattle.posix_model.specs.Instructions.{by_effect, instruction, handler_returned, cleanup_returned, start_returned, returned, segmentation_fault, told_return, went_on}
use Rattle.posix_model.specs.Exits.{ExitAction, RunCleanup, Destroy, Finish, exit_action, destroy_in, acted}
use Rattle.posix_model.specs.Runs.{Rules, Moment, Allowed, IsRun, moved, after}
use Rattle.posix_model.specs.Journals.{entry_at}
use Rattle.posix_model.specs.Start.{start_state, main_thread}
use Rattle.posix_model.specs.Good.{standings, IsGood, IsSoundWait}
use Rattle.posix_model.specs.Laws.{Goodness, InstructionsKeepGood, DeliveriesKeepGood, ArrivalsKeepGood}
use Rattle.posix_model.specs.declared.Ending.TheVariants.{Exit, Killed}
use Rattle.posix_model.specs.declared.Move.{Move}
use Rattle.posix_model.specs.declared.Move.TheVariants.{Instr, Arrive, Deliver}
use Rattle.posix_model.proofs.StandingLemmas.{never, waiting, for_none, ready_wait, absent_wait}
use Rattle.posix_model.proofs.ListLemmas.{each_put}
use Rattle.posix_model.proofs.MutexLemmas.{mutex_idle}
use Rattle.posix_model.proofs.ConditionLemmas.{condition_idle}
use Rattle.posix_model.proofs.GoodThreads.{good_call}
use Rattle.posix_model.proofs.GoodDeliveries.{good_ending, good_deliver}
use Rattle.posix_model.proofs.GoodArrivals.{good_arrived}
use Rattle.posix_model.proofs.GoodLemmas.{good_alike, good_change, good_set, good_pending, good_answer, good_without, no_joiner, chosen_ready}

-- a signal that is not ignored pends on its thread, or ends the process
good_faulted : (s : State) (t sig : ℕ) → IsGood s → IsGood (faulted s t sig).state
good_faulted s t sig good = by (is_free_for s t sig && not (ignores (s.actions sig) sig)) refl
  where
    by : (b : Bool) → is_free_for s t sig && not (ignores (s.actions sig) sig) ≡ b → IsGood (if b then begun (pend s t sig 1) else killed_by sig 1 (begun s)).state
    by true h =
        let heeded = and_parts (is_free_for s t sig) (not (ignores (s.actions sig) sig)) h in
        good_pending s t sig (s.pending t sig + 1) good (λ ignored. absurd (never (not (ignores (s.actions sig) sig)) heeded.1 (ap not ignored)))
    by false h = good_ending s (Some (Killed sig)) good

good_went_on : (s : State) (t : ℕ) (r : Registers) (memory : List ℕ) → IsGood s → IsGood (went_on s t r memory).state
good_went_on s t r memory good =
    let set = good_set s t (record (s.threads t) { registers = r }) refl refl good in
    good_alike (set_registers s t r) (went_on s t r memory).state refl set set.ready set.joining set.mutexes set.conditions set.waits set.signals

-- the end of the last thread ends the process and changes nothing else
good_over : (s : State) → IsGood s → IsGood (over_with_last s)
good_over s good =
    elim (some_live s) as (λ b. IsGood (if b then s else record s { over = Some (Exit 0) })) [ true ↦ good | false ↦ good_ending s (Some (Exit 0)) good ]

-- what is left of a thread is not live
remains_dead : (thread : Thread) (value : ℕ) → is_live (remains thread value None).standing ≡ false
remains_dead thread value =
    elim thread.detached as (λ b. is_live (if b then no_thread else record thread { standing = Ended value }).standing ≡ false) [ true ↦ refl | false ↦ refl ]

-- after the answer to the one joiner nobody joins
answered_none : (s : State) (t u value : ℕ) → IsGood s → joins t (standings s u) ≡ true → (v : ℕ) → joins t (standings (answer (begun s) u 0 value).state v) ≡ true → ⊥
answered_none s t u value good h =
    each_put (λ v (x : Thread). joins t x.standing ≡ true → ⊥) s.threads u _ (λ j. never false j refl) (λ v ne j. ne ((good.joining u t h).alone v j))

good_end_with : (s : State) (t value : ℕ) (o : Option ℕ) → IsGood s → is_ready (standings s t) ≡ true → IsTid t → joiner s t ≡ o → IsGood (end_with s t value o).state
good_end_with s t value None good ready range e =
    let left = remains (s.threads t) value None in
    good_over (without_thread s t left) (good_without s t left good (remains_dead (s.threads t) value) range ready (no_joiner s t good e))
good_end_with s t value (Some u) good ready range e =
    let joined = find_passes (λ v. joins t (standings s v)) tids u e in
    let other : t ≢ u = λ same. never (is_ready (standings s t)) ready (ap (λ v. is_ready (standings s v)) same ∙ (waiting (EndOf t) (standings s u) joined).0) in
    let answered = (answer (begun s) u 0 value).state in
    good_over (without_thread answered t no_thread)
    (good_without answered t no_thread (good_answer (begun s) u t 0 value good joined) refl range
    (at_other (λ (x : Thread). is_ready x.standing) s.threads u t _ other ∙ ready)
    (answered_none s t u value good joined))

-- the actions of an exit
good_destroy_in : (s : State) (t value k rounds : ℕ) (o : Option Key) → IsGood s → IsGood (destroy_in s t value k rounds o)
good_destroy_in s t value k rounds None good = good
good_destroy_in s t value k rounds (Some key) good =
    let thread : Thread = record (s.threads t) {
      phase = Leaving value rounds (k + 1);
      registers = called_at (s.threads t).registers key.destructor (key.values t) cleanup_return;
    } in
    let set = good_set s t thread refl refl good in
    good_alike (set_thread s t thread) (destroy_in s t value k rounds (Some key)) refl set set.ready set.joining set.mutexes set.conditions set.waits set.signals

good_acted : (s : State) (t value : ℕ) (action : ExitAction) → IsGood s → is_ready (standings s t) ≡ true → IsTid t → IsGood (acted s t value action).state
good_acted s t value (RunCleanup cleanup others) good ready range = good_set s t _ refl refl good
good_acted s t value (Destroy k rounds) good ready range = good_destroy_in s t value k rounds (s.keys k) good
good_acted s t value Finish good ready range = good_end_with s t value (joiner s t) good ready range refl

-- special returns, by the frames and the phase of their thread
good_handler_returned : (s : State) (t : ℕ) (frames : List Frame) → IsGood s → IsGood (handler_returned s t frames).state
good_handler_returned s t [] good = good_faulted s t segmentation_fault good
good_handler_returned s t (frame ∷ frames) good = by (is_of_handler frame.kind)
  where
    before : Thread
    before = record (s.threads t) { registers = frame.registers; mask = frame.mask; frames = frames }

    by : (b : Bool) → IsGood (if b then told_return t Handler (begun (set_thread s t before)) else faulted s t segmentation_fault).state
    by true = good_set s t before refl refl good
    by false = good_faulted s t segmentation_fault good

good_cleanup_returned : (s : State) (t : ℕ) (frames : List Frame) (phase : Phase) → IsGood s → is_ready (standings s t) ≡ true → IsTid t
    → IsGood (cleanup_returned s t frames phase).state
good_cleanup_returned s t [] Normal good ready range = good_faulted s t segmentation_fault good
good_cleanup_returned s t [] (Leaving value rounds next) good ready range = good_acted s t value (exit_action s t (s.threads t).cleanups rounds next) good ready range
good_cleanup_returned s t (frame ∷ frames) phase good ready range = by (is_of_handler frame.kind)
  where
    before : Thread
    before = record (s.threads t) { registers = frame.registers; frames = frames }

    by : (b : Bool) → IsGood (if b then faulted s t segmentation_fault else told_return t Cleanup (begun (set_thread s t before))).state
    by true = good_faulted s t segmentation_fault good
    by false = good_set s t before refl refl good

good_start_returned : (s : State) (t : ℕ) (frames : List Frame) (phase : Phase) → IsGood s → IsGood (start_returned s t frames phase).state
good_start_returned s t [] Normal good = good_set s t _ refl refl good
good_start_returned s t [] (Leaving value rounds next) good = good_faulted s t segmentation_fault good
good_start_returned s t (frame ∷ frames) phase good = good_faulted s t segmentation_fault good

good_returned : (s : State) (t : ℕ) (which : Special) → IsGood s → is_ready (standings s t) ≡ true → IsTid t → IsGood (returned s t which).state
good_returned s t Handler good ready range = good_handler_returned s t (s.threads t).frames good
good_returned s t Cleanup good ready range = good_cleanup_returned s t (s.threads t).frames (s.threads t).phase good ready range
good_returned s t Start good ready range = good_start_returned s t (s.threads t).frames (s.threads t).phase good

good_effect : (s : State) (t : ℕ) (e : Effect) → IsGood s → is_ready (standings s t) ≡ true → IsTid t → IsGood (by_effect s t e).state
good_effect s t (Goes pc x memory) good ready range = good_went_on s t (record { pc = pc; x = x }) memory good
good_effect s t Calls good ready range = good_call s t (call_number (s.threads t).registers) (arguments (s.threads t).registers) good ready
good_effect s t (Faults sig) good ready range = good_faulted s t sig good
good_effect s t (Returns which) good ready range = good_returned s t which good ready range

good_instruction : (s : State) (t : ℕ) → IsGood s → is_ready (standings s t) ≡ true → IsTid t → IsGood (instruction s t).state
unfolding instruction
good_instruction s t good ready range = good_effect s t (effect (s.threads t).registers.pc (s.threads t).registers.x s.memory) good ready range

-- whatever arrives keeps a good state good
pub arrivals_keep_good : ArrivalsKeepGood
arrivals_keep_good rules s first count at good = good_arrived rules s first count at (entry_at rules.journal.entries first) good

good_move : (rules : Rules) (now : Moment) (move : Move) → IsGood now.state → Allowed rules now move → IsGood (moved rules now move).state
good_move rules now (Instr t) good allowed =
    let turn = chosen_ready now.state t good allowed.0.first in
    good_instruction now.state t good turn.0 turn.1
good_move rules now (Arrive first count at) good allowed = arrivals_keep_good rules now.state first count at good
good_move rules now Deliver good allowed = good_deliver now.state good

good_run : (rules : Rules) (now : Moment) (moves : List Move) → IsGood now.state → IsRun rules now moves → IsGood (after rules now moves).state
good_run rules now [] good run = good
good_run rules now (m ∷ ms) good run = good_run rules (moved rules now m) ms (good_move rules now m good run.0) run.1

-- at the start there is thread 1 alone, and it is ready
good_start : (memory : List ℕ) (entry : ℕ) → IsGood (start_state memory entry)
good_start memory entry =
    let nobody : State = record (start_state memory entry) { threads = λ t. no_thread } in
    let standing = put (λ t. Absent) 1 Ready in
    good_change nobody 1 (main_thread (length memory) entry) (start_state memory entry) refl
    (record {
      ready = record {
        order = (omega arith, omega arith, refl, tt);
        listed = each_put (λ t st. is_in t (1 ∷ []) ≡ is_ready st) (λ t. Absent) 1 Ready refl (λ t ne. ap (λ b. b || false) (ne_eqb t 1 ne));
      };
      within = each_put (λ t st. is_absent st ≡ false → IsTid t) (λ t. Absent) 1 Ready (λ h. (omega arith, omega arith)) (λ t ne h. absurd (never true refl h));
      joining = λ v u h. absurd (never (joins u (standing v)) h (each_put (λ w st. joins u st ≡ false) (λ t. Absent) 1 Ready refl (λ w ne. refl) v));
      mutexes = λ m. mutex_idle standing m None (each_put (λ w st. wants m st ≡ false) (λ t. Absent) 1 Ready refl (λ w ne. refl)) refl refl;
      conditions = λ c.
          condition_idle standing no_mutexes c None (λ h. absurd (never false h refl)) (each_put (λ w st. waits_on c st ≡ false) (λ t. Absent) 1 Ready refl (λ w ne. refl)) refl refl;
      waits = each_put (λ w st. IsSoundWait 0 st) (λ t. Absent) 1 Ready (ready_wait 0) (λ w ne. absent_wait 0);
      signals = record {
        later = for_none None (λ until. 0 < until) refl;
        soon = for_none None (λ until. until < 2 ^ 32) refl;
        heeded = λ place sig h. refl;
      };
    })

pub instructions_keep_good : InstructionsKeepGood
instructions_keep_good s t good first =
    let turn = chosen_ready s t good first in (
      λ r memory. good_went_on s t r memory good,
      λ number c. good_call s t number c good turn.0,
      λ which. good_returned s t which good turn.0 turn.1,
      λ sig. good_faulted s t sig good,
    )

pub deliveries_keep_good : DeliveriesKeepGood
deliveries_keep_good s good = good_deliver s good

pub goodness : Goodness
goodness = (good_start, good_move, good_run)
