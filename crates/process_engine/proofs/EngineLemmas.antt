-- A process at rest and in a move, and its first instruction of a move.
use Rattle.std.proofs.Common.{◌≡◌, ◌∙◌, ap, sym, refl, subst, inl, inr, ℕ, ◌+◌, ◌<◌, ◌≤◌, Bool, true, false, ◌&&◌, List, [], ◌∷◌, length, Option, Some, None, arith}
use Rattle.std.specs.Prelude.{min, is_none}
use Rattle.thread_base.specs.Orders.{is_in, is_nil}
use Rattle.thread_base.specs.Priority.{tids, first_greatest}
use Rattle.thread_base.proofs.PriorityLemmas.{first_some}
use Rattle.journal_text.specs.Contents.{Contents}
use Rattle.journal_text.specs.Valid.{IsJournal}
use Rattle.ready_queues.specs.Queue.{Queue}
use Rattle.posix_model.specs.State.{State}
use Rattle.posix_model.specs.Scheduling.{chosen, eff}
use Rattle.posix_model.specs.Changes.{Outcome}
use Rattle.posix_model.specs.Deliveries.{Delivery, next_delivery, deliver}
use Rattle.posix_model.specs.Laws.{IsBounded}
use Rattle.posix_model.specs.Weights.{pending_in_all}
use Rattle.posix_model.proofs.PendingMoves.{bounded_move}
use Rattle.posix_model.specs.Good.{IsGood}
use Rattle.posix_model.specs.Journals.{OfTicks, untaken}
use Rattle.posix_model.specs.Instructions.{instruction}
use Rattle.posix_model.specs.Reports.{nothing_told}
use Rattle.posix_model.specs.Runs.{Rules, Moment, Allowed, IsTurnOf, IsIdle as IsIdleRun, Ends, make, moved, due, is_waiting, is_settled}
use Rattle.posix_model.specs.Lines.{lines, head_line, alarm_line, out_line, took_line, count_lines, sig_numbers, gone_line, done_lines, done_line}
use Rattle.posix_model.specs.declared.Ending.{Ending}
use Rattle.posix_model.specs.declared.Ending.TheVariants.{Budget, Idle}
use Rattle.posix_model.specs.declared.Head.{Head}
use Rattle.posix_model.specs.declared.Head.TheVariants.{Quiet}
use Rattle.posix_model.specs.declared.Move.{Move}
use Rattle.posix_model.specs.declared.Move.TheVariants.{Instr, Arrive, Deliver}
use Rattle.posix_model.specs.declared.Report.{Report}
use Rattle.posix_model.proofs.GoodMoves.{goodness}
use Rattle.posix_model.proofs.JournalLemmas.{all_taken}
use Rattle.trace_text.specs.Counting.{is_delivery, counted, told_of, told_by as added_by}
use Rattle.kernel_state.specs.View.{view, outcome}
use Rattle.kernel_state.specs.Changing.{owed}
use Rattle.kernel_state.specs.Begun.{HasRoom, IsBegun}
use Rattle.kernel_state.specs.Kernels.{KernelState, remaining, IsEmpty, IsIdle, owed_by}
use Rattle.kernel_state.specs.Outside.{OutsideState}
use Rattle.kernel_state.specs.Presented.{Stands as StandsOutside, taken_of}
use Rattle.kernel_state.specs.declared.rest.Rest.{Rest}
use Rattle.dispatcher.specs.Arriving.{is_empty, AreSignalsOrTicks}
use Rattle.process_engine.specs.Engine.{Engine, order, owed_of, moment_of, position_of, telling_of, next_place, stop_of, is_due, ArePrompt, HasTurn, Stands, IsSound}
use Rattle.process_engine.specs.Advancing.{HasGoneOn, HasBegun, BeginsInstruction, MakesPlain, BeginsMove, EndsHere, Advances}
use Rattle.process_engine.specs.declared.stage.Advance.TheVariants.{Plain, Switched, Begun}
use Rattle.process_engine.specs.declared.stage.Stage.{Stage}
use Rattle.process_engine.specs.declared.stage.Stage.TheVariants.{Going, Paused, InCall}
use Rattle.kernel_state.proofs.NoteLemmas.{idle_remaining}
use Rattle.process_engine.proofs.CountLemmas.{IsPlainMain, IsDeliveryMain, instruction_counts, delivery_counts}
use Rattle.process_engine.proofs.DeliveryLemmas.{delivery_main}
use Rattle.process_engine.proofs.InstructionLemmas.{has_begun}
use Rattle.process_engine.proofs.DueLemmas.{is_reached_or, none_presented, none_before, next_due, not_reached, nothing_due, kind_few, taken_few}

-- at rest nothing is left, and nothing is owed
pub none_remaining : (rest : Rest) → IsEmpty rest → length (remaining rest) ≡ 0
none_remaining rest empty = ap length (idle_remaining rest empty)

pub owed_state : (p : Engine) → (owed_of p).state ≡ (owed_by order p.kernel).state
unfolding owed_of
owed_state p = refl

pub moment_state : (p : Engine) → IsIdle p.kernel → (moment_of p).state ≡ view order p.kernel.tables
unfolding outcome
moment_state p idle = owed_state p ∙ ap (λ xs. (owed (outcome order p.kernel.tables) xs).state) (idle_remaining p.kernel.rest idle.rest)

-- what the stage of a process says
pub stands_at : (p : Engine) (stage : Stage) → IsSound p → p.stage ≡ stage → Stands order p.kernel p.last stage
stands_at p stage sound e = subst (Stands order p.kernel p.last) e sound.stands

rests_at : (stage : Stage) (k : KernelState Queue) (last : Option ℕ) (report : Report) → Stands order k last stage → telling_of stage report ≡ None → IsIdle k
rests_at Going k last report stands e = stands.0
rests_at Paused k last report stands e = stands
rests_at InCall k last report stands e = absurd (let h : Some report ≡ None = e in cc)

pub rest_stands : (p : Engine) → IsSound p → (position_of p).telling ≡ None → IsIdle p.kernel
rest_stands p sound e = rests_at p.stage p.kernel p.last (owed_of p).report sound.stands e

-- a process after a move is sound, and so is one whose run stays
within_budget : (rules : Rules) (now : Moment) (move : Move) → Allowed rules now move → now.instructions ≤ rules.settings.budget → (moved rules now move).instructions ≤ rules.settings.budget
within_budget rules now (Instr t) allowed within = let less = allowed.1 in omega (arith, less)
within_budget rules now (Arrive first count at) allowed within = within
within_budget rules now Deliver allowed within = within

-- what is told where the rules are the same and what waits outside is told
module _ (p q : Engine) (sound : IsSound p) (rules : q.rules ≡ p.rules) (stop : q.stop ≡ p.stop) (settings : q.kernel.settings ≡ p.kernel.settings)
    (o : OutsideState) (outside : q.kernel.outside ≡ o) (journal : o.journal ≡ p.kernel.outside.journal) (presented : o.presented ≡ p.kernel.outside.presented)
    (waits : StandsOutside o (taken_of o)) (stands : Stands order q.kernel q.last q.stage) where
  sound_at : (now : Moment) → moment_of q ≡ now → now.instructions ≤ p.rules.settings.budget → IsGood now.state → IsBounded now → ArePrompt p.rules now o → IsSound q
  sound_at now is within good bounded prompt =
      let budget = ap (λ (x : Rules). x.settings.budget) rules in
      let instructions = ap (λ (x : Moment). x.instructions) is in
      let limit = sound.limit in
      record {
        within = omega (arith, budget, instructions, within);
        limit = omega (arith, budget, limit);
        stop =
            stop ∙ sound.stop
            ∙ (λ i. stop_of (sym budget i) (next_place (sym rules i).journal (sym (ap (λ (x : OutsideState). x.presented) outside ∙ presented) i)));
        settings = settings ∙ sound.settings ∙ sym (ap (λ (x : Rules). x.settings) rules);
        journal = ap (λ (x : OutsideState). x.journal) outside ∙ journal ∙ sound.journal ∙ sym (ap (λ (x : Rules). x.journal) rules);
        whole = subst (λ (x : Rules). IsJournal x.journal) (sym rules) sound.whole;
        built = subst (λ (x : Rules). AreSignalsOrTicks x.journal.entries) (sym rules) sound.built;
        outside = subst (λ x. StandsOutside x (taken_of x)) (sym outside) waits;
        prompt = subst (λ x. ArePrompt q.rules (moment_of q) x) (sym outside) (subst (λ n. ArePrompt q.rules n o) (sym is) (subst (λ r. ArePrompt r now o) (sym rules) prompt));
        good = subst (λ (x : Moment). IsGood x.state) (sym is) good;
        bounded = subst IsBounded (sym is) bounded;
        stands = stands;
      }

  pub sound_same : moment_of q ≡ moment_of p → ArePrompt p.rules (moment_of p) o → IsSound q
  sound_same same prompt = sound_at (moment_of p) same sound.within sound.good sound.bounded prompt

  pub sound_moved : (move : Move) → Allowed p.rules (moment_of p) move → moment_of q ≡ moved p.rules (moment_of p) move → ArePrompt p.rules (moved p.rules (moment_of p) move) o → IsSound q
  sound_moved move allowed leads prompt =
      sound_at (moved p.rules (moment_of p) move) leads (within_budget p.rules (moment_of p) move allowed sound.within) (goodness.1 p.rules (moment_of p) move sound.good allowed)
      (bounded_move p.rules (moment_of p) move sound.whole sound.bounded allowed) prompt

-- where nothing waits outside, no entry was presented that is left
pub none_prompt : (p : Engine) (now : Moment) → IsSound p → is_empty p.kernel.outside ≡ true → now.taken ≡ (moment_of p).taken → ArePrompt p.rules now p.kernel.outside
none_prompt p now sound none same =
    let never : (n : ℕ) → is_in n (untaken p.rules.journal.entries now.taken) ≡ true → n ≤ p.kernel.outside.presented → ⊥ =
    λ n left low. none_presented p.rules (moment_of p) p.kernel.outside sound.whole sound.journal sound.outside none n (sym (ap (λ t. is_in n (untaken p.rules.journal.entries t)) same) ∙ left) low in
    record {
      due = λ n left low. absurd (never n left low);
      placed = λ n at left low is. absurd (never n left low);
    }

-- a process at rest may pause
pub paused_now : (p : Engine) → moment_of (record { kernel = p.kernel; instructions = p.instructions; stop = p.stop; last = p.last; stage = Paused; rules = p.rules }) ≡ moment_of p
unfolding owed_of
paused_now p = refl

pub paused_sound : (p : Engine) → IsSound p → IsIdle p.kernel → IsSound (record { kernel = p.kernel; instructions = p.instructions; stop = p.stop; last = p.last; stage = Paused; rules = p.rules })
paused_sound p sound rest =
    sound_same p (record { kernel = p.kernel; instructions = p.instructions; stop = p.stop; last = p.last; stage = Paused; rules = p.rules }) sound refl refl refl p.kernel.outside refl refl refl sound.outside rest
    (paused_now p) sound.prompt

-- a thread is chosen, and has its turn: nothing waits outside, and the next entry is not due
pub record Turn (p : Engine) (t : ℕ) : Type 0 where
  pub rest : IsIdle p.kernel
  pub nothing_waits : is_empty p.kernel.outside ≡ true
  pub none_due : is_in (p.kernel.outside.presented + 1) (due p.rules (moment_of p)) ≡ false
  pub going_on : (view order p.kernel.tables).over ≡ None
  pub settled : next_delivery (view order p.kernel.tables) ≡ None
  pub first : chosen (view order p.kernel.tables) ≡ Some t

-- where a thread is chosen, some are ready
pub some_ready : (s : State) (t : ℕ) → chosen s ≡ Some t → is_waiting s ≡ false
unfolding chosen
some_ready s t first = ap (λ b. is_settled s && b) (by s.ready first) ∙ none (is_settled s)
  where
    by : (ready : List ℕ) → first_greatest (eff s) ready ≡ Some t → is_nil ready ≡ false
    by [] e = let h : None ≡ Some t = e in absurd (cc)
    by (x ∷ xs) e = refl

    none : (b : Bool) → (b && false) ≡ false
    none true = refl
    none false = refl

pub nobody_ready : (s : State) → next_delivery s ≡ None → chosen s ≡ None → is_waiting s ≡ true
unfolding chosen
nobody_ready s settled first = (λ i. is_none (settled i) && by s.ready first i)
  where
    by : (ready : List ℕ) → first_greatest (eff s) ready ≡ None → is_nil ready ≡ true
    by [] e = refl
    by (x ∷ xs) e = absurd (let some = first_some (eff s) x xs in let h : Some some.0 ≡ None = sym some.1 ∙ e in cc)

pub unsettled : (s : State) (d : Delivery) → next_delivery s ≡ Some d → is_waiting s ≡ false
unsettled s d next = ap (λ o. is_none o && is_nil s.ready) next

pub going_turn : (p : Engine) → IsSound p → p.stage ≡ Going → p.instructions < p.stop → Turn p p.kernel.tables.records.placed × (p.last ≡ Some p.kernel.tables.records.placed)
going_turn p sound e before =
    let on = stands_at p Going sound e in
    let busy = some_ready (moment_of p).state p.kernel.tables.records.placed (ap chosen (moment_state p on.0) ∙ on.1.first) in
    let stop = sound.stop in (
      record {
        rest = on.0;
        nothing_waits = on.1.nothing_waits;
        none_due = none_before p.rules (moment_of p) p.kernel.outside sound.whole sound.journal sound.outside p.rules.settings.budget busy (omega (arith, before, stop));
        going_on = on.1.going_on;
        settled = on.1.settled;
        first = on.1.first;
      },
      on.2,
    )

-- the next entry is not due at rest
pub not_due : (p : Engine) → IsSound p → (position_of p).telling ≡ None → is_due p ≡ false → is_in (p.kernel.outside.presented + 1) (due p.rules (moment_of p)) ≡ false
not_due p sound rest none = sym (ap (λ o. is_none o && is_in (p.kernel.outside.presented + 1) (due p.rules (moment_of p))) rest) ∙ none

pub chosen_turn : (p old : Engine) (t : ℕ) → p ≡ old → IsSound p → old.stage ≡ Paused → is_due old ≡ false → is_empty old.kernel.outside ≡ true → (view order old.kernel.tables).over ≡ None
    → next_delivery (view order old.kernel.tables) ≡ None → chosen (view order old.kernel.tables) ≡ Some t → Turn p t
chosen_turn p old t is sound paused none_due nothing over settled first =
    let sound_old = subst IsSound is sound in
    subst (λ x. Turn x t) (sym is) (record {
      rest = stands_at old Paused sound_old paused;
      nothing_waits = nothing;
      none_due = not_due old sound_old (ap (λ s. telling_of s (owed_of old).report) paused) none_due;
      going_on = over;
      settled = settled;
      first = first;
    })

-- what the stage says of a move in progress
pub quiet_stage : (stage : Stage) (report : Report) → (stage ≡ InCall → ⊥) → telling_of stage report ≡ None
quiet_stage Going report other = refl
quiet_stage Paused report other = refl
quiet_stage InCall report other = absurd (other refl)

-- the next entry is due as it is found
pub due_found : (p : Engine) → IsSound p → IsIdle p.kernel → (position_of p).telling ≡ None → (waiting : Bool) → waiting ≡ (is_waiting (view order p.kernel.tables) && is_empty p.kernel.outside)
    → is_reached_or (next_place p.kernel.outside.journal p.kernel.outside.presented) p.instructions waiting ≡ is_due p
due_found p sound rest quiet waiting is =
    ap (λ (j : Contents). is_reached_or (next_place j p.kernel.outside.presented) p.instructions waiting) sound.journal
    ∙ next_due p.rules (moment_of p) p.kernel.outside sound.whole sound.journal sound.outside waiting (is ∙ ap (λ (s : State). is_waiting s && is_empty p.kernel.outside) (sym (moment_state p rest)))
    ∙ sym (ap (λ o. is_none o && is_in (p.kernel.outside.presented + 1) (due p.rules (moment_of p))) quiet)

-- what it says that it is due
pub due_parts : (p : Engine) → is_due p ≡ true → ((position_of p).telling ≡ None) × (is_in (p.kernel.outside.presented + 1) (due p.rules (moment_of p)) ≡ true)
due_parts p is = by (position_of p).telling is
  where
    by : (o : Option Report) → (is_none o && is_in (p.kernel.outside.presented + 1) (due p.rules (moment_of p))) ≡ true
        → (o ≡ None) × (is_in (p.kernel.outside.presented + 1) (due p.rules (moment_of p)) ≡ true)
    by None h = (refl, h)
    by (Some r) h = absurd (let e : false ≡ true = h in cc)

-- before the stop the budget is not used up
stop_within : (budget : ℕ) (place : Option ℕ) → stop_of budget place ≤ budget
stop_within budget None = omega arith
stop_within budget (Some n) = omega arith

pub in_budget : (p : Engine) → IsSound p → p.instructions < p.stop → p.instructions < p.rules.settings.budget
in_budget p sound before =
    let stop = sound.stop in
    let within = stop_within p.rules.settings.budget (next_place p.rules.journal p.kernel.outside.presented) in
    omega (arith, before, stop, within)

-- the chosen thread is put in place
module _ (p : Engine) (t : ℕ) (turn : Turn p t) (k : KernelState Queue) (same : view order k.tables ≡ view order p.kernel.tables) (placed : k.tables.records.placed ≡ t)
    (others : k ≡ record p.kernel { tables = k.tables }) where
  pub placed_idle : IsIdle k
  placed_idle = record {
    main = ap (λ (x : KernelState Queue). x.main) others ∙ turn.rest.main;
    rest = subst IsEmpty (sym (ap (λ (x : KernelState Queue). x.rest) others)) turn.rest.rest;
  }

  pub placed_turn : HasTurn order k
  placed_turn = record {
    nothing_waits = ap (λ (x : KernelState Queue). is_empty x.outside) others ∙ turn.nothing_waits;
    going_on = ap (λ (s : State). s.over) same ∙ turn.going_on;
    settled = ap next_delivery same ∙ turn.settled;
    first = ap chosen same ∙ turn.first ∙ ap Some (sym placed);
  }

-- what pends leaves room for more: no more pends than instructions and entries brought
pub has_room : (p : Engine) (k : KernelState Queue) → IsSound p → IsIdle p.kernel → view order k.tables ≡ view order p.kernel.tables → HasRoom (view order k.tables)
has_room p k sound rest same =
    let state = moment_state p rest ∙ sym same in
    let pends = ap pending_in_all state in
    let now = ap (λ (s : State). s.now) state in
    let sum = sound.bounded.sum in
    let time = sound.bounded.time in
    let within = sound.within in
    let limit = sound.limit in
    let few = sound.whole.few in
    let each = kind_few p.kernel.outside.journal.entries (taken_of p.kernel.outside) p.kernel.outside.presented p.kernel.outside.log.slots p.kernel.outside.unix.pending sound.outside
    (let same = ap (λ (j : Contents). length j.entries) sound.journal in omega (arith, same, few)) in
    let taken = taken_few (taken_of p.kernel.outside) each in
    let ticks = each OfTicks in
    record {
      pends = omega (arith, pends, sum, within, limit, taken);
      time = omega (arith, now, time, ticks);
    }

turn_of : (p : Engine) (t : ℕ) → IsSound p → Turn p t → IsTurnOf p.rules (moment_of p) t
turn_of p t sound turn =
    let same = moment_state p turn.rest in
    record {
      going_on = ap (λ (s : State). s.over) same ∙ turn.going_on;
      nothing_due = nothing_due p.rules (moment_of p) p.kernel.outside sound.whole sound.journal sound.outside turn.nothing_waits turn.none_due;
      settled = ap next_delivery same ∙ turn.settled;
      first = ap chosen same ∙ turn.first;
    }

-- the run has ended
has_ended : (p old : Engine) (ending : Ending) → p ≡ old → Ends p.rules (moment_of p) ending → EndsHere old old ending
has_ended p old ending is ends = subst (λ x. EndsHere x x ending) is (record { ends = ends; same = refl })

pub is_over : (p old : Engine) (ending : Ending) → p ≡ old → IsIdle p.kernel → (view order p.kernel.tables).over ≡ Some ending → EndsHere old old ending
is_over p old ending is rest over = has_ended p old ending is (inl (ap (λ (s : State). s.over) (moment_state p rest) ∙ over))

pub is_idle : (p old : Engine) → p ≡ old → IsSound p → IsIdle p.kernel → is_empty p.kernel.outside ≡ true → is_in (p.kernel.outside.presented + 1) (due p.rules (moment_of p)) ≡ false
    → (view order p.kernel.tables).over ≡ None → next_delivery (view order p.kernel.tables) ≡ None → chosen (view order p.kernel.tables) ≡ None → EndsHere old old Idle
is_idle p old is sound rest nothing none_due over settled nobody =
    let same = moment_state p rest in
    let waiting = nobody_ready (moment_of p).state (ap next_delivery same ∙ settled) (ap chosen same ∙ nobody) in
    let idle : IsIdleRun p.rules (moment_of p) = record {
      going_on = ap (λ (s : State). s.over) same ∙ over;
      settled = ap next_delivery same ∙ settled;
      nobody = ap chosen same ∙ nobody;
      taken =
          all_taken p.rules (moment_of p) waiting
          (nothing_due p.rules (moment_of p) p.kernel.outside sound.whole sound.journal sound.outside nothing none_due);
    } in
    has_ended p old Idle is (inr (inl (refl, idle)))

pub is_spent : (p old : Engine) (t : ℕ) → p ≡ old → IsSound p → Turn p t → p.instructions ≡ p.rules.settings.budget → EndsHere old old Budget
is_spent p old t is sound turn spent = has_ended p old Budget is (inr (inr (refl, record { used_up = spent; tid = t; turn = turn_of p t sound turn })))

-- at the stop the budget is used up, where the next entry is not due
pub is_stopped : (p old : Engine) → p ≡ old → IsSound p → old.stage ≡ Going → is_due old ≡ false → p.stop ≤ p.instructions → EndsHere old old Budget
is_stopped p old is sound going none_due stopped =
    let here : p.stage ≡ Going = ap (λ (x : Engine). x.stage) is ∙ going in
    let on = stands_at p Going sound here in
    let late = not_due p sound (ap (λ s. telling_of s (owed_of p).report) here) (ap is_due is ∙ none_due) in
    let busy = some_ready (moment_of p).state p.kernel.tables.records.placed (ap chosen (moment_state p on.0) ∙ on.1.first) in
    is_spent p old p.kernel.tables.records.placed is sound
    (record { rest = on.0; nothing_waits = on.1.nothing_waits; none_due = late; going_on = on.1.going_on; settled = on.1.settled; first = on.1.first })
    (by busy late (next_place p.rules.journal p.kernel.outside.presented) refl)
  where
    by : is_waiting (moment_of p).state ≡ false → is_in (p.kernel.outside.presented + 1) (due p.rules (moment_of p)) ≡ false → (place : Option ℕ) → next_place p.rules.journal p.kernel.outside.presented ≡ place
        → p.instructions ≡ p.rules.settings.budget
    by busy late None at =
        let stop : p.stop ≡ p.rules.settings.budget = sound.stop ∙ ap (stop_of p.rules.settings.budget) at in
        let within = sound.within in
        omega (arith, stop, within, stopped)
    by busy late (Some n) at =
        let stop : p.stop ≡ min n p.rules.settings.budget = sound.stop ∙ ap (stop_of p.rules.settings.budget) at in
        let within = sound.within in
        let far = not_reached p.rules (moment_of p) p.kernel.outside sound.whole sound.journal sound.outside busy late n at in
        omega (arith, stop, within, stopped, far)

-- a move was begun
module _ (p q : Engine) (k : KernelState Queue) (from : view order k.tables ≡ view order p.kernel.tables) (move : Move) (g : Outcome) (has : HasBegun order k q.kernel g) (made : g ≡ make p.rules (moment_of p).state move) (allowed : Allowed p.rules (moment_of p) move)
    (stage : q.stage ≡ InCall) where
  owed_is : owed_of q ≡ g
  unfolding owed_of
  owed_is = has.owed

  pub state_is : (owed_of q).state ≡ (make p.rules (moment_of p).state move).state
  state_is = ap (λ (x : Outcome). x.state) (owed_is ∙ made)

  pub begins : moment_of q ≡ moved p.rules (moment_of p) move → told_of (counted p.rules (moment_of p) move) ≡ added_by p.last q.last g.report.head → BeginsMove p q
  begins leads counts = record {
    makes = record { move = move; allowed = allowed; leads = leads; counts = counts ∙ ap (λ (x : Outcome). added_by p.last q.last x.report.head) (sym owed_is) };
    told = ap (λ (x : Outcome). x.report) (owed_is ∙ made);
    main = λ h. has.main (sym (ap (λ (x : Outcome). x.report.head) owed_is) ∙ h);
    stage = stage;
    some = has.some;
    few = has.few;
    shown = has.shown ∙ from;
  }

-- a plain instruction has no lines
no_lines : (t : ℕ) (memory : List ℕ) → lines (record nothing_told { tid = t }) memory ≡ []
unfolding lines head_line alarm_line out_line took_line count_lines sig_numbers gone_line done_lines done_line tids nothing_told
no_lines t memory = refl

quiet_head : (t : ℕ) → (record nothing_told { tid = t }).head ≡ Quiet
unfolding nothing_told
quiet_head t = refl

-- the chosen thread is in place, and its instruction is made or begun
module _ (p old : Engine) (is : p ≡ old) (t : ℕ) (sound : IsSound p) (turn : Turn p t) (less : p.instructions < p.rules.settings.budget) where
  allowed_here : Allowed p.rules (moment_of p) (Instr t)
  allowed_here = (turn_of p t sound turn, less)

  module _ (k l : KernelState Queue) (same : view order k.tables ≡ view order p.kernel.tables) (placed : k.tables.records.placed ≡ t) (others : k ≡ record p.kernel { tables = k.tables })
      (last : Option ℕ) (by : last ≡ Some t) (rules : Rules) (ruled : rules ≡ p.rules) where
    abbrev at : Stage → Engine
    at stage = record { kernel = l; instructions = p.instructions + 1; stop = p.stop; last = last; stage = stage; rules = rules }

    -- what waits outside stays, and nothing waits
    outside_is : l.outside ≡ k.outside → l.outside ≡ p.kernel.outside
    outside_is stays = stays ∙ ap (λ (x : KernelState Queue). x.outside) others

    settings_are : l.settings ≡ k.settings → l.settings ≡ p.kernel.settings
    settings_are stay = stay ∙ ap (λ (x : KernelState Queue). x.settings) others

    made_is : instruction (view order k.tables) k.tables.records.placed ≡ instruction (moment_of p).state t
    made_is = λ i. instruction ((same ∙ sym (moment_state p turn.rest)) i) (placed i)

    leads_to : (stage : Stage) → l.outside ≡ k.outside → (owed_of (at stage)).state ≡ (instruction (moment_of p).state t).state → moment_of (at stage) ≡ moved p.rules (moment_of p) (Instr t)
    leads_to stage stays state = λ i. record { state = state i; instructions = p.instructions + 1; last = by i; taken = taken_of (outside_is stays i) }

    moved_prompt : ArePrompt p.rules (moved p.rules (moment_of p) (Instr t)) p.kernel.outside
    moved_prompt = none_prompt p (moved p.rules (moment_of p) (Instr t)) sound turn.nothing_waits refl

    sound_after : (stage : Stage) → l.outside ≡ k.outside → l.settings ≡ k.settings → Stands order l last stage → moment_of (at stage) ≡ moved p.rules (moment_of p) (Instr t) → IsSound (at stage)
    sound_after stage stays stay stands leads =
        sound_moved p (at stage) sound ruled refl (settings_are stay) p.kernel.outside (outside_is stays) refl refl sound.outside stands (Instr t) allowed_here leads moved_prompt

    adds : (head : Head) → (instruction (view order k.tables) k.tables.records.placed).report.head ≡ head → IsPlainMain head
        → told_of (counted p.rules (moment_of p) (Instr t)) ≡ added_by p.last last head
    adds head tells none = instruction_counts p.rules (moment_of p) t last head by (sym (ap (λ (g : Outcome). g.report.head) made_is) ∙ tells) none

    module _ (on : HasGoneOn order k l) (stage : Stage) (going : stage ≡ Going) where
      went_to : moment_of (at stage) ≡ moved p.rules (moment_of p) (Instr t)
      went_to = leads_to stage on.outside (moment_state (at stage) on.rest ∙ on.state ∙ ap (λ (g : Outcome). g.state) made_is)

      plain : MakesPlain p (at stage)
      plain = record {
        makes = record { move = Instr t; allowed = allowed_here; leads = went_to; counts = adds Quiet (ap (λ (r : Report). r.head) on.tells ∙ quiet_head k.tables.records.placed) (record { no_arrival = refl; no_delivery = refl }) };
        silent =
            ap (λ (g : Outcome). lines g.report (moment_of (at stage)).state.memory) (sym made_is)
            ∙ ap (λ r. lines r (moment_of (at stage)).state.memory) on.tells
            ∙ no_lines k.tables.records.placed (moment_of (at stage)).state.memory;
        stage = going;
        none = none_remaining l.rest on.rest.rest;
        shown = sym (moment_state (at stage) on.rest);
      }

      pub goes_plain : last ≡ p.last → Advances old Plain (record { kernel = l; instructions = p.instructions + 1; stop = p.stop; last = last; stage = stage; rules = rules })
      goes_plain stays = (subst (λ x. MakesPlain x (at stage)) is plain, stays ∙ ap (λ (x : Engine). x.last) is)

      pub goes_switched : Advances old (Switched p.last) (record { kernel = l; instructions = p.instructions + 1; stop = p.stop; last = last; stage = stage; rules = rules })
      goes_switched = (subst (λ x. MakesPlain x (at stage)) is plain, ap (λ (x : Engine). x.last) is)

      pub plain_sound : IsSound (record { kernel = l; instructions = p.instructions + 1; stop = p.stop; last = last; stage = stage; rules = rules })
      plain_sound =
          let stands : Stands order l last Going = (on.rest, on.turn, by ∙ ap Some (sym (on.placed ∙ placed))) in
          sound_after stage on.outside on.settings (subst (Stands order l last) (sym going) stands) went_to

    module _ (has : BeginsInstruction order k l (instruction (view order k.tables) k.tables.records.placed)) where
      begun_to : moment_of (at InCall) ≡ moved p.rules (moment_of p) (Instr t)
      begun_to = leads_to InCall has.0.outside (state_is p (at InCall) k same (Instr t) _ has.0 made_is allowed_here refl)

      pub goes_begun : Advances old (Begun p.last) (record { kernel = l; instructions = p.instructions + 1; stop = p.stop; last = last; stage = InCall; rules = rules })
      goes_begun =
          (subst (λ x. BeginsMove x (at InCall)) is (begins p (at InCall) k same (Instr t) _ has.0 made_is allowed_here refl begun_to (adds _ refl (record { no_arrival = has.1; no_delivery = has.2 }))), ap (λ (x : Engine). x.last) is)

      pub begun_sound : IsSound (record { kernel = l; instructions = p.instructions + 1; stop = p.stop; last = last; stage = InCall; rules = rules })
      begun_sound = sound_after InCall has.0.outside has.0.settings has.0.call begun_to

-- the next delivery is begun, where nothing waits outside
module _ (p old : Engine) (is : p ≡ old) (d : Delivery) (sound : IsSound p) (rest : IsIdle p.kernel) (untold : p.kernel.tables.report ≡ nothing_told)
    (nothing : is_empty p.kernel.outside ≡ true) (over : (view order p.kernel.tables).over ≡ None) (next : next_delivery (view order p.kernel.tables) ≡ Some d)
    (l : KernelState Queue) (begun : IsBegun order p.kernel l (deliver (view order p.kernel.tables))) (rules : Rules) (ruled : rules ≡ p.rules) where
  abbrev delivering : Engine
  delivering = record { kernel = l; instructions = p.instructions; stop = p.stop; last = p.last; stage = InCall; rules = rules }

  here : (moment_of p).state ≡ view order p.kernel.tables
  here = moment_state p rest

  can_deliver : Allowed p.rules (moment_of p) Deliver
  can_deliver = (ap (λ (s : State). s.over) here ∙ over, d, ap next_delivery here ∙ next)

  main : IsDeliveryMain (deliver (view order p.kernel.tables)).report.head
  main = delivery_main (view order p.kernel.tables) d (subst IsGood here sound.good) next

  has : HasBegun order p.kernel l (deliver (view order p.kernel.tables))
  has =
      has_begun order p.kernel l (deliver (view order p.kernel.tables)) untold begun
      (λ h. absurd (let e : false ≡ true = sym (ap is_delivery h) ∙ main.delivery in cc))

  delivers_to : moment_of delivering ≡ moved p.rules (moment_of p) Deliver
  delivers_to =
      let state = state_is p delivering p.kernel refl Deliver _ has (ap deliver (sym here)) can_deliver refl in
      λ i. record { state = state i; instructions = p.instructions; last = p.last; taken = taken_of (begun.outside i) }

  pub delivers : Advances old (Begun p.last) (record { kernel = l; instructions = p.instructions; stop = p.stop; last = p.last; stage = InCall; rules = rules })
  delivers =
      let counts = delivery_counts p.rules (moment_of p) p.last _ refl main in
      (subst (λ x. BeginsMove x delivering) is (begins p delivering p.kernel refl Deliver _ has (ap deliver (sym here)) can_deliver refl delivers_to counts), ap (λ (x : Engine). x.last) is)

  pub delivers_sound : IsSound (record { kernel = l; instructions = p.instructions; stop = p.stop; last = p.last; stage = InCall; rules = rules })
  delivers_sound =
      sound_moved p delivering sound ruled refl begun.settings p.kernel.outside begun.outside refl refl sound.outside has.call Deliver can_deliver delivers_to
      (none_prompt p (moved p.rules (moment_of p) Deliver) sound nothing refl)
