-- What each move adds to the ledger of a signal: what comes is what goes and what still pends.
use Rattle.std.proofs.Common.{◌≡◌, ◌∙◌, ◌⊎◌, refl, sym, ap, subst, arith, inl, inr, ℕ, ◌+◌, ◌≤◌, true, false, List, [], ◌∷◌, ◌++◌, length, take, drop, min, Option, Some, None}
use Rattle.std.specs.Prelude.{◌==◌, ◌&&◌, not, nat_le}
use Rattle.thread_base.specs.Actions.{ignores}
use Rattle.thread_base.specs.Deliveries.{waits_for}
use Rattle.thread_base.specs.Numbers.{IsTid}
use Rattle.thread_base.proofs.SearchLemmas.{tids_in}
use Rattle.thread_base.specs.declared.Place.{Place}
use Rattle.thread_base.specs.declared.action.Action.{Action}
use Rattle.thread_base.specs.declared.action.Action.TheVariants.{Default, Ignore, Handler as OfHandler}
use Rattle.rv_exec.specs.Meaning.{Effect, Goes, Calls, Faults, Returns, effect}
use Rattle.rv_exec.specs.declared.Special.{Special}
use Rattle.rv_exec.specs.declared.Special.TheVariants.{Handler, Cleanup, Start}
use Rattle.journal_text.specs.declared.entry.Entry.{Entry}
use Rattle.journal_text.specs.declared.entry.What.{What}
use Rattle.journal_text.specs.declared.entry.What.TheVariants.{Sig, Tick, Data, Eof}
use Rattle.posix_model.specs.State.{State, Thread, Frame, Key, Phase, Normal, Leaving, Target, Nothing, MutexAt, ConditionAt, ATime, Input, target, is_of_handler}
use Rattle.posix_model.specs.Changes.{Outcome, begun, answer, to_end, set_thread}
use Rattle.posix_model.specs.Conditions.{wake}
use Rattle.posix_model.specs.Scheduling.{chosen}
use Rattle.posix_model.specs.Threads.{joiner, some_live}
use Rattle.posix_model.specs.Leaving.{answer_joiner, remains, without_thread, over_with_last, end_with}
use Rattle.posix_model.specs.Exits.{ExitAction, RunCleanup, Destroy, Finish, exit_action, destroy_in, acted}
use Rattle.posix_model.specs.Calls.{call_number, arguments}
use Rattle.posix_model.specs.Deliveries.{Delivery, Acts, Gives, delivered, given, by_action, handled, wait_ended, entering, unqueued, cancelled, set_pending, pend, killed_by, faulted, told, awaited, is_free_for}
use Rattle.posix_model.specs.Arrivals.{arrive_signal, read_into, charge, charge_to, has_turn, has_come, timed_out, expired, expire_at, expire_all, ring, tick, readers, serve_at, serve_all, answer_all}
use Rattle.posix_model.specs.Instructions.{by_effect, instruction, handler_returned, cleanup_returned, start_returned, returned, segmentation_fault, told_return}
use Rattle.posix_model.specs.Good.{IsGood}
use Rattle.posix_model.specs.Reports.{nothing_told}
use Rattle.posix_model.specs.Journals.{entry_at}
use Rattle.posix_model.specs.Start.{start}
use Rattle.posix_model.specs.Trace.{left_of}
use Rattle.posix_model.specs.Runs.{Rules, Moment, Allowed, IsRun, arrived, make, moved, after}
use Rattle.posix_model.specs.declared.Ending.TheVariants.{Exit, Killed}
use Rattle.posix_model.specs.declared.Head.{Head}
use Rattle.posix_model.specs.declared.Head.TheVariants.{Accept, Fault, Deliver as DeliverHead}
use Rattle.posix_model.specs.declared.Move.{Move}
use Rattle.posix_model.specs.declared.Move.TheVariants.{Instr, Arrive, Deliver}
use Rattle.posix_model.specs.declared.RetakeReply.TheVariants.{Answer, Cancel}
use Rattle.posix_model.proofs.PendingLemmas.{either}
use Rattle.posix_model.proofs.PendingMoves.{in_range}
use Rattle.posix_model.proofs.Weights.{IsDue, next_due, due_place}
use Rattle.posix_model.proofs.GoodLemmas.{chosen_ready}
use Rattle.posix_model.proofs.GoodMoves.{goodness}
use Rattle.run_laws.specs.Ledger.{reports, share, came, went, rung, income, outcome, LedgerCloses}
use Rattle.run_laws.proofs.LedgerSums.{share_none, left_in, left_is, left_put, left_more, left_taken, none_left, drops_plus, left_at}
use Rattle.run_laws.proofs.LedgerCalls.{told_of, kept_of, Keeps, keeps_wake}
use Rattle.run_laws.proofs.LedgerEven.{IsBare, bare_begun, bare_kept, is_bare, Even, Balances, none_beside, none_dropped, same_left, killed_comes, signal_comes, none_rung, even_bare}
use Rattle.run_laws.proofs.LedgerSends.{even_call}

-- ---- what leaves all that a ledger reads

keeps_joiner : (s : State) (value : ℕ) (o : Option ℕ) → Keeps (begun s) (answer_joiner (begun s) value o)
keeps_joiner s value None = refl
keeps_joiner s value (Some u) = refl

keeps_destroy : (s : State) (t value k rounds : ℕ) (o : Option Key) → Keeps (begun s) (begun (destroy_in s t value k rounds o))
keeps_destroy s t value k rounds None = refl
keeps_destroy s t value k rounds (Some key) = refl

keeps_unqueued : (s : State) (t : ℕ) (a : Target) → Keeps (begun s) (begun (unqueued s t a))
keeps_unqueued s t (MutexAt m) = refl
keeps_unqueued s t a = refl

keeps_cancelled : (s : State) (t : ℕ) (a : Target) → Keeps (begun s) (cancelled s t a)
keeps_cancelled s t Nothing = refl
keeps_cancelled s t (ConditionAt c) =
    keeps_wake (begun (set_thread s t (record (s.threads t) { cancellation = record (s.threads t).cancellation { enabled = false; pending = false } }))) t Cancel
keeps_cancelled s t a = keeps_unqueued s t a

keeps_ready : (g : Outcome) (t : ℕ) (a : Target) → kept_of (record g { state = unqueued g.state t a }) ≡ kept_of g
keeps_ready g t (MutexAt m) = refl
keeps_ready g t a = refl

keeps_ended : (g : Outcome) (t : ℕ) (a : Target) → Keeps g (wait_ended g t a)
keeps_ended g t Nothing = refl
keeps_ended g t (ATime until) = refl
keeps_ended g t (Input buffer size) = refl
keeps_ended g t a = keeps_ready g t (target (g.state.threads t).standing)

pending_charge_to : (quantum : ℕ) (s : State) (t : ℕ) → (charge_to quantum s t).pending ≡ s.pending
pending_charge_to quantum s t =
    let later : State = set_thread s t (record (s.threads t) { used = (s.threads t).used + 1 }) in
    either (λ (r : State). r.pending ≡ s.pending) (nat_le quantum ((s.threads t).used + 1)) (to_end s t) later refl refl

pending_charge : (quantum : ℕ) (s : State) (o : Option ℕ) → (charge quantum s o).pending ≡ s.pending
pending_charge quantum s None = refl
pending_charge quantum s (Some t) =
    either (λ (r : State). r.pending ≡ s.pending) (has_turn (s.threads t).policy) (charge_to quantum s t) s (pending_charge_to quantum s t) refl

keeps_expire_at : (g : Outcome) (t : ℕ) (a : Target) → Keeps g (expire_at g t a)
keeps_expire_at g t (ConditionAt c) = keeps_wake g t (Answer timed_out)
keeps_expire_at g t (ATime until) = refl
keeps_expire_at g t a = refl

keeps_expire_all : (g : Outcome) (ts : List ℕ) → Keeps g (expire_all g ts)
keeps_expire_all g [] = refl
keeps_expire_all g (t ∷ ts) =
    let a = target (g.state.threads t).standing in keeps_expire_all (expire_at g t a) ts ∙ keeps_expire_at g t a

keeps_serve_at : (g : Outcome) (t : ℕ) (a : Target) → Keeps g (serve_at g t a)
keeps_serve_at g t (Input buffer size) =
    either (λ (o : Outcome). Keeps g o) (length g.state.input == 0) g (read_into g t buffer (min size (length g.state.input))) refl refl
keeps_serve_at g t a = refl

keeps_serve_all : (g : Outcome) (ts : List ℕ) → Keeps g (serve_all g ts)
keeps_serve_all g [] = refl
keeps_serve_all g (t ∷ ts) =
    let a = target (g.state.threads t).standing in keeps_serve_all (serve_at g t a) ts ∙ keeps_serve_at g t a

keeps_answer_all : (g : Outcome) (ts : List ℕ) → Keeps g (answer_all g ts)
keeps_answer_all g [] = refl
keeps_answer_all g (t ∷ ts) = keeps_answer_all (answer g t 0 0) ts

-- ---- one signal

module _ (sig : ℕ) (low : 1 ≤ sig) (high : sig ≤ 31) where
  -- a move without a main line
  balances_quiet : (s : State) (o : Outcome) → IsBare s false o → o.report.head ≡ nothing_told.head → Balances sig s o
  unfolding nothing_told
  balances_quiet s o bare head =
      let even = even_bare sig s o bare in
      let in_none : came sig o.report.head ≡ 0 = ap (came sig) head in
      let out_none : went sig o.report.head ≡ 0 = ap (went sig) head in
      omega (arith, even, in_none, out_none)

  -- ---- an instruction

  -- a fault
  balances_faulted : (s : State) (t other : ℕ) → IsTid t → Balances sig s (faulted s t other)
  balances_faulted s t other range =
      either (λ (g : Outcome). Balances sig s (told t (Fault other) g)) (is_free_for s t other && not (ignores (s.actions other) other)) (begun (pend s t other 1))
      (killed_by other 1 (begun s)) here ended
    where
      here : Balances sig s (told t (Fault other) (begun (pend s t other 1)))
      here =
          let r : State = pend s t other 1 in
          let even = even_bare sig r (begun r) (bare_begun r) in
          let more = left_more s t other sig (inr range) 1 in
          omega (arith, even, more)

      ended : Balances sig s (told t (Fault other) (killed_by other 1 (begun s)))
      ended =
          let comes = (killed_comes sig s (begun s) (bare_begun s) other 1).1 in
          let rung = none_rung sig s (begun s) (bare_begun s) in
          omega (arith, comes, rung)

  -- the end of a thread
  pending_over : (s : State) → (over_with_last s).pending ≡ s.pending
  pending_over s = either (λ (r : State). r.pending ≡ s.pending) (some_live s) s (record s { over = Some (Exit 0) }) refl refl

  even_end : (s : State) (t value : ℕ) (o : Option ℕ) → IsTid t → Even sig s (end_with s t value o) 0 0
  even_end s t value o range =
      let answered : Outcome = answer_joiner (begun s) value o in
      let kept = is_bare s answered (keeps_joiner s value o) in
      let left : Thread = remains (s.threads t) value o in
      let now : left_in (end_with s t value o).state.pending sig ≡ left_in (without_thread answered.state t left).pending sig =
      ap (λ counts. left_in counts sig) (pending_over (without_thread answered.state t left)) in
      let cleared = left_put answered.state.pending t (λ v. 0) sig (inr range) in
      let own : answered.state.pending t sig ≡ s.pending t sig = ap (λ (counts : ℕ → ℕ → ℕ). counts t sig) kept.pending in
      let drops = drops_plus answered.report.drops (s.pending t) sig high in
      let same = same_left sig s answered kept in
      let rung = none_rung sig s answered kept in
      let beside = none_beside sig s answered kept in
      let none = none_dropped sig s answered kept in
      omega (arith, now, cleared, own, drops, same, rung, beside, none)

  -- the actions of an exit
  even_acted : (s : State) (t value : ℕ) (action : ExitAction) → IsTid t → Even sig s (acted s t value action) 0 0
  even_acted s t value (RunCleanup cleanup others) range =
      let g : Outcome = acted s t value (RunCleanup cleanup others) in even_bare sig s g (is_bare s g refl)
  even_acted s t value (Destroy k rounds) range =
      let g : Outcome = acted s t value (Destroy k rounds) in even_bare sig s g (is_bare s g (keeps_destroy s t value k rounds (s.keys k)))
  even_acted s t value Finish range = even_end s t value (joiner s t) range

  module _ (s : State) (t : ℕ) (range : IsTid t) where
    not_due : Balances sig s (faulted s t segmentation_fault)
    not_due = balances_faulted s t segmentation_fault range

    balances_handler : (frames : List Frame) → Balances sig s (handler_returned s t frames)
    balances_handler [] = not_due
    balances_handler (frame ∷ frames) =
        let before : Outcome = begun (set_thread s t (record (s.threads t) { registers = frame.registers; mask = frame.mask; frames = frames })) in
        either (λ (g : Outcome). Balances sig s g) (is_of_handler frame.kind) (told_return t Handler before) (faulted s t segmentation_fault)
        (even_bare sig s before (is_bare s before refl)) not_due

    balances_cleanup : (frames : List Frame) (phase : Phase) → Balances sig s (cleanup_returned s t frames phase)
    balances_cleanup [] Normal = not_due
    balances_cleanup [] (Leaving value rounds next) = even_acted s t value (exit_action s t (s.threads t).cleanups rounds next) range
    balances_cleanup (frame ∷ frames) phase =
        let before : Outcome = begun (set_thread s t (record (s.threads t) { registers = frame.registers; frames = frames })) in
        either (λ (g : Outcome). Balances sig s g) (is_of_handler frame.kind) (faulted s t segmentation_fault) (told_return t Cleanup before) not_due
        (even_bare sig s before (is_bare s before refl))

    balances_start : (frames : List Frame) (phase : Phase) → Balances sig s (start_returned s t frames phase)
    balances_start [] Normal = even_bare sig s (start_returned s t [] Normal) (is_bare s (start_returned s t [] Normal) refl)
    balances_start [] (Leaving value rounds next) = not_due
    balances_start (frame ∷ frames) phase = not_due

    balances_returned : (which : Special) → Balances sig s (returned s t which)
    balances_returned Handler = balances_handler (s.threads t).frames
    balances_returned Cleanup = balances_cleanup (s.threads t).frames (s.threads t).phase
    balances_returned Start = balances_start (s.threads t).frames (s.threads t).phase

    balances_call : IsGood s → Balances sig s (by_effect s t Calls)
    balances_call good =
        let even = even_call sig low high s t (call_number (s.threads t).registers) (arguments (s.threads t).registers) good range in omega (arith, even)

    balances_effect : (e : Effect) → IsGood s → Balances sig s (by_effect s t e)
    balances_effect (Goes pc x memory) good = balances_quiet s (by_effect s t (Goes pc x memory)) (is_bare s (by_effect s t (Goes pc x memory)) refl) refl
    balances_effect Calls good = balances_call good
    balances_effect (Faults other) good = balances_faulted s t other range
    balances_effect (Returns which) good = balances_returned which

    pub balances_instruction : IsGood s → Balances sig s (instruction s t)
    unfolding instruction
    balances_instruction good = balances_effect (effect (s.threads t).registers.pc (s.threads t).registers.x s.memory) good

  -- ---- a delivery

  module _ (s : State) (t other place : ℕ) (where_it_is : (place ≡ 0) ⊎ ((1 ≤ place) × (place ≤ 64))) (range : IsTid t) where
    -- the signal is taken with its whole count
    abbrev rest : State
    rest = set_pending s place other 0

    abbrev many : ℕ
    many = s.pending place other

    -- it goes by the main line
    goes : (head : Head) (g : Outcome) → IsBare rest false g → came sig head ≡ 0 → went sig head ≡ share sig other many → Balances sig s (told t head g)
    goes head g bare in_none out =
        let even = even_bare sig rest g bare in
        let taken = left_taken s place other sig where_it_is in
        omega (arith, even, taken, in_none, out)

    balances_handled : (at mask : ℕ) (a : Target) → Balances sig s (handled rest t other many at mask a)
    balances_handled at mask (ConditionAt c) =
        let woken : Outcome = wake (begun rest) t (Answer 0) in
        let kept = is_bare rest woken (keeps_wake (begun rest) t (Answer 0)) in
        let even = even_bare sig rest woken kept in
        let taken = left_taken s place other sig where_it_is in
        let more = left_more woken.state t other sig (inr range) many in
        omega (arith, even, taken, more)
    balances_handled at mask a =
        let before : Outcome = wait_ended (begun rest) t a in
        let after : Outcome = entering before t other at mask in
        goes (DeliverHead t other many) after (is_bare rest after (keeps_ended (begun rest) t a)) refl refl

    balances_action : (action : Action) → s.actions other ≡ action → IsGood s → Balances sig s (by_action rest t other many action)
    balances_action Default is good =
        let ended : Outcome = begun (record rest { over = Some (Killed other) }) in goes (DeliverHead t other many) ended (is_bare rest ended refl) refl refl
    balances_action Ignore is good =
        let ignored : ignores (s.actions other) other ≡ true = ap (λ action. ignores action other) is in
        let none : share sig other many ≡ 0 = ap (share sig other) (good.signals.heeded place other ignored) ∙ share_none sig other in
        let taken = left_taken s place other sig where_it_is in
        let quiet = balances_quiet rest (begun rest) (bare_begun rest) refl in
        omega (arith, none, taken, quiet)
    balances_action (OfHandler at mask) is good = balances_handled at mask (target (s.threads t).standing)

    balances_given : IsGood s → Balances sig s (given rest t other many)
    balances_given good =
        let accepted : Outcome = answer (begun rest) t 0 other in
        either (λ (o : Outcome). Balances sig s o) (waits_for (awaited rest t) other) (told t (Accept t other many) accepted) (by_action rest t other many (s.actions other))
        (goes (Accept t other many) accepted (is_bare rest accepted refl) refl refl) (balances_action (s.actions other) refl good)

  pub balances_delivered : (s : State) (d : Delivery) → IsGood s → IsDue s d → Balances sig s (delivered s (Some d))
  balances_delivered s (Acts t) good due =
      let g : Outcome = cancelled s t (target (s.threads t).standing) in even_bare sig s g (is_bare s g (keeps_cancelled s t (target (s.threads t).standing)))
  balances_delivered s (Gives t other place) good due = balances_given s t other place (due_place t place due.1 due.3) (tids_in t due.1) good

  -- ---- an arrival

  even_ring : (s : State) (g : Outcome) → IsBare s false g → Even sig s (ring g) 0 0
  even_ring s g bare =
      let rang : Outcome = record { state = record g.state { alarm = None }; report = record g.report { alarm = true } } in
      let told : IsBare s true rang = record { pending = bare.pending; alarm = refl; took = bare.took; drops = bare.drops } in
      let comes = signal_comes sig s rang told high 0 (inl refl) 14 1 in
      let is : rung sig (arrive_signal rang 14 1).report.alarm ≡ share sig 14 1 = ap (rung sig) comes.0 in
      let sum = comes.1 in
      let here : Even sig s (arrive_signal rang 14 1) 0 0 = omega (arith, is, sum) in
      either (λ (o : Outcome). Even sig s o 0 0) (has_come g.state.now g.state.alarm) (arrive_signal rang 14 1) g here (even_bare sig s g bare)

  even_tick : (quantum : ℕ) (s : State) → Even sig s (tick quantum (begun s)) 0 0
  even_tick quantum s =
      let later : State = record s { now = s.now + 1 } in
      let charged : State = charge quantum later (chosen s) in
      let g : Outcome = record (begun s) { state = charged } in
      let calm : Outcome = expire_all g (expired charged) in
      let first = is_bare s g (ap (λ (p : ℕ → ℕ → ℕ). (p, told_of (begun s).report)) (pending_charge quantum later (chosen s))) in
      even_ring s calm (bare_kept s g calm first (keeps_expire_all g (expired charged)))

  pub balances_arrived : (rules : Rules) (s : State) (first count : ℕ) (at : Place) (o : Option Entry) → Balances sig s (arrived rules s first count at o)
  balances_arrived rules s first count at None = balances_quiet s (begun s) (bare_begun s) refl
  balances_arrived rules s first count at (Some entry) = by entry.what
    where
      by : (what : What) → Balances sig s (arrived rules s first count at (Some (record entry { what = what })))
      by (Sig other) =
          let comes = signal_comes sig s (begun s) (bare_begun s) high 0 (inl refl) other count in
          let alarm : rung sig (arrive_signal (begun s) other count).report.alarm ≡ 0 = ap (rung sig) comes.0 ∙ none_rung sig s (begun s) (bare_begun s) in
          let sum = comes.1 in
          omega (arith, alarm, sum)
      by Tick = even_tick rules.settings.quantum s
      by (Data start len) =
          let joined : Outcome = record (begun s) { state = record s { input = s.input ++ take len (drop start rules.journal.bytes) } } in
          let served : Outcome = serve_all joined (readers s) in
          even_bare sig s served (is_bare s served (keeps_serve_all joined (readers s)))
      by Eof =
          let over : Outcome = record (begun s) { state = record s { is_input_over = true } } in
          let answered : Outcome = answer_all over (readers s) in
          even_bare sig s answered (is_bare s answered (keeps_answer_all over (readers s)))

-- ---- runs

module _ (sig : ℕ) (low : 1 ≤ sig) (high : sig ≤ 31) (rules : Rules) where
  balances_move : (now : Moment) (move : Move) → IsGood now.state → Allowed rules now move → Balances sig now.state (make rules now.state move)
  balances_move now (Instr t) good allowed = let turn = chosen_ready now.state t good allowed.0.first in balances_instruction sig low high now.state t turn.1 good
  balances_move now (Arrive first count at) good may = balances_arrived sig low high rules now.state first count at (entry_at rules.journal.entries first)
  balances_move now Deliver good allowed =
      subst (λ o. Balances sig now.state (delivered now.state o)) (sym allowed.2)
      (balances_delivered sig low high now.state allowed.1 good (next_due now.state allowed.1 allowed.2))

  state_moved : (now : Moment) (move : Move) → (moved rules now move).state ≡ (make rules now.state move).state
  state_moved now (Instr t) = refl
  state_moved now (Arrive first count at) = refl
  state_moved now Deliver = refl

  -- of every run from a good state, what came and what pended is what went and what is left
  pub ledger_goes_on : (now : Moment) (moves : List Move) → IsGood now.state → IsRun rules now moves
      → income sig (reports rules now moves) + left_in now.state.pending sig
      ≡ outcome sig (reports rules now moves) + left_in (after rules now moves).state.pending sig
  ledger_goes_on now [] good run = refl
  ledger_goes_on now (move ∷ moves) good run =
      let here = balances_move now move good run.0 in
      let same = ap (λ (s : State). left_in s.pending sig) (state_moved now move) in
      let rest = ledger_goes_on (moved rules now move) moves (goodness.1 rules now move good run.0) run.1 in
      omega (arith, here, same, rest)

so_far_closes : (rules : Rules) (memory : List ℕ) (entry : ℕ) (moves : List Move) (sig : ℕ) → IsRun rules (start memory entry) moves → (1 ≤ sig) × (sig ≤ 31)
    → income sig (reports rules (start memory entry) moves)
    ≡ outcome sig (reports rules (start memory entry) moves) + left_of (after rules (start memory entry) moves).state sig
so_far_closes rules memory entry moves sig run number =
    let whole = ledger_goes_on sig number.0 number.1 rules (start memory entry) moves (goodness.0 memory entry) run in
    let first = none_left sig in
    let last = left_is (after rules (start memory entry) moves).state sig in
    omega (arith, whole, first, last)

pub ledger_closes : LedgerCloses
ledger_closes = record {
  so_far = λ rules memory entry moves sig run scope. so_far_closes rules memory entry moves sig run (in_range sig scope);
  whole = λ rules memory entry moves ending sig whole scope.
      let last = left_at (after rules (start memory entry) moves).state sig (in_range sig scope).1 in
      so_far_closes rules memory entry moves sig whole.run (in_range sig scope)
      ∙ ap (λ n. outcome sig (reports rules (start memory entry) moves) + n) (sym last);
}
