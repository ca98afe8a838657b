-- Within the budget a run has ended or a move is allowed, and every run so far goes on to a whole run.
use Rattle.std.proofs.Common.{◌≡◌, ◌∙◌, ap, sym, refl, subst, ℕ, zero, suc, ◌+◌, ◌≤◌, List, [], ◌∷◌, length, take, Option, Some, None, ◌++◌, append_assoc, append-nil, arith, inl, inr, ◌⊎◌, true}
use Rattle.std.specs.Prelude.{◌==◌, slice_get, is_none}
use Rattle.std.specs.List.{AllByRecursion}
use Rattle.std.proofs.lemmas.Bool.{cases_lt, and_from, or_left, eq-eqb}
use Rattle.thread_base.specs.Orders.{is_in, is_nil}
use Rattle.thread_base.specs.Priority.{first_greatest}
use Rattle.thread_base.proofs.PriorityLemmas.{first_some}
use Rattle.journal_text.specs.Valid.{IsJournal}
use Rattle.posix_model.specs.State.{State}
use Rattle.posix_model.specs.Scheduling.{eff, chosen}
use Rattle.posix_model.specs.Deliveries.{Delivery, next_delivery}
use Rattle.posix_model.specs.Good.{IsGood}
use Rattle.posix_model.specs.Journals.{Kind, OfSignal, OfTicks, OfInput, kind_of}
use Rattle.posix_model.specs.Runs.{Rules, Moment, Allowed, IsTurnOf, IsAlone, MayArrive, IsRun, Ends, due, is_settled, is_waiting, moved, after}
use Rattle.posix_model.specs.Laws.{IsWholeRun, HasEnded, GoesOn, Progress, Completion}
use Rattle.posix_model.specs.Trace.{text, end_text, IsText, IsWholeText}
use Rattle.posix_model.specs.declared.Ending.{Ending}
use Rattle.posix_model.specs.declared.Ending.TheVariants.{Idle, Budget}
use Rattle.posix_model.specs.declared.Move.{Move}
use Rattle.posix_model.specs.declared.Move.TheVariants.{Instr, Arrive, Deliver}
use Rattle.posix_model.proofs.GoodMoves.{goodness}
use Rattle.posix_model.proofs.EndLemmas.{no_more, one_ending}
use Rattle.posix_model.proofs.JournalLemmas.{IsNextDue, next_due, all_taken}
use Rattle.posix_model.proofs.TraceLemmas.{moves_left, moves_fall, IsRun-append, after-append, text-append}

has_ended : (rules : Rules) (now : Moment) (e : Ending) → Ends rules now e → HasEnded rules now
has_ended rules now e ends = record {
  ending = e;
  ends = ends;
  alone = λ other more. one_ending rules now other e more ends;
  stopped = λ move allowed. no_more rules now e move ends allowed;
}

goes_on : (rules : Rules) (now : Moment) (move : Move) → Allowed rules now move → GoesOn rules now
goes_on rules now move allowed = record { move = move; allowed = allowed; open_ended = λ e ends. no_more rules now e move ends allowed }

-- one entry of each kind may arrive alone
pub one_alone : (kind : Kind) → IsAlone kind 1
one_alone (OfSignal s) = omega arith
one_alone OfTicks = refl
one_alone OfInput = refl

one_arrives : (rules : Rules) (now : Moment) (k : ℕ) (next : IsNextDue rules now) → now.state.over ≡ None
    → MayArrive rules now next.first 1 (record { n = now.instructions; k = k })
one_arrives rules now k next over =
    record {
      going_on = over;
      entry = next.entry;
      here = next.here;
      next = ap (λ xs. slice_get xs 0) next.next;
      alone = one_alone (kind_of next.entry.what);
      enough = subst (λ xs. 1 ≤ length xs) (sym next.next) (omega arith);
      due = subst (λ xs. AllByRecursion (λ n. is_in n (due rules now) ≡ true) (take 1 xs)) (sym next.next) (next.due, tt);
      place = refl;
    }

some_due : (rules : Rules) (now : Moment) (n : ℕ) (ns : List ℕ) → due rules now ≡ n ∷ ns → IsJournal rules.journal → IsNextDue rules now
some_due rules now n ns is journal = next_due rules now n journal (ap (is_in n) is ∙ or_left (n == n) (is_in n ns) (eq-eqb n n refl))

-- where nobody is chosen, nobody is ready
nobody_ready : (key : ℕ → ℕ) (ready : List ℕ) → first_greatest key ready ≡ None → is_nil ready ≡ true
nobody_ready key [] h = refl
nobody_ready key (t ∷ ts) h = let one = first_some key t ts in let e : Some one.0 ≡ None = sym one.1 ∙ h in absurd (cc)

waits : (s : State) → next_delivery s ≡ None → chosen s ≡ None → is_waiting s ≡ true
unfolding chosen
waits s settled nobody = and_from (is_settled s) (is_nil s.ready) (ap is_none settled) (nobody_ready (eff s) s.ready nobody)

-- the cases of progress: over, an entry that is due, a delivery, nobody, a thread within the budget or at its end
found : (rules : Rules) (now : Moment) (over : Option Ending) (ns : List ℕ) (delivery : Option Delivery) (first : Option ℕ)
    → now.state.over ≡ over → due rules now ≡ ns → next_delivery now.state ≡ delivery → chosen now.state ≡ first
    → IsJournal rules.journal → now.instructions ≤ rules.settings.budget → HasEnded rules now ⊎ GoesOn rules now
found rules now (Some e) ns delivery first over none next is journal within = inl (has_ended rules now e (inl over))
found rules now None (n ∷ ns) delivery first over some next is journal within =
    let entry = some_due rules now n ns some journal in
    inr (goes_on rules now (Arrive entry.first 1 (record { n = now.instructions; k = 0 })) (one_arrives rules now 0 entry over))
found rules now None [] (Some d) first over none next is journal within = inr (goes_on rules now Deliver (over, d, next))
found rules now None [] None None over none next is journal within =
    inl (has_ended rules now Idle (inr (inl (refl, record { going_on = over; settled = next; nobody = is; taken = all_taken rules now (waits now.state next is) none }))))
found rules now None [] None (Some t) over none next is journal within =
    let turn : IsTurnOf rules now t = record { going_on = over; nothing_due = none; settled = next; first = is } in
    elim (cases_lt now.instructions rules.settings.budget) [
      | inl less ↦ inr (goes_on rules now (Instr t) (turn, less))
      | inr more ↦ inl (has_ended rules now Budget (inr (inr (refl, record { used_up = omega (arith, within, more); tid = t; turn = turn }))))
    ]

pub progress : Progress
progress rules now journal within = found rules now now.state.over (due rules now) (next_delivery now.state) (chosen now.state) refl refl refl refl journal within

-- a move keeps within the budget
pub still_within : (rules : Rules) (now : Moment) (move : Move) → now.instructions ≤ rules.settings.budget → Allowed rules now move
    → (moved rules now move).instructions ≤ rules.settings.budget
still_within rules now (Instr t) within a = let less = a.1 in omega (arith, less)
still_within rules now (Arrive first count at) within a = within
still_within rules now Deliver within a = within

completed : (n : ℕ) (rules : Rules) (now : Moment) → IsJournal rules.journal → IsGood now.state → now.instructions ≤ rules.settings.budget
    → moves_left rules now ≤ n → (moves : List Move) × (ending : Ending) × IsWholeRun rules now moves ending
completed zero rules now journal good within few =
    elim (progress rules now journal within) [
      | inl done ↦ ([], done.ending, record { run = tt; ends = done.ends })
      | inr more ↦ absurd (let less = moves_fall rules now more.move journal good more.allowed in omega (arith, less, few))
    ]
completed (suc n) rules now journal good within few =
    elim (progress rules now journal within) [
      | inl done ↦ ([], done.ending, record { run = tt; ends = done.ends })
      | inr more ↦
          (let less = moves_fall rules now more.move journal good more.allowed in
          let rest =
          completed n rules (moved rules now more.move) journal (goodness.1 rules now more.move good more.allowed)
          (still_within rules now more.move within more.allowed) (omega (arith, less, few)) in
          (more.move ∷ rest.0, rest.1, record { run = (more.allowed, rest.2.run); ends = rest.2.ends }))
    ]

pub completion : Completion
completion rules now journal good within = completed (moves_left rules now) rules now journal good within (omega arith)

-- a run keeps within the budget
after_within : (rules : Rules) (now : Moment) (moves : List Move) → now.instructions ≤ rules.settings.budget → IsRun rules now moves
    → (after rules now moves).instructions ≤ rules.settings.budget
after_within rules now [] within run = within
after_within rules now (m ∷ ms) within run = after_within rules (moved rules now m) ms (still_within rules now m within run.0) run.1

-- the moves of a run leave fewer that may follow
pub run_falls : (rules : Rules) (now : Moment) (moves : List Move) → IsJournal rules.journal → IsGood now.state → IsRun rules now moves
    → length moves + moves_left rules (after rules now moves) ≤ moves_left rules now
run_falls rules now [] journal good run = omega arith
run_falls rules now (move ∷ moves) journal good run =
    let one = moves_fall rules now move journal good run.0 in
    let rest = run_falls rules (moved rules now move) moves journal (goodness.1 rules now move good run.0) run.1 in
    omega (arith, one, rest)

-- the text of a run so far is a front of the text of a whole run
pub whole_of_part : (rules : Rules) (start : Moment) (trace : List ℕ) → IsJournal rules.journal → IsGood start.state
    → start.instructions ≤ rules.settings.budget → IsText rules start trace
    → (ending : Ending) × (rest : List ℕ) × IsWholeText rules start ending (trace ++ rest)
whole_of_part rules start trace journal good within part =
    elim part.told [
      | inl e ↦
          (let now = after rules start part.moves in
          let more = completion rules now journal (goodness.2 rules start part.moves good part.run) (after_within rules start part.moves within part.run) in
          let end = end_text (after rules now more.0) more.1 in (
            more.1,
            text rules now more.0 ++ end,
            record {
              moves = part.moves ++ more.0;
              run = IsRun-append rules start part.moves more.0 part.run more.2.run;
              ends = subst (λ n. Ends rules n more.1) (sym (after-append rules start part.moves more.0)) more.2.ends;
              told =
                  ap (λ t. t ++ (text rules now more.0 ++ end)) e
                  ∙ sym (append_assoc (text rules start part.moves) (text rules now more.0) end)
                  ∙ ap (λ t. t ++ end) (sym (text-append rules start part.moves more.0))
                  ∙ ap (λ n. text rules start (part.moves ++ more.0) ++ end_text n more.1) (sym (after-append rules start part.moves more.0));
            },
          ))
      | inr e ↦ (e.0, [], record { moves = part.moves; run = part.run; ends = e.1; told = append-nil trace ∙ e.2 })
    ]
