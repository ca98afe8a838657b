-- Laws over moves and whole runs.
use Rattle.std.specs.Prelude.{ℕ, ◌+◌, ◌≡◌, ◌≤◌, ◌<◌, ◌⊎◌, true, false, List, ◌∷◌, ◌++◌, Some, is_some}
use Rattle.std.specs.List.{AllZip}
use Rattle.thread_base.specs.Deliveries.{signals}
use Rattle.thread_base.specs.Orders.{without, IsOrder}
use Rattle.thread_base.specs.Priority.{first_greatest, IsEffective}
use Rattle.thread_base.specs.declared.Place.{Place}
use Rattle.journal_text.specs.Valid.{IsJournal}
use Rattle.rv_exec.specs.declared.Special.{Special}
use Rattle.posix_model.specs.State.{State, Registers, waits_on}
use Rattle.posix_model.specs.Scheduling.{own, edge, eff, chosen}
use Rattle.posix_model.specs.Calls.{call}
use Rattle.posix_model.specs.Deliveries.{Delivery, next_delivery, faulted, deliver}
use Rattle.posix_model.specs.Instructions.{went_on, returned}
use Rattle.posix_model.specs.Conditions.{in_order}
use Rattle.posix_model.specs.ConditionCalls.{cond_broadcast}
use Rattle.posix_model.specs.Good.{IsGood}
use Rattle.posix_model.specs.Journals.{Taken, OfSignal, OfTicks, OfInput}
use Rattle.posix_model.specs.Runs.{Rules, Moment, Allowed, IsRun, Ends, make, moved, after}
use Rattle.posix_model.specs.Trace.{text, end_text}
use Rattle.posix_model.specs.Start.{start}
use Rattle.posix_model.specs.Weights.{weight, PendsInScope, pending_in_all, total}
use Rattle.posix_model.specs.declared.Arguments.{Arguments}
use Rattle.posix_model.specs.declared.Move.{Move}
use Rattle.posix_model.specs.declared.Move.TheVariants.{Instr, Arrive}
use Rattle.posix_model.specs.declared.Ending.{Ending}

-- from a start, a list of moves is a whole run with this ending
pub record IsWholeRun (rules : Rules) (start : Moment) (moves : List Move) (ending : Ending) : Type 0 where
  pub run : IsRun rules start moves
  pub ends : Ends rules (after rules start moves) ending

-- the same move, wherever the first entry that arrives was presented
abbrev pub IsSameMove : Move → Move → Type 0
IsSameMove (Arrive first count at) (Arrive other many place) = (first ≡ other) × (count ≡ many)
IsSameMove move other = move ≡ other

-- the whole text of a run
abbrev pub whole_text : Rules → Moment → List Move → Ending → List ℕ
whole_text rules start moves ending = text rules start moves ++ end_text (after rules start moves) ending

-- two whole runs from one good start under one journal and the same settings that have the same text have the same moves,
-- wherever entries were presented, and the same ending
abbrev pub OneRun : Type 0
OneRun =
    (rules : Rules) (start : Moment) (moves others : List Move) (ending other : Ending) → IsJournal rules.journal → IsGood start.state →
    IsWholeRun rules start moves ending → IsWholeRun rules start others other →
    whole_text rules start moves ending ≡ whole_text rules start others other → AllZip IsSameMove moves others × (ending ≡ other)

-- where an instruction is allowed, no other move is
abbrev pub InstructionIsAlone : Type 0
InstructionIsAlone =
    (rules : Rules) (now : Moment) (tid : ℕ) (other : Move) → Allowed rules now (Instr tid) → Allowed rules now other → other ≡ Instr tid

-- the run has ended by one ending and by no other, and no move is allowed
pub record HasEnded (rules : Rules) (now : Moment) : Type 0 where
  pub ending : Ending
  pub ends : Ends rules now ending
  pub alone : (other : Ending) → Ends rules now other → other ≡ ending
  pub stopped : (move : Move) → Allowed rules now move → ⊥

-- a move is allowed, and the run has not ended
pub record GoesOn (rules : Rules) (now : Moment) : Type 0 where
  pub move : Move
  pub allowed : Allowed rules now move
  pub open_ended : (ending : Ending) → Ends rules now ending → ⊥

-- within the budget the run has ended, or a move is allowed
abbrev pub Progress : Type 0
Progress = (rules : Rules) (now : Moment) → IsJournal rules.journal → now.instructions ≤ rules.settings.budget → HasEnded rules now ⊎ GoesOn rules now

-- from a good state within the budget every run so far goes on to a whole run
abbrev pub Completion : Type 0
Completion =
    (rules : Rules) (now : Moment) → IsJournal rules.journal → IsGood now.state → now.instructions ≤ rules.settings.budget →
    (moves : List Move) × (ending : Ending) × IsWholeRun rules now moves ending

-- every stay ends: a delivery lowers the weight of a good state, an arrival raises it by 3 at most, and where nothing pends
-- but signals in scope it is 1,870 at most
pub record StaysEnd : Type 0 where
  pub delivery : (s : State) (d : Delivery) → IsGood s → next_delivery s ≡ Some d → weight (deliver s).state < weight s
  pub arrival : (rules : Rules) (s : State) (first count : ℕ) (at : Place) → weight (make rules s (Arrive first count at)).state ≤ weight s + 3
  pub most : (s : State) → PendsInScope s → weight s ≤ 1870

-- the start is good, and every run from a good state leads to a good state
abbrev pub Goodness : Type 0
Goodness =
    ((memory : List ℕ) (entry : ℕ) → IsGood (start memory entry).state)
    × ((rules : Rules) (now : Moment) (move : Move) → IsGood now.state → Allowed rules now move → IsGood (moved rules now move).state)
    × ((rules : Rules) (now : Moment) (moves : List Move) → IsGood now.state → IsRun rules now moves → IsGood (after rules now moves).state)

-- whatever the chosen thread does in one instruction keeps a good state good: a plain one, a call of any number with
-- any arguments, a special return, a fault
abbrev pub InstructionsKeepGood : Type 0
InstructionsKeepGood =
    (s : State) (t : ℕ) → IsGood s → chosen s ≡ Some t →
    ((registers : Registers) (memory : List ℕ) → IsGood (went_on s t registers memory).state)
    × ((number : ℕ) (c : Arguments) → IsGood (call s t number c).state)
    × ((which : Special) → IsGood (returned s t which).state)
    × ((signal : ℕ) → IsGood (faulted s t signal).state)

-- the next delivery keeps a good state good
abbrev pub DeliveriesKeepGood : Type 0
DeliveriesKeepGood = (s : State) → IsGood s → IsGood (deliver s).state

-- whatever arrives keeps a good state good
abbrev pub ArrivalsKeepGood : Type 0
ArrivalsKeepGood = (rules : Rules) (s : State) (first count : ℕ) (at : Place) → IsGood s → IsGood (make rules s (Arrive first count at)).state

-- a plain instruction leaves the chosen thread and the next delivery
abbrev pub PlainInstructionsLeave : Type 0
PlainInstructionsLeave =
    (s : State) (t : ℕ) (registers : Registers) (memory : List ℕ) →
    (chosen (went_on s t registers memory).state ≡ chosen s) × (next_delivery (went_on s t registers memory).state ≡ next_delivery s)

-- how many entries were taken in all
abbrev pub taken_in_all : Taken → ℕ
taken_in_all taken = total (λ sig. taken (OfSignal sig)) signals + taken OfTicks + taken OfInput

-- all that pends came by an instruction or an entry and has a signal in scope, and the time is at most the ticks taken
pub record IsBounded (now : Moment) : Type 0 where
  pub sum : pending_in_all now.state ≤ now.instructions + taken_in_all now.taken
  pub time : now.state.now ≤ now.taken OfTicks
  pub scope : PendsInScope now.state

-- so it is after every run from a start
abbrev pub PendingIsBounded : Type 0
PendingIsBounded =
    (rules : Rules) (memory : List ℕ) (entry : ℕ) (moves : List Move) → IsJournal rules.journal → IsRun rules (start memory entry) moves →
    IsBounded (after rules (start memory entry) moves)

-- a thread's effective priority is the greatest own priority over the thread itself and every thread from which
-- a chain of waits leads to it (POSIX.1 priority inheritance)
abbrev pub PriorityIsInherited : Type 0
PriorityIsInherited = (s : State) (t : ℕ) → 1 ≤ t → t ≤ 64 → IsEffective (own s) (edge s) t (eff s t)

-- of waiters in order the first is the one whom a signal would wake, and then come the others in order
-- (POSIX.1 pthread_cond_broadcast)
abbrev pub BestComesFirst : Type 0
BestComesFirst =
    (key : ℕ → ℕ) (ts : List ℕ) (t : ℕ) → IsOrder ts → first_greatest key ts ≡ Some t →
    in_order key ts ≡ t ∷ in_order key (without t ts)

-- after a broadcast nobody waits for the condition (POSIX.1 pthread_cond_broadcast)
abbrev pub EveryoneIsWoken : Type 0
EveryoneIsWoken =
    (s : State) (t : ℕ) (c : Arguments) → IsGood s → is_some (s.conditions c.a0) ≡ true →
    (u : ℕ) → waits_on c.a0 ((cond_broadcast s t c).outcome.state.threads u).standing ≡ false
