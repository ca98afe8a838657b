-- The course of a run, and runs that follow it wherever their entries were presented (this project's own).
use Rattle.std.specs.Prelude.{ℕ, ◌≡◌, ◌≤◌, Bool, if◌then◌else◌, nat_lt, List, [], ◌∷◌, ◌++◌, length, Option, Some, None}
use Rattle.std.specs.List.{AllZip}
use Rattle.thread_base.specs.declared.Place.{Place}
use Rattle.journal_text.specs.Valid.{IsJournal}
use Rattle.journal_text.specs.declared.entry.Entry.{Entry}
use Rattle.posix_model.specs.State.{State}
use Rattle.posix_model.specs.Scheduling.{chosen}
use Rattle.posix_model.specs.Deliveries.{Delivery, next_delivery}
use Rattle.posix_model.specs.Good.{IsGood}
use Rattle.posix_model.specs.Journals.{entry_at}
use Rattle.posix_model.specs.Runs.{Rules, Moment, due, make, moved, after, Ends}
use Rattle.posix_model.specs.Laws.{IsWholeRun, IsSameMove, whole_text}
use Rattle.posix_model.specs.Start.{start}
use Rattle.posix_model.specs.declared.Move.{Move}
use Rattle.posix_model.specs.declared.Move.TheVariants.{Instr, Arrive, Deliver}
use Rattle.posix_model.specs.declared.Ending.{Ending}
use Rattle.trace_text.specs.Texts.{plain_text}

-- an instruction of the chosen thread, where the budget has room
abbrev pub turn : Option ℕ → Bool → Option Move
turn None room = None
turn (Some t) room = if room then Some (Instr t) else None

-- the lowest due entry alone, else the next delivery, else the turn of a thread
abbrev pub first_of : Place → List ℕ → Option Delivery → Option Move → Option Move
first_of at (n ∷ ns) delivery next = Some (Arrive n 1 at)
first_of at [] (Some d) next = Some Deliver
first_of at [] None next = next

-- no move where the process is over
abbrev pub unless_over : Option Ending → Option Move → Option Move
unless_over (Some ending) next = None
unless_over None next = next

-- the next move of the course
abbrev pub next_move : Rules → Moment → Option Move
next_move rules now =
    unless_over now.state.over
    (first_of (record { n = now.instructions; k = 0 }) (due rules now) (next_delivery now.state)
    (turn (chosen now.state) (nat_lt now.instructions rules.settings.budget)))

-- the moves are the course: each is the next one, and there is none at the end
abbrev pub IsCourse : Rules → Moment → List Move → Type 0
IsCourse rules now [] = next_move rules now ≡ None
IsCourse rules now (move ∷ moves) = (next_move rules now ≡ Some move) × IsCourse rules (moved rules now move) moves

-- no two entries come after the same number of instructions
abbrev pub AreApart : List Entry → Type 0
AreApart entries = (m n : ℕ) (a b : Entry) → entry_at entries m ≡ Some a → entry_at entries n ≡ Some b → a.place.n ≡ b.place.n → m ≡ n

-- a state is settled for a move: no delivery is next where an entry arrives
abbrev pub IsSettledFor : State → Move → Type 0
IsSettledFor s (Instr tid) = Unit {0}
IsSettledFor s (Arrive first count at) = next_delivery s ≡ None
IsSettledFor s Deliver = Unit {0}

-- along a list of moves each entry arrives in a settled state
abbrev pub ArriveSettled : Rules → Moment → List Move → Type 0
ArriveSettled rules now [] = Unit {0}
ArriveSettled rules now (move ∷ moves) = IsSettledFor now.state move × ArriveSettled rules (moved rules now move) moves

-- a journal is calm along a course: its entries are apart, one at most is due at the start, and each arrives in a settled state
pub record IsCalm (rules : Rules) (now : Moment) (course : List Move) : Type 0 where
  pub apart : AreApart rules.journal.entries
  pub one : length (due rules now) ≤ 1
  pub settled : ArriveSettled rules now course

-- a run is the course but for where its entries were presented: it has the moves, the ending and both texts of the course
pub record Follows (rules : Rules) (now : Moment) (course moves : List Move) (ending : Ending) : Type 0 where
  pub same : AllZip IsSameMove course moves
  pub ends : Ends rules (after rules now course) ending
  pub told : whole_text rules now moves ending ≡ whole_text rules now course ending
  pub plain : plain_text rules now moves ≡ plain_text rules now course

-- place independence: where a journal is calm along the course, every whole run follows it
abbrev pub OneCourse : Type 0
OneCourse =
    (rules : Rules) (now : Moment) (course moves : List Move) (ending : Ending) →
    IsCourse rules now course → IsCalm rules now course → IsWholeRun rules now moves ending → Follows rules now course moves ending

-- then any two whole runs have the same moves but for where their entries were presented, the same ending and the same texts
abbrev pub AllAlike : Type 0
AllAlike =
    (rules : Rules) (now : Moment) (course moves others : List Move) (ending other : Ending) →
    IsCourse rules now course → IsCalm rules now course → IsWholeRun rules now moves ending → IsWholeRun rules now others other →
    AllZip IsSameMove moves others × (ending ≡ other) × (whole_text rules now moves ending ≡ whole_text rules now others other)
    × (plain_text rules now moves ≡ plain_text rules now others)

-- from a good state within the budget there is one course, and it is a whole run
abbrev pub CourseExists : Type 0
CourseExists =
    (rules : Rules) (now : Moment) → IsJournal rules.journal → IsGood now.state → now.instructions ≤ rules.settings.budget →
    (course : List Move) × (ending : Ending) × IsCourse rules now course × IsWholeRun rules now course ending
    × ((other : List Move) → IsCourse rules now other → other ≡ course)

-- from the machine's start, where entries are apart, there is one course, and it is a whole run; and where each of its entries
-- arrives in a settled state, every whole run follows it and ends as it does
abbrev pub OneCourseFromStart : Type 0
OneCourseFromStart =
    (rules : Rules) (memory : List ℕ) (entry : ℕ) → IsJournal rules.journal → AreApart rules.journal.entries →
    (course : List Move) × (ending : Ending) × IsCourse rules (start memory entry) course × IsWholeRun rules (start memory entry) course ending
    × (ArriveSettled rules (start memory entry) course → (moves : List Move) (other : Ending) → IsWholeRun rules (start memory entry) moves other →
    Follows rules (start memory entry) course moves other × (other ≡ ending))
