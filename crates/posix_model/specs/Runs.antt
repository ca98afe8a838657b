-- Which move is allowed when, runs, and how a run ends (POSIX.1 scheduling; entries, places and endings are this project's own).
use Rattle.std.specs.Prelude.{ℕ, ◌+◌, ◌<◌, ◌≤◌, ◌≡◌, ◌⊎◌, ◌&&◌, Bool, true, false, is_none, List, [], ◌∷◌, take, drop, length, slice_get, Option, Some, None}
use Rattle.std.specs.List.{AllByRecursion}
use Rattle.thread_base.specs.Orders.{is_nil, is_in}
use Rattle.thread_base.specs.declared.Place.{Place}
use Rattle.journal_text.specs.Contents.{Contents}
use Rattle.journal_text.specs.declared.entry.Entry.{Entry}
use Rattle.journal_text.specs.declared.entry.What.{What}
use Rattle.journal_text.specs.declared.entry.What.TheVariants.{Sig, Tick, Data, Eof}
use Rattle.posix_model.specs.State.{State}
use Rattle.posix_model.specs.declared.Settings.{Settings}
use Rattle.posix_model.specs.Scheduling.{chosen}
use Rattle.posix_model.specs.Changes.{Outcome, begun}
use Rattle.posix_model.specs.Deliveries.{Delivery, next_delivery, deliver}
use Rattle.posix_model.specs.Arrivals.{arrive_signal, tick, arrive_data, arrive_end}
use Rattle.posix_model.specs.Instructions.{instruction}
use Rattle.posix_model.specs.Journals.{Kind, OfSignal, OfTicks, OfInput, kind_of, Taken, with_taken, left_of_kind, entry_at, untaken, reached}
use Rattle.posix_model.specs.declared.Head.{Head}
use Rattle.posix_model.specs.declared.Head.TheVariants.{ArriveSig, ArriveTick, ArriveData, ArriveEof}
use Rattle.posix_model.specs.declared.Move.{Move}
use Rattle.posix_model.specs.declared.Move.TheVariants.{Instr, Arrive, Deliver}
use Rattle.posix_model.specs.declared.Ending.{Ending}
use Rattle.posix_model.specs.declared.Ending.TheVariants.{Idle, Budget}

-- under what a run is made: the budget and the quantum, and the journal
pub record Rules : Type 0 where
  pub settings : Settings
  pub journal : Contents

-- a run so far: its state, how many instructions were made, by which thread the last, and how many entries of each kind
-- were taken
pub record Moment : Type 0 where
  pub state : State
  pub instructions : ℕ
  pub last : Option ℕ
  pub taken : Taken

-- no delivery is next
abbrev pub is_settled : State → Bool
is_settled s = is_none (next_delivery s)

-- nothing can happen but by an entry: nobody is ready, and no delivery is next
abbrev pub is_waiting : State → Bool
is_waiting s = is_settled s && is_nil s.ready

-- the entries that are due: those whose places are reached, and else the next one where nothing else can happen
abbrev pub due_by : List ℕ → List ℕ → Bool → List ℕ
due_by [] left true = take 1 left
due_by [] left false = []
due_by (n ∷ ns) left waiting = n ∷ ns

-- the numbers of the entries that are due
unfoldable pub due : Rules → Moment → List ℕ
due rules now =
    due_by (reached rules.journal.entries now.taken now.instructions) (untaken rules.journal.entries now.taken) (is_waiting now.state)

-- the main line of an arrival is told, with the place of its first entry; it is of no thread
abbrev pub told_at : Place → Head → Outcome → Outcome
told_at at head g = record g { report = record g.report { tid = 0; head = head; at = at } }

-- what entries of one kind make, by what the first of them is
abbrev pub arrived : Rules → State → ℕ → ℕ → Place → Option Entry → Outcome
arrived rules s first count at None = begun s
arrived rules s first count at (Some entry) = by entry.what
  where
    by : What → Outcome
    by (Sig sig) = told_at at (ArriveSig first count sig) (arrive_signal (begun s) sig count)
    by Tick = told_at at (ArriveTick first) (tick rules.settings.quantum (begun s))
    by (Data start len) = told_at at (ArriveData first len) (arrive_data (begun s) (take len (drop start rules.journal.bytes)))
    by Eof = told_at at (ArriveEof first) (arrive_end (begun s))

-- what a move makes, with what is told of it
abbrev pub make : Rules → State → Move → Outcome
make rules s (Instr tid) = instruction s tid
make rules s (Arrive first count at) = arrived rules s first count at (entry_at rules.journal.entries first)
make rules s Deliver = deliver s

-- more entries of the kind of one were taken
abbrev pub taken_by : Taken → ℕ → Option Entry → Taken
taken_by taken count None = taken
taken_by taken count (Some entry) = with_taken taken (kind_of entry.what) count

-- the run after one more move
abbrev pub moved : Rules → Moment → Move → Moment
moved rules now (Instr tid) = record now { state = (make rules now.state (Instr tid)).state; instructions = now.instructions + 1; last = Some tid }
moved rules now (Arrive first count at) = record now {
  state = (make rules now.state (Arrive first count at)).state;
  taken = taken_by now.taken count (entry_at rules.journal.entries first);
}
moved rules now Deliver = record now { state = (make rules now.state Deliver).state }

-- an instruction of the thread would be allowed, but for the budget
pub record IsTurnOf (rules : Rules) (now : Moment) (tid : ℕ) : Type 0 where
  pub going_on : now.state.over ≡ None
  pub nothing_due : due rules now ≡ []
  pub settled : next_delivery now.state ≡ None
  pub first : chosen now.state ≡ Some tid

-- entries of this kind are taken one by one: all but those of a signal
abbrev pub IsAlone : Kind → ℕ → Type 0
IsAlone (OfSignal s) count = 1 ≤ count
IsAlone OfTicks count = count ≡ 1
IsAlone OfInput count = count ≡ 1

-- so many entries may arrive: the next of the kind of the first, all of them due, presented after the instructions made
pub record MayArrive (rules : Rules) (now : Moment) (first count : ℕ) (at : Place) : Type 0 where
  pub going_on : now.state.over ≡ None
  pub entry : Entry
  pub here : entry_at rules.journal.entries first ≡ Some entry
  pub next : slice_get (left_of_kind rules.journal.entries now.taken (kind_of entry.what)) 0 ≡ Some first
  pub alone : IsAlone (kind_of entry.what) count
  pub enough : count ≤ length (left_of_kind rules.journal.entries now.taken (kind_of entry.what))
  pub due : AllByRecursion (λ n. is_in n (due rules now) ≡ true) (take count (left_of_kind rules.journal.entries now.taken (kind_of entry.what)))
  pub place : at.n ≡ now.instructions

-- a move is allowed in its turn: entries that are due, the next delivery, or an instruction of the chosen thread where
-- nothing is due and no delivery is next
abbrev pub Allowed : Rules → Moment → Move → Type 0
Allowed rules now (Instr tid) = IsTurnOf rules now tid × (now.instructions < rules.settings.budget)
Allowed rules now (Arrive first count at) = MayArrive rules now first count at
Allowed rules now Deliver = (now.state.over ≡ None) × (d : Delivery) × (next_delivery now.state ≡ Some d)

-- a list of moves is a run: each is allowed in its turn
abbrev pub IsRun : Rules → Moment → List Move → Type 0
IsRun rules now [] = Unit {0}
IsRun rules now (move ∷ moves) = Allowed rules now move × IsRun rules (moved rules now move) moves

-- where a list of moves leads
abbrev pub after : Rules → Moment → List Move → Moment
after rules now [] = now
after rules now (move ∷ moves) = after rules (moved rules now move) moves

-- no thread could go on, nothing else can happen, and every entry is taken
pub record IsIdle (rules : Rules) (now : Moment) : Type 0 where
  pub going_on : now.state.over ≡ None
  pub settled : next_delivery now.state ≡ None
  pub nobody : chosen now.state ≡ None
  pub taken : untaken rules.journal.entries now.taken ≡ []

-- an instruction would be allowed, but the budget is used up
pub record IsSpent (rules : Rules) (now : Moment) : Type 0 where
  pub used_up : now.instructions ≡ rules.settings.budget
  pub tid : ℕ
  pub turn : IsTurnOf rules now tid

-- a run ends here, and so
abbrev pub Ends : Rules → Moment → Ending → Type 0
Ends rules now ending =
    (now.state.over ≡ Some ending) ⊎ ((ending ≡ Idle) × IsIdle rules now) ⊎ ((ending ≡ Budget) × IsSpent rules now)
