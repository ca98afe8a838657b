-- How many records of threads the moves change, and the steps of which they are made (this project's own).
use Rattle.std.specs.Prelude.{ℕ, ◌+◌, ◌≡◌, ◌≢◌, ◌≤◌, Bool, true, false, if◌then◌else◌, List, [], ◌∷◌, ◌++◌, length, Some, None}
use Rattle.thread_base.specs.Orders.{is_in}
use Rattle.thread_base.specs.declared.Place.{Place}
use Rattle.journal_text.specs.declared.entry.Entry.{Entry}
use Rattle.journal_text.specs.declared.entry.What.TheVariants.{Sig}
use Rattle.posix_model.specs.State.{State, Registers}
use Rattle.posix_model.specs.Changes.{Outcome}
use Rattle.posix_model.specs.Instructions.{went_on}
use Rattle.posix_model.specs.Journals.{entry_at}
use Rattle.posix_model.specs.Runs.{Rules, Moment, moved, after}
use Rattle.posix_model.specs.declared.Move.{Move}
use Rattle.posix_model.specs.declared.Move.TheVariants.{Instr, Arrive, Deliver}
use Rattle.posix_model.specs.declared.Ending.{Ending}
use Rattle.kernel_state.specs.Changing.{owed, AllCan}
use Rattle.kernel_state.specs.declared.change.Change.{Change}

-- a thread is changed from one state to another: its record differs; one that comes or goes is changed too
abbrev pub IsChanged : State → State → ℕ → Type 0
IsChanged s r t = r.threads t ≢ s.threads t

-- threads that are changed from one state to another, each of them once
abbrev pub AreChanged : State → State → List ℕ → Type 0
AreChanged s r [] = Unit {0}
AreChanged s r (t ∷ ts) = IsChanged s r t × (is_in t ts ≡ false) × AreChanged s r ts

-- what leads from one state to another weighs so much at least: so many threads are changed
abbrev pub WeighsAtLeast : State → State → ℕ → Type 0
WeighsAtLeast s r n = (ts : List ℕ) × AreChanged s r ts × (n ≡ length ts)

-- it weighs so much at most: no more threads than that are changed
abbrev pub WeighsAtMost : State → State → ℕ → Type 0
WeighsAtMost s r n = (ts : List ℕ) → AreChanged s r ts → length ts ≤ n

-- its weight: as many threads as are changed
abbrev pub Weighs : State → State → ℕ → Type 0
Weighs s r n = WeighsAtLeast s r n × WeighsAtMost s r n

-- moves weigh so much at least: their weights together
abbrev pub MovesWeighAtLeast : Rules → Moment → List Move → ℕ → Type 0
MovesWeighAtLeast rules now [] n = n ≡ 0
MovesWeighAtLeast rules now (move ∷ moves) n =
    (first rest : ℕ) × WeighsAtLeast now.state (moved rules now move).state first × MovesWeighAtLeast rules (moved rules now move) moves rest × (n ≡ first + rest)

-- a move is an instruction
abbrev pub is_instruction : Move → Bool
is_instruction (Instr tid) = true
is_instruction (Arrive first count at) = false
is_instruction Deliver = false

-- some move of a list is an instruction
abbrev pub has_instruction : List Move → Bool
has_instruction [] = false
has_instruction (move ∷ moves) = if is_instruction move then true else has_instruction moves

-- the moves since the last instruction, that one included; before the first instruction all moves
abbrev pub since_last : List Move → List Move
since_last [] = []
since_last (move ∷ moves) = if has_instruction moves then since_last moves else move ∷ moves

-- the moves before those
abbrev pub until_last : List Move → List Move
until_last [] = []
until_last (move ∷ moves) = if has_instruction moves then move ∷ until_last moves else []

-- how the kernel makes a move: a plain instruction at once, and every other move by small changes, one after another
pub data Making : Type 0 where
  AtOnce : Making
  By : (changes : List Change) → Making

-- the steps of a making: each small change is one, and so is a plain instruction
abbrev pub steps : Making → ℕ
steps AtOnce = 1
steps (By changes) = length changes

-- the steps of some makings together
abbrev pub steps_of : List Making → ℕ
steps_of [] = 0
steps_of (making ∷ makings) = steps making + steps_of makings

-- a plain instruction of some thread leads from one state to another
abbrev pub IsPlain : State → State → Type 0
IsPlain s r = (t : ℕ) × (registers : Registers) × (memory : List ℕ) × (r ≡ (went_on s t registers memory).state)

-- small changes lead from one state to another, each of which can be made in its turn
abbrev pub Lead : List Change → State → State → Type 0
Lead changes s r = (g : Outcome) × (g.state ≡ s) × AllCan g changes × ((owed g changes).state ≡ r)

-- what leads from one state to another is made so
abbrev pub IsMade : Making → State → State → Type 0
IsMade AtOnce s r = IsPlain s r
IsMade (By changes) s r = Lead changes s r

-- the moves of a list are made so, each in its turn
abbrev pub AreMade : Rules → Moment → List Move → List Making → Type 0
AreMade rules now [] [] = Unit {0}
AreMade rules now [] (making ∷ makings) = ⊥
AreMade rules now (move ∷ moves) [] = ⊥
AreMade rules now (move ∷ moves) (making ∷ makings) =
    IsMade making now.state (moved rules now move).state × AreMade rules (moved rules now move) moves makings

-- small changes are at least as many as the threads that are changed by them together
abbrev pub ChangesCoverWeights : Type 0
ChangesCoverWeights = (g : Outcome) (changes : List Change) → AllCan g changes → WeighsAtMost g.state (owed g changes).state (length changes)

-- the steps of which moves are made are at least as many as the moves weigh together
abbrev pub StepsCoverWeights : Type 0
StepsCoverWeights =
    (rules : Rules) (now : Moment) (moves : List Move) (makings : List Making) (n : ℕ) → AreMade rules now moves makings →
    MovesWeighAtLeast rules now moves n → n ≤ steps_of makings

-- the steps made since the last instruction are at least as many as the moves since then weigh together
abbrev pub StaysCoverWeights : Type 0
StaysCoverWeights =
    (rules : Rules) (start : Moment) (moves : List Move) (makings : List Making) (n : ℕ) →
    AreMade rules (after rules start (until_last moves)) (since_last moves) makings →
    MovesWeighAtLeast rules (after rules start (until_last moves)) (since_last moves) n → n ≤ steps_of makings

-- the first of some moves is an instruction where the list has any, and no other is
abbrev pub BeginWithLast : List Move → Bool → Type 0
BeginWithLast [] some = some ≡ false
BeginWithLast (move ∷ moves) some = (is_instruction move ≡ some) × (has_instruction moves ≡ false)

-- the moves before the last instruction and those since are all, and the last instruction is the first since
abbrev pub MovesSinceLast : Type 0
MovesSinceLast = (moves : List Move) → (until_last moves ++ since_last moves ≡ moves) × BeginWithLast (since_last moves) (has_instruction moves)

-- a plain instruction weighs 1 at most
abbrev pub PlainWeighsOne : Type 0
PlainWeighsOne = (s r : State) → IsPlain s r → WeighsAtMost s r 1

-- an arrival of a signal weighs nothing
abbrev pub SignalWeighsNothing : Type 0
SignalWeighsNothing =
    (rules : Rules) (now : Moment) (first count : ℕ) (at : Place) (entry : Entry) (sig : ℕ) → entry_at rules.journal.entries first ≡ Some entry →
    entry.what ≡ Sig sig → WeighsAtMost now.state (moved rules now (Arrive first count at)).state 0

-- a delivery that ends the process weighs nothing
abbrev pub EndWeighsNothing : Type 0
EndWeighsNothing =
    (rules : Rules) (now : Moment) (ending : Ending) → now.state.over ≡ None → (moved rules now Deliver).state.over ≡ Some ending →
    WeighsAtMost now.state (moved rules now Deliver).state 0
