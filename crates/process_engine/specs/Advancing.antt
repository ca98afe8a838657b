-- How the engine goes on by one move, and by some.
use Rattle.std.specs.Prelude.{ℕ, ◌≡◌, ◌≤◌, Bool, true, false, List, [], ◌++◌, length, Option, None}
use Rattle.posix_model.specs.Changes.{Outcome}
use Rattle.posix_model.specs.Instructions.{instruction}
use Rattle.posix_model.specs.Reports.{nothing_told}
use Rattle.posix_model.specs.Runs.{Rules, Moment, Allowed, IsRun, Ends, make, moved, after}
use Rattle.posix_model.specs.Lines.{lines}
use Rattle.posix_model.specs.declared.Move.{Move}
use Rattle.posix_model.specs.declared.Ending.{Ending}
use Rattle.posix_model.specs.declared.Head.{Head}
use Rattle.posix_model.specs.declared.Head.TheVariants.{Quiet}
use Rattle.posix_model.specs.declared.Report.{Report}
use Rattle.trace_text.specs.Counting.{no_counts, is_arrival, is_delivery, counted, counts, told_of, told_by as added_by}
use Rattle.trace_text.specs.Texts.{lines_in, switch_in, text_in}
use Rattle.trace_text.specs.declared.Mode.{Mode}
use Rattle.trace_text.specs.declared.tally.Counts.{Counts}
use Rattle.kernel_state.specs.View.{view}
use Rattle.kernel_state.specs.Kernels.{KernelState, remaining, IsIdle, owed_by}
use Rattle.process_engine.specs.Engine.{Engine, owed_of, moment_of, position_of, HasTurn, IsInCall}
use Rattle.process_engine.specs.declared.stage.Advance.{Advance}
use Rattle.process_engine.specs.declared.stage.Advance.TheVariants.{Plain, Switched, Begun, End}
use Rattle.process_engine.specs.declared.stage.Stage.TheVariants.{Going, InCall}

-- the thread in place made its instruction, which tells nothing, and still has its turn
pub record HasGoneOn {R : Type 0} (order : R → List ℕ) (k q : KernelState R) : Type 0 where
  pub state : view order q.tables ≡ (instruction (view order k.tables) k.tables.records.placed).state
  pub tells : (instruction (view order k.tables) k.tables.records.placed).report ≡ record nothing_told { tid = k.tables.records.placed }
  pub rest : IsIdle q
  pub turn : HasTurn order q
  pub placed : q.tables.records.placed ≡ k.tables.records.placed
  pub settings : q.settings ≡ k.settings
  pub outside : q.outside ≡ k.outside

-- a move was begun that has a main line: it owes the machine this outcome, in 512 small changes at most, and the
-- tables show what they showed
pub record HasBegun {R : Type 0} (order : R → List ℕ) (k q : KernelState R) (g : Outcome) : Type 0 where
  pub owed : owed_by order q ≡ g
  pub call : IsInCall order q
  pub some : 1 ≤ length (remaining q.rest)
  pub few : length (remaining q.rest) ≤ 512
  pub shown : view order q.tables ≡ view order k.tables
  pub main : g.report.head ≡ Quiet → ⊥
  pub settings : q.settings ≡ k.settings
  pub outside : q.outside ≡ k.outside

-- the same of an instruction: its main line is that of no arrival and of no delivery
abbrev pub BeginsInstruction : {R : Type 0} → (R → List ℕ) → KernelState R → KernelState R → Outcome → Type 0
BeginsInstruction order k q g = HasBegun order k q g × (is_arrival g.report.head ≡ false) × (is_delivery g.report.head ≡ false)

-- the thread in place made its instruction where it was a plain one, and else its move was begun
abbrev pub Instructs : {R : Type 0} → (R → List ℕ) → KernelState R → Bool → KernelState R → Type 0
Instructs order k true q = HasGoneOn order k q
Instructs order k false q = BeginsInstruction order k q (instruction (view order k.tables) k.tables.records.placed)

-- a move was made, or begun, that has its turn, with what it counts beside its instruction
pub record MakesMove (p q : Engine) (head : Head) : Type 0 where
  pub move : Move
  pub allowed : Allowed p.rules (moment_of p) move
  pub leads : moment_of q ≡ moved p.rules (moment_of p) move
  pub counts : told_of (counted p.rules (moment_of p) move) ≡ added_by p.last q.last head

-- a move was made that has no lines
pub record MakesPlain (p q : Engine) : Type 0 where
  pub makes : MakesMove p q Quiet
  pub silent : lines (make p.rules (moment_of p).state makes.move).report (moment_of q).state.memory ≡ []
  pub stage : q.stage ≡ Going
  pub none : (position_of q).remaining ≡ 0
  pub shown : (position_of q).shown ≡ (moment_of q).state

-- a move was begun that has a main line, and 512 small changes at most
pub record BeginsMove (p q : Engine) : Type 0 where
  pub makes : MakesMove p q (owed_of q).report.head
  pub told : (owed_of q).report ≡ (make p.rules (moment_of p).state makes.move).report
  pub main : (owed_of q).report.head ≡ Quiet → ⊥
  pub stage : q.stage ≡ InCall
  pub some : 1 ≤ (position_of q).remaining
  pub few : (position_of q).remaining ≤ 512
  pub shown : (position_of q).shown ≡ (position_of p).shown

-- the run has ended here
pub record EndsHere (p q : Engine) (ending : Ending) : Type 0 where
  pub ends : Ends p.rules (moment_of p) ending
  pub same : q ≡ p

-- a plain instruction was made by the thread of the last one, or by any; a move was begun; or the run has ended. It is
-- told who made the last instruction before
abbrev pub Advances : Engine → Advance → Engine → Type 0
Advances p Plain q = MakesPlain p q × (q.last ≡ p.last)
Advances p (Switched before) q = MakesPlain p q × (before ≡ p.last)
Advances p (Begun before) q = BeginsMove p q × (before ≡ p.last)
Advances p (End ending) q = EndsHere p q ending

-- no text, in each mode
abbrev pub no_text : Mode → List ℕ
no_text mode = []

-- some moves were made, with what was told of them and their text in each mode
pub record Makes (rules : Rules) (old new : Moment) (told : Counts) (trace : Mode → List ℕ) : Type 0 where
  pub moves : List Move
  pub run : IsRun rules old moves
  pub leads : new ≡ after rules old moves
  pub tells : told ≡ told_of (counts rules old moves)
  pub text_is : (mode : Mode) → trace mode ≡ text_in mode rules old moves

-- the same, and one move at least was made
pub record MakesSome (rules : Rules) (old new : Moment) (told : Counts) (trace : Mode → List ℕ) : Type 0 where
  pub makes : Makes rules old new told trace
  pub some : 1 ≤ length makes.moves

-- moves were made that write no text, and then one that is told by its report; by whom the last instruction before was made
abbrev pub MakesTold : Rules → Moment → Option ℕ → Report → Moment → Type 0
MakesTold rules old before report new =
    MakesSome rules old new (added_by before new.last report.head) (λ mode. switch_in mode before new.last ++ lines_in mode report new.state.memory)

-- moves were made that write no text, and then one more, which may write some, or the run has ended
abbrev pub Proceeds : Rules → Engine → Advance → Engine → Type 0
Proceeds rules p Plain q = ⊥
Proceeds rules p (Switched before) q =
    MakesSome rules (moment_of p) (moment_of q) (added_by before q.last Quiet) (λ mode. switch_in mode before q.last) × (q.stage ≡ Going)
Proceeds rules p (Begun before) q = MakesTold rules (moment_of p) before (owed_of q).report (moment_of q) × (q.stage ≡ InCall)
Proceeds rules p (End ending) q =
    Makes rules (moment_of p) (moment_of q) no_counts no_text × Ends rules (moment_of q) ending × ((position_of q).telling ≡ None)
