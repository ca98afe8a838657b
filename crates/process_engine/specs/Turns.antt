-- What a turn and a whole run of a process do.
use Rattle.std.specs.Prelude.{ℕ, ◌≡◌, ◌≤◌, ◌+◌, ◌⊎◌, List, [], Option, Some, None, Result, Ok, Err}
use Rattle.kernel_state.specs.Outside.{present}
use Rattle.replay_io.specs.Writing.{WritesWhole, WritesFront}
use Rattle.trace_text.specs.Output.{IsReadable}
use Rattle.posix_model.specs.Runs.{Rules, Moment, Allowed, Ends, make, moved}
use Rattle.posix_model.specs.Lines.{lines}
use Rattle.posix_model.specs.declared.Ending.{Ending}
use Rattle.posix_model.specs.declared.Move.{Move}
use Rattle.posix_model.specs.declared.Head.TheVariants.{Quiet as QuietHead}
use Rattle.posix_model.specs.declared.Report.{Report}
use Rattle.trace_text.specs.Counting.{counts}
use Rattle.trace_text.specs.Texts.{IsWholeIn, IsTextIn}
use Rattle.trace_text.specs.declared.Mode.{Mode}
use Rattle.kernel_state.specs.Small.{IsSmall}
use Rattle.process_engine.specs.Engine.{Engine, Position, position_of}
use Rattle.process_engine.specs.declared.Turn.{Turn}
use Rattle.process_engine.specs.declared.Turn.TheVariants.{Quiet, Made as MadeTurn, Ended}
use Rattle.process_engine.specs.declared.Done.{Done}

-- what is to be told of a move: nothing, where it has no lines and is made, and else its report, where the tables stay
-- and 512 small changes of it are left at most
abbrev pub Tells : Report → Position → Position → Type 0
Tells report old new =
    ((new.telling ≡ None) × (lines report new.now.state.memory ≡ []) × (new.remaining ≡ 0) × (new.shown ≡ new.now.state))
    ⊎ ((new.telling ≡ Some report) × (report.head ≡ QuietHead → ⊥) × (1 ≤ new.remaining) × (new.remaining ≤ 512) × (new.shown ≡ old.shown))

-- one move is made that is allowed, with what is to be told of it; none was in progress
pub record Moves (rules : Rules) (old new : Position) : Type 0 where
  pub at_rest : old.telling ≡ None
  pub move : Move
  pub allowed : Allowed rules old.now move
  pub leads : new.now ≡ moved rules old.now move
  pub tells : Tells (make rules old.now.state move).report old new

-- one small change of the move in progress is made and is not the last: the run and what is to be told of the move stay
pub record Leaves (old new : Position) : Type 0 where
  pub now : new.now ≡ old.now
  pub report : Report
  pub before : old.telling ≡ Some report
  pub telling : new.telling ≡ Some report
  pub one : old.remaining ≡ new.remaining + 1
  pub more : 1 ≤ new.remaining
  pub small : IsSmall old.shown new.shown

-- the next entry was presented after the instructions made, and nothing else has changed
pub record Presents (p q : Engine) : Type 0 where
  pub kernel : q.kernel ≡ record p.kernel { outside = present p.kernel.outside (p.kernel.outside.presented + 1) (record { n = p.instructions; k = 0 }) }
  pub position : position_of q ≡ position_of p

-- all that is left of the move in progress is made, and the move is told: the run stays
pub record Completes (old : Position) (report : Report) (new : Position) : Type 0 where
  pub now : new.now ≡ old.now
  pub before : old.telling ≡ Some report
  pub telling : new.telling ≡ None
  pub none : new.remaining ≡ 0
  pub shown : new.shown ≡ new.now.state
  pub readable : IsReadable report new.now.state.memory

-- the same by one small change, the last one
pub record CompletesLast (old : Position) (report : Report) (new : Position) : Type 0 where
  pub completes : Completes old report new
  pub last : old.remaining ≡ 1
  pub small : IsSmall old.shown new.shown

-- the run has ended, and nothing changes
pub record Stops (rules : Rules) (old : Position) (ending : Ending) (new : Position) : Type 0 where
  pub at_rest : old.telling ≡ None
  pub ends : Ends rules old.now ending
  pub same : new ≡ old

-- one turn makes or begins one move that is allowed, or makes one small change of the move in progress, or tells the
-- ending: Made
-- comes exactly with the last small change of a move, with its report, and Ended exactly where the run has ended
abbrev pub IsTurn : Rules → Position → Turn → Position → Type 0
IsTurn rules old Quiet new = Moves rules old new ⊎ Leaves old new
IsTurn rules old (MadeTurn report) new = CompletesLast old report new
IsTurn rules old (Ended ending) new = Stops rules old ending new

-- the whole text of one ended run was written in a mode, and its counts are told
pub record RunsWhole (mode : Mode) (rules : Rules) (start : Moment) (done : Done) (before after : Option (List ℕ)) (faults_before faults_after : ℕ) : Type 0 where
  pub trace : List ℕ
  pub whole : IsWholeIn mode rules start done.ending trace
  pub counted : done.counts ≡ counts rules start whole.moves
  pub written : WritesWhole before after faults_before faults_after trace

-- a front of the text of a run so far was written, and then the sink failed
pub record RunsPart (mode : Mode) (rules : Rules) (start : Moment) (before after : Option (List ℕ)) (faults_before faults_after : ℕ) : Type 0 where
  pub trace : List ℕ
  pub part : IsTextIn mode rules start trace
  pub written : WritesFront before after faults_before faults_after trace

-- a front of the whole text of one ended run was written, and then the sink failed
pub record RunsFront (mode : Mode) (rules : Rules) (start : Moment) (before after : Option (List ℕ)) (faults_before faults_after : ℕ) : Type 0 where
  pub ending : Ending
  pub trace : List ℕ
  pub whole : IsWholeIn mode rules start ending trace
  pub written : WritesFront before after faults_before faults_after trace

-- a run from a start as far as it went: whole at Ok, with its ending, and a front of one so far where the sink failed
abbrev pub Goes : {E : Type 0} → Mode → Rules → Moment → Result Done E → Option (List ℕ) → Option (List ℕ) → ℕ → ℕ → Type 0
Goes mode rules start (Ok done) before after faults_before faults_after = RunsWhole mode rules start done before after faults_before faults_after
Goes mode rules start (Err error) before after faults_before faults_after = RunsPart mode rules start before after faults_before faults_after

-- a run from a start: whole at Ok, with its ending, and a front of the text of one where the sink failed
abbrev pub Runs : {E : Type 0} → Mode → Rules → Moment → Result Done E → Option (List ℕ) → Option (List ℕ) → ℕ → ℕ → Type 0
Runs mode rules start (Ok done) before after faults_before faults_after = RunsWhole mode rules start done before after faults_before faults_after
Runs mode rules start (Err error) before after faults_before faults_after = RunsFront mode rules start before after faults_before faults_after
