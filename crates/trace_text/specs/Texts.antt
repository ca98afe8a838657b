-- The text of a run: its trace, or the bytes that its writes wrote (this project's own format).
use Rattle.std.specs.Prelude.{ℕ, ◌≡◌, ◌⊎◌, List, [], ◌∷◌, ◌++◌, Option}
use Rattle.rv_exec.specs.Window.{bytes_at}
use Rattle.posix_model.specs.Lines.{lines, end_lines}
use Rattle.posix_model.specs.Runs.{Rules, Moment, make, moved, after, IsRun, Ends}
use Rattle.posix_model.specs.Trace.{text, switch_line, left}
use Rattle.posix_model.specs.declared.Report.{Report}
use Rattle.posix_model.specs.declared.Move.{Move}
use Rattle.posix_model.specs.declared.Ending.{Ending}
use Rattle.trace_text.specs.declared.Mode.{Mode}
use Rattle.trace_text.specs.declared.Mode.TheVariants.{Trace, Plain}

-- the bytes that a write wrote; there are none where nothing was written
abbrev pub written : Report → List ℕ → List ℕ
written r memory = bytes_at memory r.out_buf r.out_len

-- the bytes that one move wrote
abbrev pub move_plain : Rules → Moment → Move → List ℕ
move_plain rules now move = written (make rules now.state move).report (moved rules now move).state.memory

-- the plain text of a list of moves: the bytes that its writes wrote
abbrev pub plain_text : Rules → Moment → List Move → List ℕ
plain_text rules now [] = []
plain_text rules now (move ∷ moves) = move_plain rules now move ++ plain_text rules (moved rules now move) moves

-- what is written of one move: its lines in a trace, and in plain text what it wrote
abbrev pub lines_in : Mode → Report → List ℕ → List ℕ
lines_in Trace r memory = lines r memory
lines_in Plain r memory = written r memory

-- what is written before it where the thread changes: a line in a trace, by the threads of the last instruction before and after the move
abbrev pub switch_in : Mode → Option ℕ → Option ℕ → List ℕ
switch_in Trace before after = switch_line before after
switch_in Plain before after = []

-- the text of a list of moves
abbrev pub text_in : Mode → Rules → Moment → List Move → List ℕ
text_in Trace rules now moves = text rules now moves
text_in Plain rules now moves = plain_text rules now moves

-- what is written where a run ends: in a trace what still pends, by signal, and the line of the ending; in plain text nothing
abbrev pub end_in : Mode → List ℕ → Ending → List ℕ
end_in Trace left ending = end_lines left ending
end_in Plain left ending = []

-- the text of a list of moves and of its end
abbrev pub whole_in : Mode → Rules → Moment → List Move → Ending → List ℕ
whole_in mode rules start moves ending = text_in mode rules start moves ++ end_in mode (left (after rules start moves).state) ending

-- a list of moves is a whole run from a start, and this is its text
pub record IsWholeIn (mode : Mode) (rules : Rules) (start : Moment) (ending : Ending) (trace : List ℕ) : Type 0 where
  pub moves : List Move
  pub run : IsRun rules start moves
  pub ends : Ends rules (after rules start moves) ending
  pub told : trace ≡ whole_in mode rules start moves ending

-- a list of moves is a run from a start, and this is its text so far, or its whole text
pub record IsTextIn (mode : Mode) (rules : Rules) (start : Moment) (trace : List ℕ) : Type 0 where
  pub moves : List Move
  pub run : IsRun rules start moves
  pub told : (trace ≡ text_in mode rules start moves) ⊎ ((ending : Ending) × Ends rules (after rules start moves) ending × (trace ≡ whole_in mode rules start moves ending))
