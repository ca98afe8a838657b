-- The text of a run (this project's own format).
use Rattle.std.specs.Prelude.{ℕ, ◌==◌, ◌≡◌, ◌⊎◌, Bool, false, if◌then◌else◌, List, [], ◌∷◌, ◌++◌, map, Option, Some, None}
use Rattle.posix_model.specs.State.{State}
pub use Rattle.posix_model.specs.Deliveries.{left_of}
use Rattle.posix_model.specs.Runs.{Rules, Moment, make, moved, after, IsRun, Ends}
use Rattle.posix_model.specs.Lines.{lines, run_line, end_lines, sig_numbers}
use Rattle.posix_model.specs.declared.Move.{Move}
use Rattle.posix_model.specs.declared.Ending.{Ending}

-- a thread made the last instruction
abbrev pub is_last : ℕ → Option ℕ → Bool
is_last t None = false
is_last t (Some u) = u == t

-- the line before an instruction whose thread differs from that of the last, and before the first: by the
-- threads of the last instruction before and after a move
abbrev pub switch_line : Option ℕ → Option ℕ → List ℕ
switch_line before None = []
switch_line before (Some t) = if is_last t before then [] else run_line t

-- the text of one move
abbrev pub move_text : Rules → Moment → Move → List ℕ
move_text rules now move =
    switch_line now.last (moved rules now move).last
    ++ lines (make rules now.state move).report (moved rules now move).state.memory

-- the text of a list of moves
abbrev pub text : Rules → Moment → List Move → List ℕ
text rules now [] = []
text rules now (move ∷ moves) = move_text rules now move ++ text rules (moved rules now move) moves

-- how many of each signal still pend, over the process and all threads, by the signal's number
unfoldable pub left : State → List ℕ
left s = map (left_of s) sig_numbers

-- the end of the text of a run that ends at a moment
abbrev pub end_text : Moment → Ending → List ℕ
end_text now ending = end_lines (left now.state) ending

-- a list of moves is a whole run from a start, and this is its text, whose last line names its ending
pub record IsWholeText (rules : Rules) (start : Moment) (ending : Ending) (trace : List ℕ) : Type 0 where
  pub moves : List Move
  pub run : IsRun rules start moves
  pub ends : Ends rules (after rules start moves) ending
  pub told : trace ≡ text rules start moves ++ end_text (after rules start moves) ending

-- a list of moves is a run from a start, and this is its text so far, or its whole text
pub record IsText (rules : Rules) (start : Moment) (trace : List ℕ) : Type 0 where
  pub moves : List Move
  pub run : IsRun rules start moves
  pub told : (trace ≡ text rules start moves) ⊎ ((ending : Ending) × Ends rules (after rules start moves) ending × (trace ≡ text rules start moves ++ end_text (after rules start moves) ending))
