-- The ledger of a signal: how many came and where they went, by what is told of the moves of a run (this project's own).
use Rattle.std.specs.Prelude.{ℕ, ◌+◌, ◌==◌, ◌&&◌, ◌≡◌, Bool, false, if◌then◌else◌, List, [], ◌∷◌, slice_index}
use Rattle.thread_base.specs.Numbers.{IsInScope}
use Rattle.posix_model.specs.Runs.{Rules, Moment, make, moved, after, IsRun}
use Rattle.posix_model.specs.Trace.{left_of, left}
use Rattle.posix_model.specs.Start.{start}
use Rattle.posix_model.specs.Laws.{IsWholeRun}
use Rattle.posix_model.specs.declared.Ending.{Ending}
use Rattle.posix_model.specs.declared.Head.{Head}
use Rattle.posix_model.specs.declared.Head.TheVariants.{Call, Fault, ArriveSig, Deliver, Accept, Interrupt}
use Rattle.posix_model.specs.declared.Move.{Move}
use Rattle.posix_model.specs.declared.Reply.{Reply}
use Rattle.posix_model.specs.declared.Reply.TheVariants.{Values}
use Rattle.posix_model.specs.declared.Report.{Report}

-- what is told of each of a list of moves
abbrev pub reports : Rules → Moment → List Move → List Report
reports rules now [] = []
reports rules now (move ∷ moves) = (make rules now.state move).report ∷ reports rules (moved rules now move) moves

-- a count of some signal, where it is the signal of the ledger
abbrev pub share : ℕ → ℕ → ℕ → ℕ
share sig other count = if other == sig then count else 0

-- a call answered 0, with the value 0
abbrev pub is_zero : Reply → Bool
is_zero (Values error value) = (error == 0) && (value == 0)
is_zero reply = false

-- one that a call sends: 290 is kill(thread, signal), 291 is kill(signal) (POSIX.1 pthread_kill, kill)
abbrev pub sent : ℕ → ℕ → List ℕ → ℕ
sent sig number args =
    if number == 290 then share sig (slice_index args 1) 1
    else if number == 291 then share sig (slice_index args 0) 1
    else 0

-- how many come by a main line: the entries that arrived, one of a fault, one of a call that sends it and answers 0
abbrev pub came : ℕ → Head → ℕ
came sig (ArriveSig first count other) = share sig other count
came sig (Fault other) = share sig other 1
came sig (Call number args reply) = if is_zero reply then sent sig number args else 0
came sig head = 0

-- one that the alarm sends, which is ALRM (POSIX.1 alarm)
abbrev pub rung : ℕ → Bool → ℕ
rung sig alarm = if alarm then share sig 14 1 else 0

-- how many go by a main line: those that a thread is delivered or accepts; those for which it leaves a wait still pend
abbrev pub went : ℕ → Head → ℕ
went sig (Deliver to other count) = share sig other count
went sig (Accept to other count) = share sig other count
went sig (Interrupt to other count) = 0
went sig head = 0

-- how many were taken beside the main line
abbrev pub beside : ℕ → Report → ℕ
beside sig r = if r.took == 0 then 0 else share sig r.took_sig r.took_count

-- how many came with a move
abbrev pub income_of : ℕ → Report → ℕ
income_of sig r = came sig r.head + rung sig r.alarm

-- how many went with a move: taken by the main line or beside it, or dropped
abbrev pub outcome_of : ℕ → Report → ℕ
outcome_of sig r = went sig r.head + beside sig r + slice_index r.drops sig

-- how many came in all
abbrev pub income : ℕ → List Report → ℕ
income sig [] = 0
income sig (r ∷ rs) = income_of sig r + income sig rs

-- how many went in all
abbrev pub outcome : ℕ → List Report → ℕ
outcome sig [] = 0
outcome sig (r ∷ rs) = outcome_of sig r + outcome sig rs

-- of each signal in scope, what came is what went and what is left: after every run so far from a start of the machine, and
-- after a whole run, whose text ends with the counts that are left
pub record LedgerCloses : Type 0 where
  pub so_far : (rules : Rules) (memory : List ℕ) (entry : ℕ) (moves : List Move) (sig : ℕ) → IsRun rules (start memory entry) moves → IsInScope sig
      → income sig (reports rules (start memory entry) moves)
      ≡ outcome sig (reports rules (start memory entry) moves) + left_of (after rules (start memory entry) moves).state sig
  pub whole : (rules : Rules) (memory : List ℕ) (entry : ℕ) (moves : List Move) (ending : Ending) (sig : ℕ) → IsWholeRun rules (start memory entry) moves ending → IsInScope sig
      → income sig (reports rules (start memory entry) moves)
      ≡ outcome sig (reports rules (start memory entry) moves) + slice_index (left (after rules (start memory entry) moves).state) sig
