-- A process as clauses see it, the run so far that it shows, and what holds of it.
use Rattle.std.specs.Prelude.{ℕ, ◌+◌, ◌-◌, ◌≡◌, ◌≤◌, ◌&&◌, Bool, true, is_none, List, length, slice_get, min, Option, Some, None}
use Rattle.std.specs.Option.{option_map}
use Rattle.thread_base.specs.Orders.{is_in}
use Rattle.thread_base.specs.declared.Place.{Place}
use Rattle.journal_text.specs.Contents.{Contents}
use Rattle.journal_text.specs.Valid.{IsJournal}
use Rattle.journal_text.specs.declared.entry.Entry.{Entry}
use Rattle.ready_queues.specs.Queue.{Queue}
use Rattle.posix_model.specs.State.{State}
use Rattle.posix_model.specs.Deliveries.{next_delivery}
use Rattle.posix_model.specs.Laws.{IsBounded}
use Rattle.posix_model.specs.Scheduling.{chosen}
use Rattle.posix_model.specs.Changes.{Outcome}
use Rattle.posix_model.specs.Runs.{Rules, Moment, due}
use Rattle.posix_model.specs.Good.{IsGood}
use Rattle.posix_model.specs.Journals.{untaken}
use Rattle.posix_model.specs.declared.Settings.{Settings}
use Rattle.posix_model.specs.declared.Report.{Report}
use Rattle.trace_text.specs.Output.{IsReadable}
use Rattle.kernel_state.specs.View.{view}
use Rattle.kernel_state.specs.Kernels.{KernelState, remaining, IsIdle, owed_by}
use Rattle.kernel_state.specs.Moves.{InProgress}
use Rattle.kernel_state.specs.Outside.{OutsideState}
use Rattle.kernel_state.specs.Presented.{Stands as StandsOutside, taken_of, AreDue}
use Rattle.dispatcher.specs.Arriving.{is_empty, AreSignalsOrTicks}
use Rattle.process_engine.specs.declared.stage.Stage.{Stage}
use Rattle.process_engine.specs.declared.stage.Stage.TheVariants.{Going, Paused, InCall}

-- the kernel, how many instructions were made and by whom the last, after how many it has to be looked whether an entry
-- is due, the stage of the process, and the rules of its run
pub record Engine : Type 0 where
  pub kernel : KernelState Queue
  pub instructions : ℕ
  pub stop : ℕ
  pub last : Option ℕ
  pub stage : Stage
  pub rules : Rules

-- the rules under which a process runs: its settings and its journal
abbrev pub rules_of : Settings → Contents → Rules
rules_of settings journal = record { settings = settings; journal = journal }

-- after how many instructions the next entry is reached, if there is one, where so many were presented
abbrev pub next_place : Contents → ℕ → Option ℕ
next_place journal presented = option_map (λ (e : Entry). e.place.n) (slice_get journal.entries presented)

-- the budget, or the next entry's place where it comes first
abbrev pub stop_of : ℕ → Option ℕ → ℕ
stop_of budget None = budget
stop_of budget (Some n) = min n budget

-- the ready list of a process
abbrev pub order : Queue → List ℕ
order queue = queue.order

-- the state and the report when the move in progress is made
unfoldable pub owed_of : Engine → Outcome
owed_of p = owed_by order p.kernel

-- the run so far, with the move in progress
abbrev pub moment_of : Engine → Moment
moment_of p = record { state = (owed_of p).state; instructions = p.instructions; last = p.last; taken = taken_of p.kernel.outside }

-- where a process is: the run so far with the move in progress, what is still to be told of that move, how many small
-- changes of it are left, and the state that the tables show
pub record Position : Type 0 where
  pub now : Moment
  pub telling : Option Report
  pub remaining : ℕ
  pub shown : State

-- a report is still to be told where a move is in progress
abbrev pub telling_of : Stage → Report → Option Report
telling_of Going report = None
telling_of Paused report = None
telling_of InCall report = Some report

-- the position of a process
abbrev pub position_of : Engine → Position
position_of p = record {
  now = moment_of p;
  telling = telling_of p.stage (owed_of p).report;
  remaining = length (remaining p.kernel.rest);
  shown = view order p.kernel.tables;
}

-- the next entry is due that was not presented; none is looked for while a move is in progress
abbrev pub is_due : Engine → Bool
is_due p = is_none (position_of p).telling && is_in (p.kernel.outside.presented + 1) (due p.rules (moment_of p))

-- each entry that was presented and is not taken is due, and was presented after the instructions made
pub record ArePrompt (rules : Rules) (now : Moment) (o : OutsideState) : Type 0 where
  pub due : AreDue rules now o.presented
  pub placed : (n : ℕ) (at : Place) → is_in n (untaken rules.journal.entries now.taken) ≡ true → n ≤ o.presented → slice_get o.places (n - 1) ≡ Some at →
      at.n ≡ now.instructions

-- the thread whose registers are in place has its turn: nothing waits outside
pub record HasTurn {R : Type 0} (order : R → List ℕ) (k : KernelState R) : Type 0 where
  pub nothing_waits : is_empty k.outside ≡ true
  pub going_on : (view order k.tables).over ≡ None
  pub settled : next_delivery (view order k.tables) ≡ None
  pub first : chosen (view order k.tables) ≡ Some k.tables.records.placed

-- a move is in progress, and its lines can be written
pub record IsInCall {R : Type 0} (order : R → List ℕ) (k : KernelState R) : Type 0 where
  pub begun : InProgress k
  pub readable : IsReadable (owed_by order k).report (owed_by order k).state.memory

-- what the stage of a process says of its kernel and of the thread of the last instruction
abbrev pub Stands : {R : Type 0} → (R → List ℕ) → KernelState R → Option ℕ → Stage → Type 0
Stands order k last Going = IsIdle k × HasTurn order k × (last ≡ Some k.tables.records.placed)
Stands order k last Paused = IsIdle k
Stands order k last InCall = IsInCall order k

-- what holds of every process: it is within its budget, its journal is one of signals and ticks, what waits outside stands for entries
-- that are due, the state of its run is good, and no more pends than instructions and entries brought
pub record IsSound (p : Engine) : Type 0 where
  pub within : p.instructions ≤ p.rules.settings.budget
  pub limit : p.rules.settings.budget ≤ 1000000000
  pub stop : p.stop ≡ stop_of p.rules.settings.budget (next_place p.rules.journal p.kernel.outside.presented)
  pub settings : p.kernel.settings ≡ p.rules.settings
  pub journal : p.kernel.outside.journal ≡ p.rules.journal
  pub whole : IsJournal p.rules.journal
  pub built : AreSignalsOrTicks p.rules.journal.entries
  pub outside : StandsOutside p.kernel.outside (taken_of p.kernel.outside)
  pub prompt : ArePrompt p.rules (moment_of p) p.kernel.outside
  pub good : IsGood (owed_of p).state
  pub bounded : IsBounded (moment_of p)
  pub stands : Stands order p.kernel p.last p.stage
