-- Where the threads stand at the end of a run, as lines (this project's own format).
use Rattle.std.specs.Prelude.{ℕ, ◌/◌, ◌%◌, ◌==◌, ◌&&◌, Bool, false, List, [], ◌∷◌, ◌++◌, codes, slice_index, if◌then◌else◌, Option, Some, None}
use Rattle.std.specs.List.{flat_map}
use Rattle.thread_base.specs.Priority.{tids}
use Rattle.replay_io.specs.Writing.{Appended, AppendedFront}
use Rattle.posix_model.specs.State.{State, Thread, Registers, Phase, Normal, Leaving, Standing, Absent, Ready, Waits, Ended, is_absent}
use Rattle.posix_model.specs.Instructions.{instruction}
use Rattle.posix_model.specs.Laws.{IsWholeRun}
use Rattle.posix_model.specs.Lines.{number, hex_byte}
use Rattle.posix_model.specs.Runs.{Moment, after}
use Rattle.posix_model.specs.Threads.{exists}
use Rattle.posix_model.specs.Trace.{end_text}
use Rattle.posix_model.specs.declared.Wait.{Wait}
use Rattle.posix_model.specs.declared.Wait.TheVariants.{Join, Mutex, Cond, Reacquire, Signal, Sleep, Read}
use Rattle.posix_model.specs.declared.Ending.{Ending}
use Rattle.posix_model.specs.declared.Ending.TheVariants.{Exit, Killed, Idle, Budget}
use Rattle.posix_model.specs.declared.Head.{Head}
use Rattle.posix_model.specs.declared.Head.TheVariants.{Fault}
use Rattle.posix_model.specs.declared.Move.{Move}
use Rattle.replay_cli.specs.Addresses.{address_at}
use Rattle.replay_cli.specs.Words.{Request}
use Rattle.replay_cli.specs.Headline.{rules_under, IsStartOf}

-- a blank, and a word in hexadecimal
unfoldable pub hex_word : ℕ → List ℕ
hex_word n =
    codes " 0x" ++ hex_byte (n / 16777216) ++ hex_byte (n / 65536 % 256) ++ hex_byte (n / 256 % 256) ++ hex_byte (n % 256)

-- what a thread waits for
abbrev pub wait_text : Wait → List ℕ
wait_text (Join u) = codes " waits thread" ++ number u
wait_text (Mutex m) = codes " waits mutex" ++ number m
wait_text (Cond c m deadline count) = codes " waits condition" ++ number c ++ codes " mutex" ++ number m
wait_text (Reacquire m reply count) = codes " waits mutex" ++ number m ++ codes " again"
wait_text (Signal set) = codes " waits signal"
wait_text (Sleep until) = codes " waits time" ++ number until
wait_text (Read buffer size) = codes " waits input"

-- that a thread is in its exit, with which value
abbrev pub phase_text : Phase → List ℕ
phase_text Normal = []
phase_text (Leaving value rounds next) = codes " leaving" ++ number value

-- what a thread is doing
abbrev pub standing_text : Standing → Phase → List ℕ
standing_text Absent phase = []
standing_text Ready phase = codes " ready" ++ phase_text phase
standing_text (Waits wait) phase = wait_text wait ++ phase_text phase
standing_text (Ended value) phase = codes " ended" ++ number value

-- the next instruction of a thread, where it returns to, and its stack
abbrev pub registers_text : Registers → List ℕ
registers_text r =
    codes " pc" ++ hex_word r.pc ++ codes " ra" ++ hex_word (slice_index r.x 1) ++ codes " sp" ++ hex_word (slice_index r.x 2)

-- the line of a thread
unfoldable pub place_line : ℕ → Thread → List ℕ
place_line t thread =
    codes "thread" ++ number t ++ standing_text thread.standing thread.phase ++ registers_text thread.registers ++ 10 ∷ []

-- the same of a number: none where no thread has it
unfoldable pub place_at : State → ℕ → List ℕ
place_at s t = if is_absent (s.threads t).standing then [] else place_line t (s.threads t)

-- the lines of all threads, by number
unfoldable pub place_lines : State → List ℕ
place_lines s = flat_map (place_at s) tids

-- the line of a fault: its thread, its signal, and the address that the instruction computed
unfoldable pub fault_line : ℕ → ℕ → Registers → List ℕ → List ℕ
fault_line t signal r memory =
    codes "fault" ++ number t ++ number signal ++ codes " address" ++ hex_word (address_at r.pc r.x memory) ++ 10 ∷ []

-- a move is a fault with this signal
abbrev pub is_fault : ℕ → Head → Bool
is_fault signal (Fault sig) = sig == signal
is_fault signal head = false

-- the instruction at which a thread stands faults with this signal
unfoldable pub faults_with : State → ℕ → ℕ → Bool
faults_with s t signal = is_fault signal (instruction s t).report.head

-- where it does at the thread of the last instruction, the line of the fault
abbrev pub fault_of : State → Option ℕ → ℕ → List ℕ
fault_of s None signal = []
fault_of s (Some t) signal = if exists s t && faults_with s t signal then fault_line t signal (s.threads t).registers s.memory else []

-- where a signal ended the run, and the thread of the last instruction stands at a fault with it, the line of that fault:
-- a fault leaves registers and memory, so its thread still stands there
unfoldable pub fault_text : Moment → Ending → List ℕ
fault_text now (Exit value) = []
fault_text now (Killed signal) = fault_of now.state now.last signal
fault_text now Idle = []
fault_text now Budget = []

-- where the threads stand at a moment, the fault, and the last lines of the trace
unfoldable pub places_text : Moment → Ending → List ℕ
places_text now ending = place_lines now.state ++ (fault_text now ending ++ end_text now ending)

-- where the threads stand at the end of a whole run from an image, under a journal, as it is asked for, came after what was written before
pub record TellsPlacesOf (asked : Request) (image journal : List ℕ) (was now : Option (List ℕ)) : Type 0 where
  pub start : Moment
  pub of_image : IsStartOf asked.memory image start
  pub moves : List Move
  pub ending : Ending
  pub whole : IsWholeRun (rules_under asked.settings journal) start moves ending
  pub told : Appended was now (places_text (after (rules_under asked.settings journal) start moves) ending)

-- a front of that came after what was written before
pub record TellsFrontOf (asked : Request) (image journal : List ℕ) (was now : Option (List ℕ)) : Type 0 where
  pub start : Moment
  pub of_image : IsStartOf asked.memory image start
  pub moves : List Move
  pub ending : Ending
  pub whole : IsWholeRun (rules_under asked.settings journal) start moves ending
  pub told : AppendedFront was now (places_text (after (rules_under asked.settings journal) start moves) ending)
