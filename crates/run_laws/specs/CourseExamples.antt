-- Small cases of the course of a run, which the checker computes.
use Rattle.std.specs.Prelude.{◌≡◌, ◌==◌, if◌then◌else◌, List, [], ◌∷◌, codes, ℕ, Some, None}
use Rattle.journal_text.specs.declared.entry.Entry.{Entry}
use Rattle.journal_text.specs.declared.entry.What.TheVariants.{Sig, Tick}
use Rattle.posix_model.specs.Examples.{six_threads}
use Rattle.posix_model.specs.JournalExamples.{after_instructions, entry_with, five_entries, moment_of, all_taken, with_delivery, asleep}
use Rattle.posix_model.specs.Lines.{out_line, out_text}
use Rattle.posix_model.specs.Reports.{nothing_told}
use Rattle.posix_model.specs.Runs.{Rules, Moment, after}
use Rattle.posix_model.specs.declared.Ending.TheVariants.{Killed}
use Rattle.posix_model.specs.declared.Report.{Report}
use Rattle.posix_model.specs.declared.Move.TheVariants.{Instr, Arrive, Deliver}
use Rattle.trace_text.specs.Texts.{written}
use Rattle.run_laws.specs.Course.{next_move, IsCourse, AreApart, IsSettledFor, IsCalm}

-- signal 10 after 5 instructions, and a tick after 7
abbrev pub two_entries : Rules
two_entries = record {
  settings = record { budget = 100; quantum = 3 };
  journal = record { entries = entry_with 5 (Sig 10) ∷ entry_with 7 Tick ∷ []; bytes = [] };
}

-- of entries that are due the lowest arrives first, alone, and where nothing is due a delivery is made, and else an instruction
-- within the budget; where nothing else can happen the next entry arrives; where all are taken then, there is no next move
abbrev pub NextMoves : Type 0
NextMoves =
    (next_move five_entries (moment_of with_delivery 5 0) ≡ Some (Arrive 1 1 (after_instructions 5)))
    × (next_move five_entries (moment_of with_delivery 5 1) ≡ Some (Arrive 2 1 (after_instructions 5)))
    × (next_move five_entries (moment_of with_delivery 4 0) ≡ Some Deliver) × (next_move five_entries (moment_of six_threads 4 0) ≡ Some (Instr 1))
    × (next_move five_entries (moment_of asleep 4 0) ≡ Some (Arrive 1 1 (after_instructions 4))) × (next_move five_entries (all_taken asleep 4) ≡ None)
    × (next_move five_entries (all_taken six_threads 100) ≡ None)

-- a course of two moves: a signal arrives and is delivered, which ends the process; the journal is calm along it
abbrev pub ShortCourse : Type 0
ShortCourse =
    let now : Moment = moment_of six_threads 5 0 in
    IsCourse two_entries now (Arrive 1 1 (after_instructions 5) ∷ Deliver ∷ []) × IsCalm two_entries now (Arrive 1 1 (after_instructions 5) ∷ Deliver ∷ [])
    × ((after two_entries now (Arrive 1 1 (after_instructions 5) ∷ Deliver ∷ [])).state.over ≡ Some (Killed 10))

-- a tick between the instructions, after a signal that comes after as many
abbrev pub between : Entry
between = record { place = record { n = 5; k = 1 }; what = Tick }

-- two entries after 5 instructions are not apart, and where a delivery is next the state is not settled for an entry
abbrev pub NotCalm : Type 0
NotCalm =
    (AreApart five_entries.journal.entries → ⊥) × (AreApart (entry_with 5 (Sig 10) ∷ between ∷ []) → ⊥)
    × (IsSettledFor with_delivery (Arrive 1 1 (after_instructions 5)) → ⊥)

-- the bytes of a write are those of the memory, and those that its out line tells
abbrev pub WrittenBytes : Type 0
WrittenBytes =
    (written (record nothing_told { tid = 1; out_fd = 1; out_buf = 65538; out_len = 3 }) (codes "abcdef") ≡ codes "cde")
    × (written nothing_told (codes "abcdef") ≡ [])
    × ((r : Report) (memory : List ℕ) → out_line r memory ≡ (if r.out_len == 0 then [] else out_text r.tid r.out_fd (written r memory)))
