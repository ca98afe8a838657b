-- Small cases of which entries are due and which moves are allowed, which the checker computes.
use Rattle.std.specs.Prelude.{ℕ, ◌≡◌, [], ◌∷◌, Some}
use Rattle.thread_base.specs.Maps.{put}
use Rattle.thread_base.specs.declared.Place.{Place}
use Rattle.journal_text.specs.declared.entry.Entry.{Entry}
use Rattle.journal_text.specs.declared.entry.What.{What}
use Rattle.journal_text.specs.declared.entry.What.TheVariants.{Sig, Tick}
use Rattle.posix_model.specs.State.{State, Waits, no_thread}
use Rattle.posix_model.specs.Deliveries.{set_pending}
use Rattle.posix_model.specs.Journals.{OfSignal, OfTicks, with_taken, left_of_kind, untaken}
use Rattle.posix_model.specs.Runs.{Rules, Moment, Allowed, Ends, due, moved}
use Rattle.posix_model.specs.Examples.{six_threads, thread_with}
use Rattle.posix_model.specs.declared.Ending.TheVariants.{Idle, Budget}
use Rattle.posix_model.specs.declared.Move.TheVariants.{Instr, Arrive, Deliver}
use Rattle.posix_model.specs.declared.Wait.TheVariants.{Sleep}

-- a place after so many instructions
abbrev pub after_instructions : ℕ → Place
after_instructions n = record { n = n; k = 0 }

-- an entry
abbrev pub entry_with : ℕ → What → Entry
entry_with n what = record { place = after_instructions n; what = what }

-- signal 10 after 5, 5 and 9 instructions, and a tick after 5 and after 7
abbrev pub five_entries : Rules
five_entries = record {
  settings = record { budget = 100; quantum = 3 };
  journal = record {
    entries = entry_with 5 (Sig 10) ∷ entry_with 5 Tick ∷ entry_with 5 (Sig 10) ∷ entry_with 7 Tick ∷ entry_with 9 (Sig 10) ∷ [];
    bytes = [];
  };
}

-- a state after so many instructions, with so many entries of signal 10 taken
abbrev pub moment_of : State → ℕ → ℕ → Moment
moment_of s instructions count = record { state = s; instructions = instructions; last = Some 1; taken = with_taken (λ k. 0) (OfSignal 10) count }

-- signal 12 pends on the process
abbrev pub with_delivery : State
with_delivery = set_pending six_threads 0 12 1

-- thread 1 sleeps, and no other thread is there
abbrev pub asleep : State
asleep = record six_threads { threads = put (λ t. no_thread) 1 (thread_with (Waits (Sleep 10))); ready = [] }

-- while entries are due they may arrive and the next delivery may be made, and no instruction; those of a kind come in their
-- order, one alone but for signals; what is not reached is not due, but where nothing else can happen the next entry alone is
abbrev pub AllArriveFirst : Type 0
AllArriveFirst =
    let now : Moment = moment_of with_delivery 5 0 in
    let later : Moment = moved five_entries now (Arrive 1 2 (after_instructions 5)) in
    (due five_entries now ≡ 1 ∷ 2 ∷ 3 ∷ []) × Allowed five_entries now (Arrive 1 2 (after_instructions 5))
    × Allowed five_entries now (Arrive 2 1 (after_instructions 5)) × Allowed five_entries now Deliver
    × (Allowed five_entries (moment_of six_threads 7 0) (Arrive 2 2 (after_instructions 7)) → ⊥)
    × (Allowed five_entries now (Arrive 3 1 (after_instructions 5)) → ⊥) × (Allowed five_entries now (Arrive 1 3 (after_instructions 5)) → ⊥)
    × (Allowed five_entries (moment_of six_threads 5 0) (Instr 1) → ⊥) × Allowed five_entries (moment_of six_threads 4 0) (Instr 1)
    × (due five_entries later ≡ 2 ∷ []) × (later.state.pending 0 10 ≡ 2) × (later.instructions ≡ 5)
    × (due five_entries (moment_of with_delivery 5 1) ≡ 2 ∷ 3 ∷ []) × (left_of_kind five_entries.journal.entries (moment_of with_delivery 5 1).taken (OfSignal 10) ≡ 3 ∷ 5 ∷ [])
    × (due five_entries (moment_of six_threads 4 0) ≡ []) × (due five_entries (moment_of asleep 4 0) ≡ 1 ∷ [])
    × (due five_entries (moment_of (set_pending asleep 1 12 1) 4 0) ≡ [])
    × (untaken five_entries.journal.entries (moment_of asleep 4 1).taken ≡ 2 ∷ 3 ∷ 4 ∷ 5 ∷ [])

-- a state after so many instructions, with every entry taken
abbrev pub all_taken : State → ℕ → Moment
all_taken s instructions = record (moment_of s instructions 3) { taken = with_taken (with_taken (λ k. 0) (OfSignal 10) 3) OfTicks 2 }

-- a run ends idle where nobody is ready, no delivery is next and every entry is taken: an entry that is left comes first;
-- and it ends with its budget where an instruction would be next: an entry that is due comes first
abbrev pub RunsEnd : Type 0
RunsEnd =
    Ends five_entries (all_taken asleep 4) Idle × (Ends five_entries (moment_of asleep 4 0) Idle → ⊥) × (Ends five_entries (all_taken six_threads 4) Idle → ⊥)
    × (Ends five_entries (all_taken (set_pending asleep 1 12 1) 4) Idle → ⊥) × Allowed five_entries (moment_of asleep 4 0) (Arrive 1 1 (after_instructions 4))
    × Ends five_entries (all_taken six_threads 100) Budget × (Ends five_entries (moment_of six_threads 100 0) Budget → ⊥)
    × (Allowed five_entries (all_taken six_threads 100) (Instr 1) → ⊥)
