-- Small ledgers, which the checker computes.
use Rattle.std.specs.Prelude.{◌≡◌, true, List, [], ◌∷◌, ◌++◌, replicate, slice_set}
use Rattle.thread_base.specs.declared.action.Action.TheVariants.{Ignore}
use Rattle.thread_base.specs.declared.mutex.Holder.TheVariants.{Free}
use Rattle.posix_model.specs.State.{none_pending}
use Rattle.posix_model.specs.Reports.{nothing_told}
use Rattle.posix_model.specs.Runs.{Moment, after}
use Rattle.posix_model.specs.Trace.{left_of}
use Rattle.posix_model.specs.Changes.{Outcome}
use Rattle.posix_model.specs.Calls.{Called, told_call}
use Rattle.posix_model.specs.SignalCalls.{sigaction, sigwait, kill_thread, kill_process}
use Rattle.posix_model.specs.Examples.{six_threads, with_arguments}
use Rattle.posix_model.specs.SignalExamples.{acting, at_condition}
use Rattle.posix_model.specs.JournalExamples.{five_entries, moment_of, after_instructions}
use Rattle.posix_model.specs.declared.Head.{Head}
use Rattle.posix_model.specs.declared.Head.TheVariants.{Call, Fault, ArriveSig, ArriveTick, Deliver as Delivered, Accept}
use Rattle.posix_model.specs.declared.Move.{Move}
use Rattle.posix_model.specs.declared.Move.TheVariants.{Arrive, Deliver}
use Rattle.posix_model.specs.declared.Reply.TheVariants.{Values}
use Rattle.posix_model.specs.declared.Report.{Report}
use Rattle.run_laws.specs.Ledger.{reports, income, outcome}

-- thread 2 waits for a condition, signal 10 has a handler, and nothing pends
abbrev pub waiting : Moment
waiting = moment_of (record (at_condition Free) { pending = none_pending }) 5 0

-- signal 10 comes twice, and thread 2 leaves its wait for it
abbrev pub two_moves : List Move
two_moves = Arrive 1 2 (after_instructions 5) ∷ Deliver ∷ []

-- then its handler is entered
abbrev pub three_moves : List Move
three_moves = Arrive 1 2 (after_instructions 5) ∷ Deliver ∷ Deliver ∷ []

-- a signal for which a thread leaves its wait still pends: it goes with the delivery that follows
abbrev pub WaitsStillPend : Type 0
WaitsStillPend =
    (income 10 (reports five_entries waiting two_moves) ≡ 2) × (outcome 10 (reports five_entries waiting two_moves) ≡ 0)
    × (left_of (after five_entries waiting two_moves).state 10 ≡ 2) × (income 10 (reports five_entries waiting three_moves) ≡ 2)
    × (outcome 10 (reports five_entries waiting three_moves) ≡ 2) × (left_of (after five_entries waiting three_moves).state 10 ≡ 0)

-- signal 10 is ignored
abbrev pub ignoring : Moment
ignoring = moment_of (acting six_threads 10 Ignore) 5 0

-- a signal that is ignored is dropped where it comes
abbrev pub DropsGo : Type 0
DropsGo =
    let told : List Report = reports five_entries ignoring (Arrive 1 2 (after_instructions 5) ∷ []) in
    (income 10 told ≡ 2) × (outcome 10 told ≡ 2) × (income 17 told ≡ 0) × (outcome 17 told ≡ 0)

-- a main line, and nothing else
abbrev pub line_of : Head → Report
line_of head = record nothing_told { head = head }

-- kill(2, 10) succeeds, kill(9, 10) is refused, kill(12) succeeds; two of signal 12 come; a fault ends nothing yet, and the
-- next one ends the process at once; the alarm goes off; thread 2 is delivered signal 10 and accepts signal 12; two of
-- signal 17 are dropped; three KILLs end the process
abbrev pub eleven_reports : List Report
eleven_reports =
    line_of (Call 290 (2 ∷ 10 ∷ 12 ∷ 0 ∷ []) (Values 0 0)) ∷ line_of (Call 290 (9 ∷ 10 ∷ 12 ∷ 0 ∷ []) (Values 3 0))
    ∷ line_of (Call 291 (12 ∷ 10 ∷ 0 ∷ 0 ∷ []) (Values 0 0)) ∷ line_of (ArriveSig 1 2 12) ∷ line_of (Fault 11)
    ∷ record (line_of (Fault 11)) { took = 2; took_sig = 11; took_count = 1 } ∷ record (line_of (ArriveTick 3)) { alarm = true }
    ∷ line_of (Delivered 2 10 1) ∷ line_of (Accept 2 12 3) ∷ record (line_of (ArriveSig 4 2 17)) { drops = slice_set (replicate 32 0) 17 2 }
    ∷ record (line_of (ArriveSig 6 3 9)) { took = 2; took_sig = 9; took_count = 3 } ∷ []

-- what their ledgers add up to: one of signal 11 and the one of the alarm are left
abbrev pub Accounts : Type 0
Accounts =
    (income 10 eleven_reports ≡ 1) × (outcome 10 eleven_reports ≡ 1) × (income 12 eleven_reports ≡ 3) × (outcome 12 eleven_reports ≡ 3)
    × (income 11 eleven_reports ≡ 2) × (outcome 11 eleven_reports ≡ 1) × (income 14 eleven_reports ≡ 1) × (outcome 14 eleven_reports ≡ 0)
    × (income 17 eleven_reports ≡ 2) × (outcome 17 eleven_reports ≡ 2) × (income 9 eleven_reports ≡ 3) × (outcome 9 eleven_reports ≡ 3)

-- thread 1 sends signal 10 to thread 2, then to the process, and then ignores it
abbrev pub sent_to_thread : Outcome
sent_to_thread = let c = with_arguments 2 10 0 0 in told_call 1 290 c (kill_thread six_threads 1 c)

abbrev pub sent_to_process : Outcome
sent_to_process = let c = with_arguments 10 0 0 0 in told_call 1 291 c (kill_process sent_to_thread.state 1 c)

abbrev pub then_ignored : Outcome
then_ignored = let c = with_arguments 10 1 0 0 in told_call 1 286 c (sigaction sent_to_process.state 1 c)

-- a call that sends a signal lets one come, and one that ignores it lets all go; the signal 0 lets none come
abbrev pub SendsCome : Type 0
SendsCome =
    let told : List Report = sent_to_thread.report ∷ sent_to_process.report ∷ [] in
    let asked : Called = kill_thread six_threads 1 (with_arguments 2 0 0 0) in
    (income 10 told ≡ 2) × (outcome 10 told ≡ 0) × (left_of sent_to_process.state 10 ≡ 2) × (income 10 (told ++ then_ignored.report ∷ []) ≡ 2)
    × (outcome 10 (told ++ then_ignored.report ∷ []) ≡ 2) × (left_of then_ignored.state 10 ≡ 0)
    × (income 10 ((told_call 1 290 (with_arguments 2 0 0 0) asked).report ∷ []) ≡ 0)

-- a signal of the process that a call of thread 1 accepts
abbrev pub then_accepted : Outcome
then_accepted = let c = with_arguments 1024 0 0 0 in told_call 1 289 c (sigwait sent_to_process.state 1 c)

-- a call that accepts a signal lets go what pends where it accepts it, which is told beside its main line
abbrev pub AcceptsGo : Type 0
AcceptsGo =
    let told : List Report = sent_to_thread.report ∷ sent_to_process.report ∷ then_accepted.report ∷ [] in
    (income 10 told ≡ 2) × (outcome 10 told ≡ 1) × (left_of then_accepted.state 10 ≡ 1) × (then_accepted.state.pending 2 10 ≡ 1)
