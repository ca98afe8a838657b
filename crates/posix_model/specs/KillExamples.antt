-- Small cases of the calls of signals, which the checker computes.
use Rattle.std.specs.Prelude.{ℕ, ◌≡◌, [], ◌∷◌, slice_index, Some, None}
use Rattle.thread_base.specs.declared.action.Action.TheVariants.{Default, Ignore, Handler}
use Rattle.posix_model.specs.State.{State, Ready, Waits}
use Rattle.posix_model.specs.Changes.{Outcome, set_thread}
use Rattle.posix_model.specs.Calls.{call, call_row}
use Rattle.posix_model.specs.Deliveries.{Gives, next_delivery, set_pending}
use Rattle.posix_model.specs.Replies.{Called}
use Rattle.posix_model.specs.Examples.{six_threads, thread_with, with_arguments, reply_of}
use Rattle.posix_model.specs.SignalExamples.{acting}
use Rattle.posix_model.specs.declared.Ending.TheVariants.{Killed}
use Rattle.posix_model.specs.declared.Head.TheVariants.{Call}
use Rattle.posix_model.specs.declared.Reply.TheVariants.{Values, Block}
use Rattle.posix_model.specs.declared.Wait.TheVariants.{Signal as OfSignal}

-- a call of thread 1 with three arguments
abbrev pub called : State → ℕ → ℕ → ℕ → ℕ → Called
called s number a0 a1 a2 = call_row s 1 number (with_arguments a0 a1 a2 0)

-- how many of a signal pend in a place after a call
abbrev pub pending_after : Called → ℕ → ℕ → ℕ
pending_after called place sig = called.outcome.state.pending place sig

-- how many of a signal a call drops
abbrev pub drops_of : Called → ℕ → ℕ
drops_of called sig = slice_index called.outcome.report.drops sig

-- a signal that is ignored, by its action or by default, is dropped where it is sent, to a thread or to the process
abbrev pub SentInVain : Type 0
SentInVain =
    let told : Outcome = call (acting six_threads 10 Ignore) 1 290 (with_arguments 2 10 0 0) in
    let shared : Called = called (acting six_threads 10 Ignore) 291 10 0 0 in
    let child : Called = called six_threads 290 2 17 0 in
    (told.report.tid ≡ 1) × (told.report.head ≡ Call 290 (2 ∷ 10 ∷ 0 ∷ 0 ∷ []) (Values 0 0)) × (slice_index told.report.drops 10 ≡ 1)
    × (told.state.pending 2 10 ≡ 0) × (told.state.pending 0 10 ≡ 0) × ((told.state.threads 1).registers.pc ≡ 65624)
    × (reply_of shared ≡ Values 0 0) × (drops_of shared 10 ≡ 1) × (pending_after shared 0 10 ≡ 0)
    × (reply_of child ≡ Values 0 0) × (drops_of child 17 ≡ 1) × (pending_after child 2 17 ≡ 0)
    × (pending_after (called (acting six_threads 17 (Handler 65796 0)) 290 2 17 0) 2 17 ≡ 1)

-- KILL ends the process where it is sent, to a thread or to the process, and its sender is answered
abbrev pub KillEnds : Type 0
KillEnds =
    let told : Outcome = call six_threads 1 290 (with_arguments 2 9 0 0) in
    let shared : Called = called six_threads 291 9 0 0 in
    (told.report.head ≡ Call 290 (2 ∷ 9 ∷ 0 ∷ 0 ∷ []) (Values 0 0)) × (told.state.over ≡ Some (Killed 9)) × (told.report.took ≡ 2)
    × (told.report.took_sig ≡ 9) × (told.report.took_count ≡ 1) × (told.state.pending 2 9 ≡ 0) × (told.state.pending 0 9 ≡ 0)
    × ((told.state.threads 1).registers.pc ≡ 65624)
    × (reply_of shared ≡ Values 0 0) × (shared.outcome.state.over ≡ Some (Killed 9)) × (shared.outcome.report.took ≡ 2)
    × (shared.outcome.report.took_count ≡ 1) × (pending_after shared 0 9 ≡ 0)

-- signal 10 has a handler and pends twice on the process, once on thread 2 and three times on thread 64, and signal 12
-- pends on thread 2
abbrev pub pending_apart : State
pending_apart = set_pending (set_pending (set_pending (set_pending (acting six_threads 10 (Handler 65796 0)) 0 10 2) 2 10 1) 64 10 3) 2 12 1

-- an action that ignores its signal drops all that pends of it, and another keeps it; the old action's number is answered
abbrev pub OtherActions : Type 0
OtherActions =
    let ignored : Called = called pending_apart 286 10 1 0 in
    let default : Called = called pending_apart 286 10 0 0 in
    let child : Called = called (set_pending (acting six_threads 17 (Handler 65796 0)) 2 17 1) 286 17 0 0 in
    let handled : Called = called pending_apart 286 10 65800 5633 in
    (reply_of ignored ≡ Values 0 65796) × (ignored.outcome.state.actions 10 ≡ Ignore) × (ignored.outcome.state.actions 12 ≡ Default)
    × (drops_of ignored 10 ≡ 6) × (drops_of ignored 12 ≡ 0) × (pending_after ignored 0 10 ≡ 0) × (pending_after ignored 2 10 ≡ 0)
    × (pending_after ignored 64 10 ≡ 0) × (pending_after ignored 2 12 ≡ 1)
    × (reply_of default ≡ Values 0 65796) × (default.outcome.state.actions 10 ≡ Default) × (drops_of default 10 ≡ 0) × (pending_after default 64 10 ≡ 3)
    × (reply_of child ≡ Values 0 65796) × (drops_of child 17 ≡ 1) × (pending_after child 2 17 ≡ 0)
    × (reply_of handled ≡ Values 0 65796) × (handled.outcome.state.actions 10 ≡ Handler 65800 5120) × (drops_of handled 10 ≡ 0)
    × (pending_after handled 0 10 ≡ 2) × (reply_of (called six_threads 286 10 1 0) ≡ Values 0 0)
    × (reply_of (called (acting six_threads 10 Ignore) 286 10 65796 0) ≡ Values 0 1)

-- the set of what pends on the caller and on the process, but not on others, which changes nothing; KILL is in no set
abbrev pub PendingSets : Type 0
PendingSets =
    let shared : Called = called pending_apart 288 0 0 0 in
    let both : Called = call_row pending_apart 2 288 (with_arguments 0 0 0 0) in
    (reply_of shared ≡ Values 0 1024) × (pending_after shared 0 10 ≡ 2) × (shared.outcome.report.took ≡ 0)
    × (reply_of both ≡ Values 0 5120) × (pending_after both 2 10 ≡ 1) × (pending_after both 2 12 ≡ 1)
    × (reply_of (called (set_pending pending_apart 1 9 1) 288 0 0 0) ≡ Values 0 1024) × (reply_of (called six_threads 288 0 0 0) ≡ Values 0 0)

-- signal 10 pends twice on the process, signal 12 three times on thread 1 and four times on the process
abbrev pub pending_twice : State
pending_twice = set_pending (set_pending (set_pending six_threads 0 10 2) 1 12 3) 0 12 4

-- the lowest signal of a set that pends is accepted with its whole count, a thread's own before the process's, and is told
abbrev pub Accepts : Type 0
Accepts =
    let own : Called = called pending_twice 289 36864 0 0 in
    let shared : Called = called own.outcome.state 289 36864 0 0 in
    let lowest : Called = called pending_twice 289 37888 0 0 in
    (reply_of own ≡ Values 0 12) × (own.outcome.report.took ≡ 1) × (own.outcome.report.took_sig ≡ 12) × (own.outcome.report.took_count ≡ 3)
    × (pending_after own 1 12 ≡ 0) × (pending_after own 0 12 ≡ 4) × ((own.outcome.state.threads 1).registers.pc ≡ 65624)
    × (reply_of shared ≡ Values 0 12) × (shared.outcome.report.took_count ≡ 4) × (pending_after shared 0 12 ≡ 0) × (pending_after shared 0 10 ≡ 2)
    × (reply_of lowest ≡ Values 0 10) × (lowest.outcome.report.took_count ≡ 2) × (pending_after lowest 0 10 ≡ 0) × (pending_after lowest 1 12 ≡ 3)

-- where no signal of the set pends the caller waits, for those that can be blocked; a set without one of them is refused
abbrev pub Awaits : Type 0
Awaits =
    let waits : Called = called pending_twice 289 33280 0 0 in
    (reply_of waits ≡ Block) × ((waits.outcome.state.threads 1).standing ≡ Waits (OfSignal 32768)) × ((waits.outcome.state.threads 1).registers.pc ≡ 65620)
    × (waits.outcome.state.ready ≡ 2 ∷ 5 ∷ 6 ∷ []) × (waits.outcome.report.took ≡ 0) × (pending_after waits 1 12 ≡ 3)
    × (reply_of (called pending_twice 289 0 0 0) ≡ Values 22 0) × (reply_of (called pending_twice 289 512 0 0) ≡ Values 22 0)
    × (reply_of (called pending_twice 289 8126465 0 0) ≡ Values 22 0)

-- thread 1 blocks the signals 10 and 12
abbrev pub blocking : State
blocking = set_thread six_threads 1 (record (thread_with Ready) { mask = 5120 })

-- the mask after a call
abbrev pub mask_after : Called → ℕ → ℕ
mask_after called t = (called.outcome.state.threads t).mask

-- signals are added to the mask, taken away, or set in its place, and the old mask is answered; KILL is never blocked
abbrev pub Masks : Type 0
Masks =
    let added : Called = called blocking 287 0 2560 0 in
    let taken : Called = called blocking 287 1 3072 0 in
    let set : Called = called blocking 287 2 2560 0 in
    (reply_of added ≡ Values 0 5120) × (mask_after added 1 ≡ 7168) × (mask_after added 2 ≡ 0)
    × (reply_of taken ≡ Values 0 5120) × (mask_after taken 1 ≡ 4096)
    × (reply_of set ≡ Values 0 5120) × (mask_after set 1 ≡ 2048)
    × (reply_of (called blocking 287 3 0 0) ≡ Values 22 0) × (mask_after (called blocking 287 3 0 0) 1 ≡ 5120)

-- a signal for a thread pends on it alone, though it waits, and one for the process under the number 0; the signal 0 only asks
abbrev pub Sends : Type 0
Sends =
    let own : Called = called (acting six_threads 10 (Handler 65796 0)) 290 2 10 0 in
    let twice : Called = called own.outcome.state 290 2 10 0 in
    let waiter : Called = called six_threads 290 4 10 0 in
    let shared : Called = called (acting six_threads 10 (Handler 65796 0)) 291 10 0 0 in
    let asked : Called = called six_threads 290 2 0 0 in
    (reply_of own ≡ Values 0 0) × (pending_after own 2 10 ≡ 1) × (pending_after own 0 10 ≡ 0) × (pending_after own 1 10 ≡ 0)
    × (next_delivery own.outcome.state ≡ Some (Gives 2 10 2)) × (own.outcome.report.took ≡ 0) × (drops_of own 10 ≡ 0) × (pending_after twice 2 10 ≡ 2)
    × (pending_after waiter 4 10 ≡ 1) × (reply_of shared ≡ Values 0 0) × (pending_after shared 0 10 ≡ 1) × (pending_after shared 1 10 ≡ 0)
    × (next_delivery shared.outcome.state ≡ Some (Gives 1 10 0)) × (reply_of asked ≡ Values 0 0) × (next_delivery asked.outcome.state ≡ None)
    × (asked.outcome.state.over ≡ None) × (reply_of (called six_threads 291 0 0 0) ≡ Values 0 0)

-- the refusals of the calls of signals, the first that holds: a thread that is not there or has ended comes before a signal
abbrev pub KillRefusals : Type 0
KillRefusals =
    (reply_of (called six_threads 290 9 40 0) ≡ Values 3 0) × (reply_of (called six_threads 290 3 40 0) ≡ Values 3 0)
    × (reply_of (called six_threads 290 0 10 0) ≡ Values 3 0) × (reply_of (called six_threads 290 3 0 0) ≡ Values 3 0)
    × (reply_of (called six_threads 290 2 40 0) ≡ Values 22 0) × (reply_of (called six_threads 290 2 18 0) ≡ Values 22 0)
    × (reply_of (called six_threads 290 2 22 0) ≡ Values 22 0) × (reply_of (called six_threads 290 2 31 0) ≡ Values 0 0)
    × (reply_of (called six_threads 291 32 0 0) ≡ Values 22 0) × (reply_of (called six_threads 291 23 0 0) ≡ Values 0 0)
    × (reply_of (called six_threads 286 9 1 0) ≡ Values 22 0) × (reply_of (called six_threads 286 0 1 0) ≡ Values 22 0)
    × (reply_of (called six_threads 286 18 1 0) ≡ Values 22 0) × (reply_of (called six_threads 286 10 2 0) ≡ Values 22 0)
    × ((called six_threads 286 9 1 0).outcome.state.actions 9 ≡ Default) × ((called six_threads 290 2 40 0).outcome.state.over ≡ None)
