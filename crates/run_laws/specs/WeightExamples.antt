-- Small cases of the weight of moves.
use Rattle.std.specs.Prelude.{◌≡◌, [], ◌∷◌}
use Rattle.thread_base.specs.declared.mutex.Holder.TheVariants.{Held}
use Rattle.posix_model.specs.Calls.{create, yield}
use Rattle.posix_model.specs.ConditionCalls.{cond_broadcast}
use Rattle.posix_model.specs.MutexCalls.{unlock}
use Rattle.posix_model.specs.SignalCalls.{kill_thread}
use Rattle.posix_model.specs.Leaving.{end_of_thread}
use Rattle.posix_model.specs.Examples.{six_threads, with_arguments}
use Rattle.posix_model.specs.MutexExamples.{five_mutexes, on}
use Rattle.posix_model.specs.ConditionExamples.{two_conditions}
use Rattle.posix_model.specs.declared.Move.TheVariants.{Instr, Deliver}
use Rattle.kernel_state.specs.declared.change.Change.TheVariants.{Thread as OfThread, Mutex as OfMutex}
use Rattle.kernel_state.specs.declared.change.MutexChange.TheVariants.{Hold, DropWaiter}
use Rattle.kernel_state.specs.declared.change.ThreadChange.TheVariants.{Reply, ToEnd, Answer}
use Rattle.run_laws.specs.MoveWeights.{Weighs, By, IsMade, since_last, until_last}

-- a yield changes the record of its caller alone
abbrev pub YieldWeighs : Type 0
YieldWeighs = Weighs six_threads (yield six_threads 1 (with_arguments 0 0 0 0)).outcome.state 1

-- a signal that is sent to another thread changes the record of its sender alone
abbrev pub KillWeighs : Type 0
KillWeighs = Weighs six_threads (kill_thread six_threads 1 (with_arguments 2 10 0 0)).outcome.state 1

-- an unlock that hands the mutex over changes its caller and the waiter
abbrev pub HandOverWeighs : Type 0
HandOverWeighs = Weighs five_mutexes (on unlock five_mutexes 1 0).outcome.state 2

-- a broadcast that wakes three threads changes them and its caller
abbrev pub BroadcastWeighs : Type 0
BroadcastWeighs = Weighs two_conditions (on cond_broadcast two_conditions 1 0).outcome.state 4

-- a create changes its caller, and the thread that comes
abbrev pub CreateWeighs : Type 0
CreateWeighs = Weighs six_threads (create six_threads 1 (with_arguments 65796 7 131072 0)).outcome.state 2

-- the end of a thread changes that thread, which goes, and its joiner
abbrev pub EndWeighs : Type 0
EndWeighs = Weighs six_threads (end_of_thread six_threads 2 5).state 2

-- a yield is made of two small changes, each of its caller: it goes after the others, and is answered
abbrev pub YieldIsMade : Type 0
YieldIsMade =
    IsMade (By (OfThread 1 ToEnd ∷ OfThread 1 (Reply 0 0) ∷ [])) six_threads (yield six_threads 1 (with_arguments 0 0 0 0)).outcome.state

-- an unlock that hands the mutex over is made of four: the waiter leaves the list, holds it and is answered, and the caller is
abbrev pub HandOverIsMade : Type 0
HandOverIsMade =
    IsMade (By (OfMutex 0 (DropWaiter 3) ∷ OfMutex 0 (Hold (Held 3 1)) ∷ OfThread 3 (Answer 0 0) ∷ OfThread 1 (Reply 0 0) ∷ [])) five_mutexes
    (on unlock five_mutexes 1 0).outcome.state

-- the moves since the last instruction begin with it; before the first they are all moves
abbrev pub Since : Type 0
Since =
    (since_last (Deliver ∷ Instr 1 ∷ Deliver ∷ Instr 2 ∷ Deliver ∷ Deliver ∷ []) ≡ Instr 2 ∷ Deliver ∷ Deliver ∷ [])
    × (until_last (Deliver ∷ Instr 1 ∷ Deliver ∷ Instr 2 ∷ Deliver ∷ Deliver ∷ []) ≡ Deliver ∷ Instr 1 ∷ Deliver ∷ [])
    × (since_last (Deliver ∷ Deliver ∷ []) ≡ Deliver ∷ Deliver ∷ []) × (since_last (Deliver ∷ Instr 2 ∷ []) ≡ Instr 2 ∷ [])
