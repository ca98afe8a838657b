-- Small cases of priorities that change, which the checker computes.
use Rattle.std.specs.Prelude.{ℕ, ◌≡◌, [], ◌∷◌, Some}
use Rattle.thread_base.specs.declared.Policy.TheVariants.{Fifo, Rr}
use Rattle.thread_base.specs.declared.mutex.Holder.TheVariants.{Held}
use Rattle.thread_base.specs.declared.mutex.Kind.TheVariants.{Normal}
use Rattle.posix_model.specs.State.{State, Ready, Waits}
use Rattle.posix_model.specs.Scheduling.{chosen}
use Rattle.posix_model.specs.Changes.{set_thread}
use Rattle.posix_model.specs.Replies.{Called}
use Rattle.posix_model.specs.PriorityCalls.{setsched, getsched}
use Rattle.posix_model.specs.MutexCalls.{unlock}
use Rattle.posix_model.specs.Examples.{six_threads, thread_with, with_arguments, reply_of, ready_after, standing_after}
use Rattle.posix_model.specs.MutexExamples.{five_mutexes, mutex_with, mutex_after, on}
use Rattle.posix_model.specs.declared.Reply.TheVariants.{Values}
use Rattle.posix_model.specs.declared.Wait.TheVariants.{Join}

-- thread 1 gives a thread a policy and a priority
abbrev pub scheduled : State → ℕ → ℕ → ℕ → Called
scheduled s u policy prio = setsched s 1 (with_arguments u policy prio 0)

-- the refusals, the first that holds: who never was, who has ended, and then what no thread can have
abbrev pub SchedulingRefusals : Type 0
SchedulingRefusals =
    (reply_of (scheduled six_threads 0 3 32) ≡ Values 3 0) × (reply_of (scheduled six_threads 9 0 8) ≡ Values 3 0)
    × (reply_of (scheduled six_threads 3 3 32) ≡ Values 3 0) × (reply_of (scheduled six_threads 2 3 8) ≡ Values 22 0)
    × (reply_of (scheduled six_threads 2 0 32) ≡ Values 22 0) × (reply_of (scheduled six_threads 2 2 31) ≡ Values 0 0)
    × (reply_of (on getsched six_threads 1 3) ≡ Values 3 0) × (reply_of (on getsched six_threads 1 9) ≡ Values 3 0)

-- thread 2 has used three ticks of its turn
abbrev pub with_used_turn : State
with_used_turn = set_thread six_threads 2 (record (thread_with Ready) { used = 3 })

-- a ready thread goes to the end of the list and its turn begins, also where nothing else changes; it runs at once
-- where it is raised, and another where who runs is lowered
abbrev pub Schedules : Type 0
Schedules =
    let same : Called = scheduled with_used_turn 2 0 8 in
    let raised : Called = scheduled six_threads 5 1 9 in
    let lowered : Called = scheduled six_threads 1 2 7 in
    (ready_after same ≡ 1 ∷ 5 ∷ 6 ∷ 2 ∷ []) × ((same.outcome.state.threads 2).used ≡ 0) × (chosen same.outcome.state ≡ Some 1)
    × (ready_after raised ≡ 1 ∷ 2 ∷ 6 ∷ 5 ∷ []) × (chosen raised.outcome.state ≡ Some 5) × ((raised.outcome.state.threads 5).policy ≡ Fifo)
    × (ready_after lowered ≡ 2 ∷ 5 ∷ 6 ∷ 1 ∷ []) × (chosen lowered.outcome.state ≡ Some 2) × ((lowered.outcome.state.threads 1).policy ≡ Rr)
    × (reply_of (on getsched lowered.outcome.state 2 1) ≡ Values 0 519)

-- a thread that waits goes on waiting, and its new priority decides who gets the mutex that is unlocked
abbrev pub SchedulesWaiters : Type 0
SchedulesWaiters =
    let joining : Called = scheduled six_threads 4 1 20 in
    let raised : Called = on unlock (scheduled five_mutexes 6 0 13).outcome.state 1 0 in
    let lowered : Called = on unlock (scheduled five_mutexes 3 0 11).outcome.state 1 0 in
    (ready_after joining ≡ 1 ∷ 2 ∷ 5 ∷ 6 ∷ []) × (standing_after joining 4 ≡ Waits (Join 2)) × (chosen joining.outcome.state ≡ Some 1)
    × (reply_of (on getsched joining.outcome.state 1 4) ≡ Values 0 276)
    × (mutex_after raised 0 ≡ Some (mutex_with Normal (Held 6 1) (4 ∷ 3 ∷ 5 ∷ []))) × (chosen raised.outcome.state ≡ Some 6)
    × (mutex_after lowered 0 ≡ Some (mutex_with Normal (Held 5 1) (4 ∷ 3 ∷ 6 ∷ []))) × (chosen lowered.outcome.state ≡ Some 5)
