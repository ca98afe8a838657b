-- Small cases of mutexes, which the checker computes.
use Rattle.std.specs.Prelude.{ℕ, ◌≡◌, List, [], ◌∷◌, slice_index_or, Option, Some, None}
use Rattle.thread_base.specs.Maps.{put}
use Rattle.thread_base.specs.declared.mutex.Holder.{Holder}
use Rattle.thread_base.specs.declared.mutex.Holder.TheVariants.{Free, Held, Orphan}
use Rattle.thread_base.specs.declared.mutex.Kind.{Kind}
use Rattle.thread_base.specs.declared.mutex.Kind.TheVariants.{Normal, ErrorCheck, Recursive}
use Rattle.thread_base.specs.declared.mutex.Protocol.TheVariants.{Plain}
use Rattle.posix_model.specs.State.{State, Thread, Mutex, Ready, Waits, no_thread, no_mutexes}
use Rattle.posix_model.specs.Scheduling.{chosen}
use Rattle.posix_model.specs.Leaving.{end_of_thread}
use Rattle.posix_model.specs.Replies.{Called}
use Rattle.posix_model.specs.MutexCalls.{mutex_init, mutex_destroy, lock, trylock, unlock}
use Rattle.posix_model.specs.Examples.{six_threads, thread_with, with_arguments, reply_of, ready_after, standing_after}
use Rattle.posix_model.specs.declared.Arguments.{Arguments}
use Rattle.posix_model.specs.declared.Reply.TheVariants.{Values, Block}
use Rattle.posix_model.specs.declared.Wait.TheVariants.{Mutex as OfMutex}

-- a thread of a priority that waits for mutex 0
abbrev pub waiter_with : ℕ → Thread
waiter_with base = record (thread_with (Waits (OfMutex 0))) { base = base }

-- a mutex without a protocol
abbrev pub mutex_with : Kind → Holder → List ℕ → Mutex
mutex_with kind holder waiters = record { kind = kind; protocol = Plain; holder = holder; waiters = waiters }

-- threads 1 and 2 are ready; thread 1 has the mutexes 0, 1, 2 (twice) and 3 (as often as can be), and 4 is free;
-- the threads 4, 3, 5 and 6 came in this order to wait for mutex 0
abbrev pub five_mutexes : State
five_mutexes = record six_threads {
  threads =
      put (put (put (put (put (put (λ t. no_thread) 1 (thread_with Ready)) 2 (thread_with Ready)) 3 (waiter_with 12))
      4 (waiter_with 8)) 5 (waiter_with 12)) 6 (waiter_with 8);
  ready = 1 ∷ 2 ∷ [];
  mutexes =
      put (put (put (put (put no_mutexes 0 (Some (mutex_with Normal (Held 1 1) (4 ∷ 3 ∷ 5 ∷ 6 ∷ []))))
      1 (Some (mutex_with ErrorCheck (Held 1 1) []))) 2 (Some (mutex_with Recursive (Held 1 2) [])))
      3 (Some (mutex_with Recursive (Held 1 65535) []))) 4 (Some (mutex_with Normal Free []));
}

-- the mutex of a number after a call
abbrev pub mutex_after : Called → ℕ → Option Mutex
mutex_after called m = called.outcome.state.mutexes m

-- a call of one number
abbrev pub on : (State → ℕ → Arguments → Called) → State → ℕ → ℕ → Called
on row s t m = row s t (with_arguments m 0 0 0)

-- a free mutex is taken; a thread waits after the others, also for a normal one of its own
abbrev pub Locks : Type 0
Locks =
    let taken : Called = on lock five_mutexes 2 4 in
    let waits : Called = on lock five_mutexes 2 0 in
    let again : Called = on lock five_mutexes 1 0 in
    (reply_of taken ≡ Values 0 0) × (mutex_after taken 4 ≡ Some (mutex_with Normal (Held 2 1) [])) × (ready_after taken ≡ 1 ∷ 2 ∷ [])
    × (reply_of waits ≡ Block) × (mutex_after waits 0 ≡ Some (mutex_with Normal (Held 1 1) (4 ∷ 3 ∷ 5 ∷ 6 ∷ 2 ∷ [])))
    × (standing_after waits 2 ≡ Waits (OfMutex 0)) × (ready_after waits ≡ 1 ∷ [])
    × (reply_of again ≡ Block) × (mutex_after again 0 ≡ Some (mutex_with Normal (Held 1 1) (4 ∷ 3 ∷ 5 ∷ 6 ∷ 1 ∷ [])))
    × (reply_of (on lock five_mutexes 2 1) ≡ Block) × (reply_of (on lock five_mutexes 2 2) ≡ Block)
    × (reply_of (on lock five_mutexes 2 3) ≡ Block)

-- the refusals of lock: no mutex, an own error-checking one, one that is full
abbrev pub LockRefusals : Type 0
LockRefusals =
    (reply_of (on lock five_mutexes 1 9) ≡ Values 22 0) × (reply_of (on lock five_mutexes 1 1) ≡ Values 35 0)
    × (reply_of (on lock five_mutexes 1 3) ≡ Values 11 0)

-- a recursive mutex is free after as many unlocks as locks, and an unlock is refused to another than its owner
abbrev pub Counts : Type 0
Counts =
    let thrice : Called = on lock five_mutexes 1 2 in
    let twice : Called = on unlock thrice.outcome.state 1 2 in
    let once : Called = on unlock twice.outcome.state 1 2 in
    let freed : Called = on unlock once.outcome.state 1 2 in
    (reply_of thrice ≡ Values 0 0) × (mutex_after thrice 2 ≡ Some (mutex_with Recursive (Held 1 3) []))
    × (mutex_after twice 2 ≡ Some (mutex_with Recursive (Held 1 2) [])) × (mutex_after once 2 ≡ Some (mutex_with Recursive (Held 1 1) []))
    × (reply_of freed ≡ Values 0 0) × (mutex_after freed 2 ≡ Some (mutex_with Recursive Free []))
    × (reply_of (on unlock five_mutexes 2 2) ≡ Values 1 0) × (reply_of (on unlock five_mutexes 1 4) ≡ Values 1 0)
    × (reply_of (on unlock five_mutexes 1 9) ≡ Values 22 0)

-- a trylock never waits: it is refused where a lock waits, also of an own normal or error-checking mutex
abbrev pub Trylocks : Type 0
Trylocks =
    (reply_of (on trylock five_mutexes 1 9) ≡ Values 22 0) × (reply_of (on trylock five_mutexes 1 3) ≡ Values 11 0)
    × (reply_of (on trylock five_mutexes 2 3) ≡ Values 16 0) × (reply_of (on trylock five_mutexes 2 0) ≡ Values 16 0)
    × (reply_of (on trylock five_mutexes 1 0) ≡ Values 16 0) × (reply_of (on trylock five_mutexes 1 1) ≡ Values 16 0)
    × (reply_of (on trylock five_mutexes 1 2) ≡ Values 0 0)
    × (mutex_after (on trylock five_mutexes 1 2) 2 ≡ Some (mutex_with Recursive (Held 1 3) []))
    × (mutex_after (on trylock five_mutexes 2 4) 4 ≡ Some (mutex_with Normal (Held 2 1) []))

-- a mutex is handed to the waiter of greatest priority, the earliest of equals, who leaves its list, is answered and
-- is ready after the others; with no waiter left it is free
abbrev pub HandsOff : Type 0
HandsOff =
    let first : Called = on unlock five_mutexes 1 0 in
    let second : Called = on unlock first.outcome.state 3 0 in
    let third : Called = on unlock second.outcome.state 5 0 in
    let fourth : Called = on unlock third.outcome.state 4 0 in
    let last : Called = on unlock fourth.outcome.state 6 0 in
    (reply_of first ≡ Values 0 0) × (mutex_after first 0 ≡ Some (mutex_with Normal (Held 3 1) (4 ∷ 5 ∷ 6 ∷ [])))
    × (ready_after first ≡ 1 ∷ 2 ∷ 3 ∷ []) × (standing_after first 3 ≡ Ready) × (chosen first.outcome.state ≡ Some 3)
    × (first.outcome.report.done ≡ 4) × (slice_index_or first.outcome.report.values 2 (9, 9) ≡ (0, 0))
    × (mutex_after second 0 ≡ Some (mutex_with Normal (Held 5 1) (4 ∷ 6 ∷ [])))
    × (mutex_after third 0 ≡ Some (mutex_with Normal (Held 4 1) (6 ∷ [])))
    × (mutex_after fourth 0 ≡ Some (mutex_with Normal (Held 6 1) []))
    × (mutex_after last 0 ≡ Some (mutex_with Normal Free [])) × (ready_after last ≡ 1 ∷ 2 ∷ 3 ∷ 5 ∷ 4 ∷ 6 ∷ [])

-- a mutex of each kind is made, and the refusals of its making
abbrev pub Inits : Type 0
Inits =
    let with_attributes : ℕ → ℕ → Called = λ m word. mutex_init five_mutexes 1 (with_arguments m word 0 0) in
    (mutex_after (with_attributes 255 0) 255 ≡ Some (mutex_with Normal Free [])) × (mutex_after (with_attributes 5 1) 5 ≡ Some (mutex_with ErrorCheck Free []))
    × (mutex_after (with_attributes 5 2) 5 ≡ Some (mutex_with Recursive Free [])) × (reply_of (with_attributes 5 2) ≡ Values 0 0)
    × (reply_of (with_attributes 256 0) ≡ Values 22 0) × (reply_of (with_attributes 5 3) ≡ Values 22 0)
    × (reply_of (with_attributes 5 4) ≡ Values 22 0) × (reply_of (with_attributes 5 16) ≡ Values 22 0)
    × (reply_of (with_attributes 0 3) ≡ Values 22 0) × (reply_of (with_attributes 0 0) ≡ Values 16 0)

-- a free mutex is destroyed, and one in use is not
abbrev pub Destroys : Type 0
Destroys =
    (mutex_after (on mutex_destroy five_mutexes 1 4) 4 ≡ None) × (reply_of (on mutex_destroy five_mutexes 1 4) ≡ Values 0 0)
    × (reply_of (on mutex_destroy five_mutexes 1 0) ≡ Values 16 0) × (reply_of (on mutex_destroy five_mutexes 1 2) ≡ Values 16 0)
    × (reply_of (on mutex_destroy five_mutexes 1 9) ≡ Values 22 0)

-- the mutexes of a thread that ends are orphans: nobody gets them, and who waits for them waits for ever
abbrev pub Orphans : Type 0
Orphans =
    let left : State = (end_of_thread five_mutexes 1 5).state in
    (left.mutexes 0 ≡ Some (mutex_with Normal Orphan (4 ∷ 3 ∷ 5 ∷ 6 ∷ []))) × (left.mutexes 2 ≡ Some (mutex_with Recursive Orphan []))
    × (left.mutexes 4 ≡ Some (mutex_with Normal Free [])) × (left.ready ≡ 2 ∷ [])
    × ((left.threads 3).standing ≡ Waits (OfMutex 0)) × (reply_of (on lock left 2 1) ≡ Block) × (reply_of (on trylock left 2 1) ≡ Values 16 0)
    × (reply_of (on unlock left 2 0) ≡ Values 1 0) × (reply_of (on mutex_destroy left 2 1) ≡ Values 16 0)
    × (chosen (on lock left 2 0).outcome.state ≡ None)
