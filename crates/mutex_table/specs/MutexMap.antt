-- What a table of mutexes shows: for each number nothing, or a mutex.
use Rattle.std.specs.Prelude.{◌≡◌, ℕ, List, [], Option, Some, None, IsNone, length, slice_index_or}
use Rattle.thread_base.specs.Objects.{Mutex, waiters_in}
use Rattle.link_arena.specs.Waiting.{queue_of}
use Rattle.mutex_table.specs.declared.MutexState.{MutexState}

-- what the table keeps: each mutex but for its waiters, and the waiters of each number (this project's own)
pub record Table : Type 0 where
  pub states : List (Option MutexState)
  pub queues : List (List ℕ)

-- the mutex of these parts, if there is one (this project's own)
abbrev pub mutex_of : Option MutexState → List ℕ → Option Mutex
mutex_of None waiters = None
mutex_of (Some state) waiters = Some (record { kind = state.kind; protocol = state.protocol; holder = state.holder; waiters = waiters })

-- the mutexes by their numbers (this project's own numbers, 0 to 255)
unfoldable pub mutexes : Table → ℕ → Option Mutex
mutexes table m = mutex_of (slice_index_or table.states m None) (queue_of table.queues m)

-- a mutex but for its waiters (this project's own)
abbrev pub state_of : Option Mutex → Option MutexState
state_of None = None
state_of (Some mutex) = Some (record { kind = mutex.kind; protocol = mutex.protocol; holder = mutex.holder })

-- who waits for each of the mutexes (this project's own)
abbrev pub waiting : (ℕ → Option Mutex) → ℕ → List ℕ
waiting map m = waiters_in (map m)

-- the table has a place for each number, and nobody waits for what is no mutex (this project's own)
pub record AreSound (states : List (Option MutexState)) (queues : List (List ℕ)) : Type 0 where
  pub count : length states ≡ 256
  pub empty : (m : ℕ) → IsNone (slice_index_or states m None) → queue_of queues m ≡ []
