-- What a table of condition variables shows: for each number nothing, or a condition.
use Rattle.std.specs.Prelude.{◌≡◌, ℕ, List, [], Option, Some, None, IsNone, length, slice_index_or}
use Rattle.thread_base.specs.Objects.{Condition, cond_waiters, still_bound}
use Rattle.link_arena.specs.Waiting.{queue_of}

-- what the table keeps: for each condition a mutex, and the waiters of each number (this project's own)
pub record Table : Type 0 where
  pub mutexes : List (Option ℕ)
  pub queues : List (List ℕ)

-- the condition of these parts, if there is one (this project's own)
abbrev pub condition_of : Option ℕ → List ℕ → Option Condition
condition_of None waiters = None
condition_of (Some m) waiters = Some (record { mutex = still_bound (Some m) waiters; waiters = waiters })

-- the conditions by their numbers (this project's own numbers, 0 to 255)
unfoldable pub conditions : Table → ℕ → Option Condition
conditions table c = condition_of (slice_index_or table.mutexes c None) (queue_of table.queues c)

-- who waits for each of the conditions (this project's own)
abbrev pub waiting : (ℕ → Option Condition) → ℕ → List ℕ
waiting map c = cond_waiters (map c)

-- the table has a place for each number, and nobody waits for what is no condition (this project's own)
pub record AreSound (mutexes : List (Option ℕ)) (queues : List (List ℕ)) : Type 0 where
  pub count : length mutexes ≡ 256
  pub empty : (c : ℕ) → IsNone (slice_index_or mutexes c None) → queue_of queues c ≡ []
