-- Deadlines on the tick clock (this project's own clock, for the timed waits of POSIX.1).
use Rattle.std.specs.Prelude.{ℕ, Bool, false, nat_le, find, Option, Some, None}
use Rattle.thread_base.specs.Maps.{numbered}
use Rattle.thread_base.specs.Priority.{tids}
use Rattle.time_queue.specs.declared.TimeQueue.{TimeQueue}

-- the deadline of each thread, by its number
abbrev pub deadlines : TimeQueue → ℕ → Option ℕ
deadlines queue = numbered None queue.slots

-- a deadline is there and is not after now
abbrev pub has_come : ℕ → Option ℕ → Bool
has_come now None = false
has_come now (Some deadline) = nat_le deadline now

-- the lowest thread whose deadline has come
abbrev pub least_due : ℕ → (ℕ → Option ℕ) → Option ℕ
least_due now all = find (λ t. has_come now (all t)) tids
