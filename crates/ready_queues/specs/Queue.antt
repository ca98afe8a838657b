-- What a plain ready list shows.
use Rattle.std.specs.Prelude.{ℕ, List}
use Rattle.thread_base.specs.Maps.{numbered}

-- the threads in their order, and each thread's level by its number (POSIX.1 scheduling, one list for all levels)
pub record Queue : Type 0 where
  pub order : List ℕ
  pub levels : List ℕ

-- the priority of each number
unfoldable pub level_of : Queue → ℕ → ℕ
level_of queue = numbered 0 queue.levels
