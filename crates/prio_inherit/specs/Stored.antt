-- What a table shows of each thread's number.
use Rattle.std.specs.Prelude.{ℕ, Option, None}
use Rattle.thread_base.specs.Maps.{numbered}
use Rattle.prio_inherit.specs.declared.Inherit.{Inherit}

-- the own priority of each number (POSIX.1 scheduling: the priority of a thread that inherits nothing)
unfoldable pub own_of : Inherit → ℕ → ℕ
own_of table = numbered 0 table.own

-- the thread to which the edge of each number leads (POSIX.1 priority inheritance: the owner for whom it waits)
unfoldable pub edge_of : Inherit → ℕ → Option ℕ
edge_of table = numbered None table.edges

-- the stored priority of each number (this project's own)
unfoldable pub prio_of : Inherit → ℕ → ℕ
prio_of table = numbered 0 table.prios
