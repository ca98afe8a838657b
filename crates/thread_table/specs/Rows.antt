-- What a table of threads shows: a row for each thread's number, and nothing for a number that is free.
use Rattle.std.specs.Prelude.{ℕ, Bool, false, Option, Some, None, find, is_none, count_by}
use Rattle.thread_base.specs.Maps.{put, numbered}
use Rattle.thread_base.specs.Priority.{tids}
use Rattle.thread_table.specs.declared.Row.{Row}
use Rattle.thread_table.specs.declared.Threads.{Threads}

-- the row of each number (this project's own)
unfoldable pub rows : Threads → ℕ → Option Row
rows threads = numbered None threads.rows

-- the least thread's number that has no row (POSIX.1 leaves the choice of an ID open)
abbrev pub free_number : (ℕ → Option Row) → Option ℕ
free_number map = find (λ t. is_none (map t)) tids

-- the map with a row at the number that was found, if one was
abbrev pub put_found : (ℕ → Option Row) → Option ℕ → Row → ℕ → Option Row
put_found map None row = map
put_found map (Some t) row = put map t (Some row)

-- a row is that of a thread that has not ended (POSIX.1 thread termination)
abbrev pub is_live : Option Row → Bool
is_live None = false
is_live (Some row) = is_none row.ended

-- how many threads have not ended
abbrev pub live_count : (ℕ → Option Row) → ℕ
live_count map = count_by (λ t. is_live (map t)) tids
