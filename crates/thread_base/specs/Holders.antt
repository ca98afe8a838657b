-- Who has a mutex (POSIX.1 pthread_mutex_lock).
use Rattle.std.specs.Prelude.{ℕ, ◌==◌, Bool, true, false}
use Rattle.thread_base.specs.declared.mutex.Holder.{Holder}
use Rattle.thread_base.specs.declared.mutex.Holder.TheVariants.{Free, Held, Orphan}

-- a thread owns the mutex
abbrev pub is_held_by : Holder → ℕ → Bool
is_held_by Free t = false
is_held_by (Held by count) t = by == t
is_held_by Orphan t = false

-- how often its owner has locked it
abbrev pub count_of : Holder → ℕ
count_of Free = 0
count_of (Held by count) = count
count_of Orphan = 0

-- nobody has the mutex
abbrev pub is_free : Holder → Bool
is_free Free = true
is_free (Held by count) = false
is_free Orphan = false
