-- Mutexes and condition variables: as the machine has them, and as their tables keep them.
use Rattle.std.specs.Prelude.{ℕ, ◌==◌, Bool, false, List, [], ◌∷◌, ◌++◌, Option, Some, None}
use Rattle.std.specs.List.{range_with_len}
use Rattle.thread_base.specs.Holders.{is_held_by}
use Rattle.thread_base.specs.Orders.{without}
use Rattle.thread_base.specs.declared.mutex.Holder.{Holder}
use Rattle.thread_base.specs.declared.mutex.Holder.TheVariants.{Free}
use Rattle.thread_base.specs.declared.mutex.Kind.{Kind}
use Rattle.thread_base.specs.declared.mutex.Protocol.{Protocol}

-- a mutex (POSIX.1 mutexes)
pub record Mutex : Type 0 where
  pub kind : Kind
  pub protocol : Protocol
  pub holder : Holder
  pub waiters : List ℕ  -- in order of arrival

-- a condition variable (POSIX.1 condition variables)
pub record Condition : Type 0 where
  pub mutex : Option ℕ  -- that with which its waiters wait, where it has any
  pub waiters : List ℕ  -- in order of arrival

-- a mutex that nobody has and nobody waits for (POSIX.1 pthread_mutex_init)
abbrev pub free_mutex : Kind → Protocol → Mutex
free_mutex kind protocol = record { kind = kind; protocol = protocol; holder = Free; waiters = [] }

-- a condition for which nobody waits (POSIX.1 pthread_cond_init)
abbrev pub new_condition : Condition
new_condition = record { mutex = None; waiters = [] }

-- who has a mutex: nobody where there is none
abbrev pub holder_in : Option Mutex → Holder
holder_in None = Free
holder_in (Some mutex) = mutex.holder

-- who waits for a mutex: nobody where there is none
abbrev pub waiters_in : Option Mutex → List ℕ
waiters_in None = []
waiters_in (Some mutex) = mutex.waiters

-- a thread owns a mutex (POSIX.1 pthread_mutex_lock)
abbrev pub is_owned_by : ℕ → Option Mutex → Bool
is_owned_by t mutex = is_held_by (holder_in mutex) t

-- the mutex with which the waiters of a condition wait: none where nobody waits, or where there is no condition
abbrev pub cond_mutex : Option Condition → Option ℕ
cond_mutex None = None
cond_mutex (Some condition) = condition.mutex

-- who waits for a condition: nobody where there is none
abbrev pub cond_waiters : Option Condition → List ℕ
cond_waiters None = []
cond_waiters (Some condition) = condition.waiters

-- a mutex has another holder, or none (POSIX.1 pthread_mutex_lock and pthread_mutex_unlock)
abbrev pub with_holder : Holder → Option Mutex → Option Mutex
with_holder holder None = None
with_holder holder (Some mutex) = Some (record mutex { holder = holder })

-- the waiters of a mutex change
abbrev pub with_waiters : (List ℕ → List ℕ) → Option Mutex → Option Mutex
with_waiters change None = None
with_waiters change (Some mutex) = Some (record mutex { waiters = change mutex.waiters })

-- a thread waits after the others
abbrev pub appended : ℕ → List ℕ → List ℕ
appended t waiters = waiters ++ t ∷ []

-- a thread waits for a condition with a mutex, after the others (POSIX.1 pthread_cond_wait)
abbrev pub entered_by : ℕ → ℕ → Condition → Condition
entered_by t m condition = record { mutex = Some m; waiters = appended t condition.waiters }

-- the same where there is a condition
abbrev pub entered : ℕ → ℕ → Option Condition → Option Condition
entered t m None = None
entered t m (Some condition) = Some (entered_by t m condition)

-- a mutex stays bound while a thread waits (POSIX.1 pthread_cond_wait)
abbrev pub still_bound : Option ℕ → List ℕ → Option ℕ
still_bound mutex [] = None
still_bound mutex (t ∷ ts) = mutex

-- a thread waits for a condition no more (POSIX.1 pthread_cond_signal)
abbrev pub without_waiter : ℕ → Option Condition → Option Condition
without_waiter t None = None
without_waiter t (Some condition) = Some (record { mutex = still_bound condition.mutex (without t condition.waiters); waiters = without t condition.waiters })

-- it is this mutex
abbrev pub is_mutex : ℕ → Option ℕ → Bool
is_mutex m None = false
is_mutex m (Some k) = k == m

-- the numbers that a condition can have (this project's limit)
unfoldable pub condition_numbers : List ℕ
condition_numbers = range_with_len 0 256
