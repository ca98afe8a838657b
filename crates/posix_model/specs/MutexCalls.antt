-- The calls of mutexes: of each its refusals in order, then its effect, then its reply.
-- The priority protocols are not built: bits 4 and 5 of the attributes are among those that are 0, every mutex is
-- plain, and the refusal of lock and trylock about a ceiling has no case.
use Rattle.std.specs.Prelude.{ℕ, ◌-◌, ◌%◌, ◌==◌, ◌&&◌, ◌||◌, Bool, true, false, not, if◌then◌else◌, List, [], ◌∷◌, Option, Some, None, is_some, nat_lt, bit_and}
use Rattle.thread_base.specs.Holders.{is_held_by, count_of, is_free}
use Rattle.thread_base.specs.Objects.{free_mutex}
use Rattle.thread_base.specs.declared.Errno.TheVariants.{EPERM, EAGAIN, EBUSY, EINVAL, EDEADLK}
use Rattle.thread_base.specs.declared.mutex.Holder.TheVariants.{Held}
use Rattle.thread_base.specs.declared.mutex.Kind.{Kind}
use Rattle.thread_base.specs.declared.mutex.Kind.TheVariants.{Normal, ErrorCheck, Recursive}
use Rattle.thread_base.specs.declared.mutex.Protocol.TheVariants.{Plain}
use Rattle.posix_model.specs.State.{State, Mutex}
use Rattle.posix_model.specs.Changes.{Outcome, begun}
use Rattle.posix_model.specs.Mutexes.{most_locks, set_mutex, locked_by, with_waiter, best_waiter, hand_off}
use Rattle.posix_model.specs.Conditions.{is_used}
use Rattle.posix_model.specs.Replies.{Called, Entry, values, refused, refusing, blocked}
use Rattle.posix_model.specs.declared.Arguments.{Arguments}
use Rattle.posix_model.specs.declared.Wait.TheVariants.{Mutex as OfMutex}

-- The attributes of a mutex in one word (this project's own packing): bits 0 and 1 are its kind.

-- no other bit is set, and the kind is one
abbrev pub are_mutex_attributes : ℕ → Bool
are_mutex_attributes word = bit_and word 0xFFFFFFFC == 0 && not (word % 4 == 3)

-- the kind (POSIX.1 PTHREAD_MUTEX_NORMAL, ERRORCHECK and RECURSIVE)
abbrev pub kind_by : ℕ → Kind
kind_by word = if word % 4 == 0 then Normal else if word % 4 == 1 then ErrorCheck else Recursive

-- a new mutex, which is free
abbrev pub new_mutex : ℕ → Mutex
new_mutex word = free_mutex (kind_by word) Plain

-- a number or attributes with which no mutex can be made
abbrev pub cannot_init : Arguments → Bool
cannot_init c = not (nat_lt c.a0 256) || not (are_mutex_attributes c.a1)

-- 274: mutex_init(mutex, attributes, ceiling) (POSIX.1 pthread_mutex_init)
abbrev pub mutex_init : State → ℕ → Arguments → Called
mutex_init s t c =
    refusing s t (
    (cannot_init c, EINVAL)
    ∷ (is_some (s.mutexes c.a0), EBUSY) ∷ [])
    (values (begun (set_mutex s c.a0 (Some (new_mutex c.a1)))) t 0 0)

-- a mutex is there no more, where it is free and no waiter of a condition uses it
abbrev pub destroy_of : State → ℕ → ℕ → Option Mutex → Called
destroy_of s t m None = refused s t EINVAL
destroy_of s t m (Some mutex) =
    refusing s t ((not (is_free mutex.holder) || is_used s m, EBUSY) ∷ []) (values (begun (set_mutex s m None)) t 0 0)

-- 275: mutex_destroy(mutex) (POSIX.1 pthread_mutex_destroy)
abbrev pub mutex_destroy : State → ℕ → Arguments → Called
mutex_destroy s t c = destroy_of s t c.a0 (s.mutexes c.a0)

-- it answers an error where its owner locks it again
abbrev pub is_error_checking : Kind → Bool
is_error_checking Normal = false
is_error_checking ErrorCheck = true
is_error_checking Recursive = false

-- it counts where its owner locks it again
abbrev pub is_recursive : Kind → Bool
is_recursive Normal = false
is_recursive ErrorCheck = false
is_recursive Recursive = true

-- its owner locks it again, which is an error
abbrev pub is_checked : ℕ → Mutex → Bool
is_checked t mutex = is_error_checking mutex.kind && is_held_by mutex.holder t

-- its owner locks it again, which counts
abbrev pub is_counted : ℕ → Mutex → Bool
is_counted t mutex = is_recursive mutex.kind && is_held_by mutex.holder t

-- its owner locks it again, and it cannot count further
abbrev pub is_full : ℕ → Mutex → Bool
is_full t mutex = is_counted t mutex && count_of mutex.holder == most_locks

-- a thread has it without a wait
abbrev pub is_open_to : ℕ → Mutex → Bool
is_open_to t mutex = is_free mutex.holder || is_counted t mutex

-- the caller has a mutex once more
abbrev pub take : State → ℕ → ℕ → Mutex → Called
take s t m mutex = values (begun (set_mutex s m (Some (locked_by t mutex)))) t 0 0

-- the caller waits for a mutex, after the others
abbrev pub queue : State → ℕ → ℕ → Mutex → Called
queue s t m mutex = blocked (set_mutex s m (Some (with_waiter t mutex))) t (OfMutex m)

-- a mutex is locked, or waited for
abbrev pub lock_of : State → ℕ → ℕ → Option Mutex → Called
lock_of s t m None = refused s t EINVAL
lock_of s t m (Some mutex) =
    refusing s t (
    (is_checked t mutex, EDEADLK)
    ∷ (is_full t mutex, EAGAIN) ∷ [])
    (if is_open_to t mutex then take s t m mutex else queue s t m mutex)

-- 276: lock(mutex) (POSIX.1 pthread_mutex_lock)
abbrev pub lock : State → ℕ → Arguments → Called
lock s t c = lock_of s t c.a0 (s.mutexes c.a0)

-- a mutex is locked where nobody has to wait
abbrev pub trylock_of : State → ℕ → ℕ → Option Mutex → Called
trylock_of s t m None = refused s t EINVAL
trylock_of s t m (Some mutex) =
    refusing s t (
    (is_full t mutex, EAGAIN)
    ∷ (not (is_open_to t mutex), EBUSY) ∷ [])
    (take s t m mutex)

-- 277: trylock(mutex) (POSIX.1 pthread_mutex_trylock)
abbrev pub trylock : State → ℕ → Arguments → Called
trylock s t c = trylock_of s t c.a0 (s.mutexes c.a0)

-- its owner has locked a mutex once less; with the last lock it is handed over
abbrev pub released : State → ℕ → ℕ → Mutex → Outcome
released s t m mutex =
    if count_of mutex.holder == 1 then hand_off (begun s) m mutex (best_waiter s mutex)
    else begun (set_mutex s m (Some (record mutex { holder = Held t (count_of mutex.holder - 1) })))

-- a mutex is unlocked by its owner
abbrev pub unlock_of : State → ℕ → ℕ → Option Mutex → Called
unlock_of s t m None = refused s t EINVAL
unlock_of s t m (Some mutex) = refusing s t ((not (is_held_by mutex.holder t), EPERM) ∷ []) (values (released s t m mutex) t 0 0)

-- 278: unlock(mutex) (POSIX.1 pthread_mutex_unlock)
abbrev pub unlock : State → ℕ → Arguments → Called
unlock s t c = unlock_of s t c.a0 (s.mutexes c.a0)

-- the calls of mutexes
abbrev pub mutex_calls : List Entry
mutex_calls = (274, mutex_init) ∷ (275, mutex_destroy) ∷ (276, lock) ∷ (277, trylock) ∷ (278, unlock) ∷ []
