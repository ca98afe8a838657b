-- What threads do, and what they wait for (POSIX.1 thread states).
use Rattle.std.specs.Prelude.{ℕ, ◌==◌, Bool, true, false, Option, Some, None}
use Rattle.posix_model.specs.declared.Wait.{Wait}
use Rattle.posix_model.specs.declared.Wait.TheVariants.{Join, Mutex as OfMutex, Cond, Reacquire, Signal as OfSignal, Sleep, Read}

-- what a thread is doing; at a number that no thread has, none is there (POSIX.1 thread states)
pub data Standing : Type 0 where
  Absent : Standing
  Ready : Standing
  Waits : (wait : Wait) → Standing
  Ended : (value : ℕ) → Standing  -- its value is still to be collected

-- there is no thread
abbrev pub is_absent : Standing → Bool
is_absent Absent = true
is_absent Ready = false
is_absent (Waits wait) = false
is_absent (Ended value) = false

-- a thread can run
abbrev pub is_ready : Standing → Bool
is_ready Absent = false
is_ready Ready = true
is_ready (Waits wait) = false
is_ready (Ended value) = false

-- a thread is there and has not ended
abbrev pub is_live : Standing → Bool
is_live Absent = false
is_live Ready = true
is_live (Waits wait) = true
is_live (Ended value) = false

-- what a thread waits for: nothing, the end of a thread, a mutex, a condition, a signal of a set, a time, input
pub data Target : Type 0 where
  ASignal : (set : ℕ) → Target
  ATime : (until : ℕ) → Target
  Input : (buffer size : ℕ) → Target
  Nothing : Target
  EndOf : (thread : ℕ) → Target
  MutexAt : (mutex : ℕ) → Target
  ConditionAt : (condition : ℕ) → Target

-- what a wait is for; who waits to have a mutex back waits for that mutex
abbrev pub aim : Wait → Target
aim (Join u) = EndOf u
aim (OfMutex m) = MutexAt m
aim (Cond c m deadline count) = ConditionAt c
aim (Reacquire m reply count) = MutexAt m
aim (OfSignal set) = ASignal set
aim (Sleep until) = ATime until
aim (Read buffer size) = Input buffer size

-- what a thread waits for
abbrev pub target : Standing → Target
target Absent = Nothing
target Ready = Nothing
target (Waits wait) = aim wait
target (Ended value) = Nothing

-- it is this target, and not nothing
abbrev pub is_target : Target → Target → Bool
is_target (EndOf t) (EndOf u) = u == t
is_target (MutexAt m) (MutexAt k) = k == m
is_target (ConditionAt c) (ConditionAt k) = k == c
is_target a b = false

-- a thread waits for the end of a thread (POSIX.1 pthread_join)
abbrev pub joins : ℕ → Standing → Bool
joins t standing = is_target (EndOf t) (target standing)

-- a thread waits for a mutex: to lock it, or to have it back after a condition (POSIX.1 pthread_mutex_lock, pthread_cond_wait)
abbrev pub wants : ℕ → Standing → Bool
wants m standing = is_target (MutexAt m) (target standing)

-- a thread waits for a condition (POSIX.1 pthread_cond_wait)
abbrev pub waits_on : ℕ → Standing → Bool
waits_on c standing = is_target (ConditionAt c) (target standing)

-- the wait of a thread that waits
abbrev pub wait_of : Standing → Option Wait
wait_of Absent = None
wait_of Ready = None
wait_of (Waits wait) = Some wait
wait_of (Ended value) = None

-- the mutex with which a wait for a condition is made
abbrev pub mutex_beside : Option Wait → Option ℕ
mutex_beside None = None
mutex_beside (Some (Join u)) = None
mutex_beside (Some (OfMutex m)) = None
mutex_beside (Some (Cond c m deadline count)) = Some m
mutex_beside (Some (Reacquire m reply count)) = None
mutex_beside (Some (OfSignal set)) = None
mutex_beside (Some (Sleep until)) = None
mutex_beside (Some (Read buffer size)) = None

-- how often a wait gives a thread its mutex: once, or as often as it had it before its wait for a condition
abbrev pub count_by : Option Wait → ℕ
count_by None = 1
count_by (Some (Join u)) = 1
count_by (Some (OfMutex m)) = 1
count_by (Some (Cond c m deadline count)) = count
count_by (Some (Reacquire m reply count)) = count
count_by (Some (OfSignal set)) = 1
count_by (Some (Sleep until)) = 1
count_by (Some (Read buffer size)) = 1

-- the mutex with which a thread waits for a condition (POSIX.1 pthread_cond_wait)
abbrev pub mutex_with : Standing → Option ℕ
mutex_with standing = mutex_beside (wait_of standing)

-- how often a thread has the mutex that its wait gives it (POSIX.1 pthread_cond_wait)
abbrev pub count_due : Standing → ℕ
count_due standing = count_by (wait_of standing)

-- the set of signals that a thread waits for (POSIX.1 sigwait)
abbrev pub set_at : Target → Option ℕ
set_at (ASignal set) = Some set
set_at a = None

-- the time at which a wait ends by itself: a sleep, or a wait for a condition with a deadline
abbrev pub deadline_by : Option Wait → Option ℕ
deadline_by (Some (Cond c m deadline count)) = deadline
deadline_by (Some (Sleep until)) = Some until
deadline_by a = None

-- a thread waits to have a mutex back (POSIX.1 pthread_cond_wait)
abbrev pub takes_back : Option Wait → Bool
takes_back (Some (Reacquire m reply count)) = true
takes_back a = false

-- a thread waits for a condition
abbrev pub is_at_condition : Target → Bool
is_at_condition (ConditionAt c) = true
is_at_condition a = false

-- a thread waits for input (POSIX.1 read)
abbrev pub is_reading : Target → Bool
is_reading (Input buffer size) = true
is_reading a = false
