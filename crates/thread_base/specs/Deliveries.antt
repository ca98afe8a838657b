-- Which thread gets a signal, and which signal is delivered next (POSIX.1 signal delivery).
use Rattle.std.specs.Prelude.{ℕ, ◌≡◌, ◌<◌, ◌&&◌, ◌||◌, Bool, true, false, not, List, [], ◌∷◌, filter, find, nat_lt, Option, Some, None, if◌then◌else◌}
use Rattle.std.specs.List.{range_with_len}
use Rattle.std.specs.Option.{option_or, option_map}
use Rattle.thread_base.specs.Numbers.{IsTid, has_signal}
use Rattle.thread_base.specs.Priority.{tids, first_greatest}

-- the numbers of signals, in order; nothing pends under those that are not in scope
unfoldable pub signals : List ℕ
signals = range_with_len 1 31

-- a thread that may take signals is free for those that it does not block (POSIX.1 signal masks)
abbrev pub is_free : (ℕ → Bool) → (ℕ → ℕ) → ℕ → ℕ → Bool
is_free is_open masks t sig = is_open t && not (has_signal (masks t) sig)

-- a thread waits for a signal of the set that it waits for, if it waits (POSIX.1 sigwait)
abbrev pub waits_for : Option ℕ → ℕ → Bool
waits_for None sig = false
waits_for (Some set) sig = has_signal set sig

-- a thread takes a signal that it waits for or is free for (POSIX.1: it is accepted, or delivered)
abbrev pub takes : (ℕ → Option ℕ) → (ℕ → ℕ → Bool) → ℕ → ℕ → Bool
takes waits free t sig = waits_for (waits t) sig || free t sig

-- who waits for a signal, by number (POSIX.1 sigwait)
abbrev pub waiters : (ℕ → Option ℕ) → ℕ → List ℕ
waiters waits sig = filter (λ t. waits_for (waits t) sig) tids

-- a thread has a greater key than another, if there is another (this project's own)
abbrev pub is_greater : (ℕ → ℕ) → Option ℕ → ℕ → Bool
is_greater key None t = true
is_greater key (Some other) t = nat_lt (key other) (key t)

-- who gets a process's signal: the lowest waiter of the greatest priority, else the lowest free thread (POSIX.1: any)
abbrev pub recipient : (ℕ → Option ℕ) → (ℕ → ℕ → Bool) → (ℕ → ℕ) → ℕ → Option ℕ
recipient waits free eff sig = option_or (first_greatest eff (waiters waits sig)) (find (λ t. free t sig) tids)

-- the lowest signal that pends on a thread and that it takes (POSIX.1 leaves the order open)
abbrev pub own_signal : (ℕ → Option ℕ) → (ℕ → ℕ → Bool) → (ℕ → ℕ → ℕ) → ℕ → Option ℕ
own_signal waits free counts t = find (λ sig. nat_lt 0 (counts t sig) && takes waits free t sig) signals

-- the first answer along a list, if there is one (this project's own)
abbrev pub first_answer : {A : Type 0} → (ℕ → Option A) → List ℕ → Option A
first_answer answer [] = None
first_answer answer (x ∷ xs) = option_or (answer x) (first_answer answer xs)

-- the lowest thread with a signal of its own that it takes, and the lowest such signal (this project's own order)
abbrev pub own_delivery : (ℕ → Option ℕ) → (ℕ → ℕ → Bool) → (ℕ → ℕ → ℕ) → Option (ℕ × ℕ × Bool)
own_delivery waits free counts =
    first_answer (λ t. option_map (λ sig. (t, sig, false)) (own_signal waits free counts t)) tids

-- who gets a signal of the process, if it pends there, under the number 0 (POSIX.1 signals to a process)
abbrev pub pending_recipient : (ℕ → Option ℕ) → (ℕ → ℕ → Bool) → (ℕ → ℕ → ℕ) → (ℕ → ℕ) → ℕ → Option ℕ
pending_recipient waits free counts eff sig = if nat_lt 0 (counts 0 sig) then recipient waits free eff sig else None

-- the lowest signal of the process that somebody gets, with who gets it (this project's own order)
abbrev pub process_delivery : (ℕ → Option ℕ) → (ℕ → ℕ → Bool) → (ℕ → ℕ → ℕ) → (ℕ → ℕ) → Option (ℕ × ℕ × Bool)
process_delivery waits free counts eff =
    first_answer (λ sig. option_map (λ t. (t, sig, true)) (pending_recipient waits free counts eff sig)) signals

-- the next delivery, a thread's own first: thread, signal, whether it pends on the process (this project's own order)
abbrev pub next_delivery : (ℕ → Option ℕ) → (ℕ → ℕ → Bool) → (ℕ → ℕ → ℕ) → (ℕ → ℕ) → Option (ℕ × ℕ × Bool)
next_delivery waits free counts eff = option_or (own_delivery waits free counts) (process_delivery waits free counts eff)

-- what is delivered pends on its thread or, by the flag, on the process, and the thread takes it (POSIX.1 signals)
abbrev pub IsDue : (ℕ → Option ℕ) → (ℕ → ℕ → Bool) → (ℕ → ℕ → ℕ) → ℕ × ℕ × Bool → Type 0
IsDue waits free counts d = (0 < counts (if d.2 then 0 else d.0) d.1) × (takes waits free d.0 d.1 ≡ true)

-- nothing pends on a thread that takes it, nor on the process where some thread takes it (POSIX.1 signals)
abbrev pub IsSettled : (ℕ → Option ℕ) → (ℕ → ℕ → Bool) → (ℕ → ℕ → ℕ) → Type 0
IsSettled waits free counts =
    (t sig : ℕ) → IsTid t → takes waits free t sig ≡ true → (counts t sig ≡ 0) × (counts 0 sig ≡ 0)
