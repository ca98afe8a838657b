-- How many deliveries can follow one another at most (this project's own).
use Rattle.std.specs.Prelude.{ℕ, ◌+◌, ◌*◌, ◌<◌, Bool, nat_lt, List, [], ◌∷◌, filter, length}
use Rattle.thread_base.specs.Deliveries.{signals}
use Rattle.thread_base.specs.Numbers.{IsInScope}
use Rattle.thread_base.specs.Priority.{tids}
use Rattle.posix_model.specs.State.{State, target, is_at_condition}

-- how many of a list pass a test
abbrev pub how_many : (ℕ → Bool) → List ℕ → ℕ
how_many test xs = length (filter test xs)

-- the sum over a list
abbrev pub total : (ℕ → ℕ) → List ℕ → ℕ
total f [] = 0
total f (x ∷ xs) = f x + total f xs

-- how many signals pend on a thread or, under the number 0, on the process
abbrev pub kinds_pending : State → ℕ → ℕ
kinds_pending s place = how_many (λ sig. nat_lt 0 (s.pending place sig)) signals

-- the threads to be cancelled, three for each signal that pends on the process, one for each that pends on a thread, and
-- the threads that wait for a condition
unfoldable pub weight : State → ℕ
weight s =
    how_many (λ t. (s.threads t).cancellation.pending) tids
    + 3 * kinds_pending s 0
    + total (kinds_pending s) tids
    + how_many (λ t. is_at_condition (target (s.threads t).standing)) tids

-- nothing pends but signals in scope
abbrev pub PendsInScope : State → Type 0
PendsInScope s = (place sig : ℕ) → 0 < s.pending place sig → IsInScope sig

-- how many signals pend, over the process and all threads
unfoldable pub pending_in_all : State → ℕ
pending_in_all s = total (λ place. total (s.pending place) signals) (0 ∷ tids)
