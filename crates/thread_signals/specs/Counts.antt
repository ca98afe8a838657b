-- How often signals pend: counts by place and by signal (POSIX.1 pending signals; that they count is this project's own).
use Rattle.std.specs.Prelude.{ℕ, ◌||◌, Bool, nat_lt, List, sum_by, Option, Some, None}
use Rattle.std.specs.List.{range_with_len}
use Rattle.thread_base.specs.Maps.{put}
use Rattle.thread_base.specs.Deliveries.{signals}

-- the place where the signals of a thread, or of the process, pend (this project's own numbers)
abbrev pub place_of : Option ℕ → ℕ
place_of None = 0
place_of (Some t) = t

-- the places of the process and of all threads (this project's own numbers)
unfoldable pub places : List ℕ
places = range_with_len 0 65

-- a signal pends on a thread or on the process (POSIX.1 sigpending)
abbrev pub is_pending : (ℕ → ℕ → ℕ) → ℕ → ℕ → Bool
is_pending counts t sig = nat_lt 0 (counts t sig) || nat_lt 0 (counts 0 sig)

-- the counts after one was put in place of another (this project's own)
abbrev pub put_count : (ℕ → ℕ → ℕ) → ℕ → ℕ → ℕ → ℕ → ℕ → ℕ
put_count counts t sig count = put counts t (put (counts t) sig count)

-- the counts without those of a signal (POSIX.1 sigaction: what pends of an ignored signal is discarded)
abbrev pub without_signal : (ℕ → ℕ → ℕ) → ℕ → ℕ → ℕ → ℕ
without_signal counts sig = λ t. put (counts t) sig 0

-- how often a signal pends in all places (this project's own)
abbrev pub all_of : (ℕ → ℕ → ℕ) → ℕ → ℕ
all_of counts sig = sum_by (λ t. counts t sig) places

-- how often all signals pend in all places (this project's own)
abbrev pub total : (ℕ → ℕ → ℕ) → ℕ
total counts = sum_by (all_of counts) signals
