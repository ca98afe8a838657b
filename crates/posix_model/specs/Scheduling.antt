-- Priorities, and the thread that runs (POSIX.1 scheduling, priority inheritance).
use Rattle.std.specs.Prelude.{ℕ, Option, None}
use Rattle.thread_base.specs.Priority.{effective, first_greatest}
use Rattle.posix_model.specs.State.{State}

-- a thread's own priority: its base priority
abbrev pub own : State → ℕ → ℕ
own s t = (s.threads t).base

-- the thread to which a waiting thread lends its priority: none, as no mutex that inherits can be made yet
abbrev pub edge : State → ℕ → Option ℕ
edge s t = None

-- a thread's effective priority
unfoldable pub eff : State → ℕ → ℕ
eff s t = effective (own s) (edge s) t

-- the thread that runs: the first ready one of greatest effective priority
unfoldable pub chosen : State → Option ℕ
chosen s = first_greatest (eff s) s.ready
