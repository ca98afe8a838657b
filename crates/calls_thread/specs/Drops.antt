-- What is dropped with the end of a thread: all that pends on it (POSIX.1 signals in threads).
use Rattle.std.specs.Prelude.{ℕ, ◌≡◌, if◌then◌else◌, nat_lt, List}
use Rattle.thread_base.specs.Maps.{put}
use Rattle.posix_model.specs.Changes.{Outcome}
use Rattle.posix_model.specs.Leaving.{plus_each}
use Rattle.posix_model.specs.Reports.{nothing_told}
use Rattle.kernel_state.specs.View.{view}
use Rattle.kernel_state.specs.Begun.{HasNoted}
use Rattle.kernel_state.specs.Kernels.{KernelState}

-- the counts of the signals below a number, and nothing of the others
abbrev pub counts_below : ℕ → (ℕ → ℕ) → ℕ → ℕ
counts_below from counts sig = if nat_lt sig from then counts sig else 0

-- the counts of the signals from a number on, and nothing of the others
abbrev pub counts_from : ℕ → (ℕ → ℕ) → ℕ → ℕ
counts_from from counts sig = if nat_lt sig from then 0 else counts sig

-- what pends on a thread of the signals below a number is dropped, and what pends from it on is left
abbrev pub dropped_below : Outcome → ℕ → ℕ → Outcome
dropped_below g t from = record {
  state = record g.state { pending = put g.state.pending t (counts_from from (g.state.pending t)) };
  report = record g.report { drops = plus_each g.report.drops (counts_below from (g.state.pending t)) };
}

-- all that pends on a thread is dropped
abbrev pub with_drops : Outcome → ℕ → Outcome
with_drops g t = record {
  state = record g.state { pending = put g.state.pending t (λ sig. 0) };
  report = record g.report { drops = plus_each g.report.drops (g.state.pending t) };
}

-- after a move so far that has left what pends on a thread and has dropped nothing, it was noted that all of it is dropped
abbrev pub DropsPending : {R : Type 0} → (R → List ℕ) → KernelState R → KernelState R → ℕ → Type 0
DropsPending order k q t =
    (first : KernelState _) (g : Outcome) → HasNoted order first k g → g.state.pending t ≡ (view order k.tables).pending t → g.report.drops ≡ nothing_told.drops
    → HasNoted order first q (with_drops g t)
