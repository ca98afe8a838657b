-- What a table of signals shows, by the numbers of threads and signals.
use Rattle.std.specs.Prelude.{ℕ, ◌≡◌, ◌<◌, ◌^◌, Bool, true, false, nat_lt, List, [], Option, None, length, slice_index_or, if◌then◌else◌}
use Rattle.thread_base.specs.declared.action.Action.{Action}
use Rattle.thread_base.specs.declared.action.Action.TheVariants.{Default}
use Rattle.thread_base.specs.Actions.{ignores}
use Rattle.thread_base.specs.Maps.{put, numbered}
use Rattle.thread_base.specs.Numbers.{IsInScope, has_signal}
use Rattle.thread_base.specs.Deliveries.{is_free, recipient, next_delivery}
use Rattle.thread_signals.specs.Counts.{put_count, without_signal, all_of, total}

-- what is kept by thread, by place and signal, and by signal (this project's own)
pub record Table : Type 0 where
  pub masks : List ℕ
  pub waits : List (Option ℕ)
  pub is_open : List Bool
  pub counts : List (List ℕ)
  pub actions : List Action

-- masks, waited sets, who may take signals, how often signals pend, and their actions (POSIX.1 signals in threads)
pub record SignalState : Type 0 where
  pub masks : ℕ → ℕ
  pub waits : ℕ → Option ℕ
  pub is_open : ℕ → Bool
  pub counts : ℕ → ℕ → ℕ
  pub actions : ℕ → Action

-- the counts by place and signal (this project's own)
unfoldable pub counts_of : List (List ℕ) → ℕ → ℕ → ℕ
counts_of rows t sig = slice_index_or (slice_index_or rows t []) sig 0

-- the actions by signal (POSIX.1 sigaction)
unfoldable pub actions_of : List Action → ℕ → Action
actions_of actions sig = slice_index_or actions sig Default

-- what a table shows (this project's own)
unfoldable pub state_of : Table → SignalState
state_of table = record {
  masks = numbered 0 table.masks;
  waits = numbered None table.waits;
  is_open = numbered false table.is_open;
  counts = counts_of table.counts;
  actions = actions_of table.actions;
}

-- at first nothing is blocked, awaited or pending, nobody may take signals, all actions are the default (POSIX.1 SIG_DFL)
abbrev pub first_state : SignalState
first_state = record {
  masks = λ t. 0;
  waits = λ t. None;
  is_open = λ t. false;
  counts = λ t sig. 0;
  actions = λ sig. Default;
}

-- the state after a count was put in place of another (this project's own)
abbrev pub with_count : SignalState → ℕ → ℕ → ℕ → SignalState
with_count state t sig count = record state { counts = put_count state.counts t sig count }

-- a signal has another action; where that ignores it, nothing of it pends any more (POSIX.1 sigaction)
abbrev pub with_action : SignalState → ℕ → Action → SignalState
with_action state sig action = record state {
  actions = put state.actions sig action;
  counts = if ignores action sig then without_signal state.counts sig else state.counts;
}

-- how often it pended, where it is ignored then (this project's own)
abbrev pub dropped_by : SignalState → ℕ → Action → ℕ
dropped_by state sig action = if ignores action sig then all_of state.counts sig else 0

-- which threads are free for which signals (POSIX.1 signal masks)
abbrev pub free_in : SignalState → ℕ → ℕ → Bool
free_in state = is_free state.is_open state.masks

-- who gets a signal of the process, by the priorities of the threads (POSIX.1 signals to a process)
abbrev pub recipient_in : SignalState → (ℕ → ℕ) → ℕ → Option ℕ
recipient_in state = recipient state.waits (free_in state)

-- the next delivery, by the priorities of the threads (this project's own order)
abbrev pub next_in : SignalState → (ℕ → ℕ) → Option (ℕ × ℕ × Bool)
next_in state = next_delivery state.waits (free_in state) state.counts

-- every list is whole, only signals in scope pend, the words and the sum agree with the counts, the sum fits (this
-- project's own)
pub record AreSound (table : Table) (sets : List ℕ) (all : ℕ) : Type 0 where
  pub masks : length table.masks ≡ 64
  pub waits : length table.waits ≡ 64
  pub is_open : length table.is_open ≡ 64
  pub actions : length table.actions ≡ 32
  pub places : length table.counts ≡ 65
  pub rows : (t : ℕ) → t < 65 → length (slice_index_or table.counts t []) ≡ 32
  pub words : length sets ≡ 65
  pub scope : (t sig : ℕ) → nat_lt 0 (counts_of table.counts t sig) ≡ true → IsInScope sig
  pub agree : (t sig : ℕ) → has_signal (slice_index_or sets t 0) sig ≡ nat_lt 0 (counts_of table.counts t sig)
  pub sum : all ≡ total (counts_of table.counts)
  pub bound : total (counts_of table.counts) < 2 ^ 63
