-- What may begin an arrival, and what it begins.
use Rattle.std.specs.Prelude.{ℕ, ◌+◌, ◌≡◌, ◌<◌, ◌^◌, ◌-◌, ◌&&◌, Bool, true, false, List, slice_get, slice_index, Some}
use Rattle.thread_base.specs.declared.Place.{Place}
use Rattle.journal_text.specs.declared.entry.Entry.{Entry}
use Rattle.journal_text.specs.declared.entry.What.{What}
use Rattle.journal_text.specs.declared.entry.What.TheVariants.{Sig, Tick, Data, Eof}
use Rattle.unix_process.specs.declared.Taken.{Taken}
use Rattle.posix_model.specs.State.{State}
use Rattle.posix_model.specs.Arrivals.{arrive_signal}
use Rattle.posix_model.specs.Changes.{Outcome}
use Rattle.posix_model.specs.Journals.{Kind, entry_at}
use Rattle.posix_model.specs.Weights.{pending_in_all}
use Rattle.posix_model.specs.Runs.{Rules, make}
use Rattle.posix_model.specs.declared.Move.TheVariants.{Arrive}
use Rattle.kernel_state.specs.View.{view}
use Rattle.kernel_state.specs.Begun.{HasNoted, HasNotedSome, IsBegun}
use Rattle.kernel_state.specs.Kernels.{KernelState}
use Rattle.kernel_state.specs.Outside.{OutsideState, gather, drained, drain, is_nothing}
use Rattle.kernel_state.specs.Presented.{Stands}

-- no entry waits: nothing is logged and nothing pends
abbrev pub is_empty : OutsideState → Bool
is_empty o = is_nothing o.log.slots && is_nothing o.unix.pending

-- what is logged and pends stands for the entries that were presented, less some of each kind
abbrev pub StandsForSome : OutsideState → Type 0
StandsForSome o = (taken : Kind → ℕ) × Stands o taken

-- an entry is a signal or a tick
abbrev pub is_signal_or_tick : What → Bool
is_signal_or_tick (Sig s) = true
is_signal_or_tick Tick = true
is_signal_or_tick (Data start len) = false
is_signal_or_tick Eof = false

-- all entries of a journal are signals or ticks
abbrev pub AreSignalsOrTicks : List Entry → Type 0
AreSignalsOrTicks entries = (n : ℕ) (e : Entry) → entry_at entries n ≡ Some e → is_signal_or_tick e.what ≡ true

-- after a move so far a signal may come: what signals do is as before, none of it was told to be dropped, and there is room for
-- so many more
pub record CanCome (s : State) (sig count : ℕ) (g : Outcome) : Type 0 where
  pub actions : g.state.actions ≡ s.actions
  pub drops : slice_index g.report.drops sig ≡ 0
  pub few : pending_in_all g.state + count < 2 ^ 63

-- after a move so far it was noted that so many of a signal come for the process (POSIX.1 kill)
abbrev pub Comes : {R : Type 0} → (R → List ℕ) → KernelState R → KernelState R → ℕ → ℕ → Type 0
Comes order k q sig count =
    (first : KernelState _) (g : Outcome) → HasNoted order first k g → CanCome (view order k.tables) sig count g
    → HasNotedSome order first q (arrive_signal g sig count)

-- under which rules a kernel works: its settings and its journal
abbrev pub rules_of : {R : Type 0} → KernelState R → Rules
rules_of k = record { settings = k.settings; journal = k.outside.journal }

-- what came first from outside is taken, and its arrival begun, told with the place where its first entry was presented
pub record BeginsArrival {R : Type 0} (order : R → List ℕ) (k q : KernelState R) : Type 0 where
  pub taken : Taken
  pub first : drained (gather k.outside).log.slots ≡ Some taken
  pub at : Place
  pub placed : slice_get k.outside.places (taken.first - 1) ≡ Some at
  pub begun : IsBegun order (record k { outside = drain (gather k.outside) }) q
      (make (rules_of k) (view order k.tables) (Arrive taken.first taken.count at))
