-- What pends and is logged stands for the entries of the journal that were presented and are not taken.
use Rattle.std.specs.Prelude.{ℕ, ◌+◌, ◌-◌, ◌≡◌, ◌≤◌, List, length, take, slice_get, Option, Some, true}
use Rattle.std.specs.List.{range_with_len}
use Rattle.thread_base.specs.Orders.{is_in}
use Rattle.journal_text.specs.declared.entry.Entry.{Entry}
use Rattle.unix_process.specs.declared.UnixEvent.{UnixEvent}
use Rattle.unix_process.specs.declared.UnixEvent.TheVariants.{Sig, Tick, Input}
use Rattle.unix_process.specs.declared.Taken.{Taken}
use Rattle.unix_process.specs.Merging.{count_of, first_of, IsTally, IsCounted}
use Rattle.posix_model.specs.Journals.{Kind, OfSignal, OfTicks, OfInput, with_taken, numbers_from, entry_at, untaken}
use Rattle.posix_model.specs.Runs.{Rules, Moment, due}
use Rattle.kernel_state.specs.Outside.{OutsideState, is_of}

-- the kind of the entries of an event
abbrev pub kind_of_event : UnixEvent → Kind
kind_of_event (Sig s) = OfSignal s
kind_of_event Tick = OfTicks
kind_of_event Input = OfInput

-- of each event as many entries are taken, logged and pend as were presented; those taken come first, then those logged,
-- then those that pend
pub record StandsFor (entries : List Entry) (taken : Kind → ℕ) (presented : ℕ) (log pending : List Taken) : Type 0 where
  pub within : presented ≤ length entries
  pub once_logged : IsTally log
  pub once_pending : IsTally pending
  pub counted_logged : IsCounted log
  pub counted_pending : IsCounted pending
  pub counts : (e : UnixEvent) →
      taken (kind_of_event e) + (count_of e log + count_of e pending) ≡ length (numbers_from (kind_of_event e) 1 (take presented entries))
  pub first_logged : (e : UnixEvent) (f : ℕ) → first_of e log ≡ Some f →
      slice_get (numbers_from (kind_of_event e) 1 entries) (taken (kind_of_event e)) ≡ Some f
  pub first_pending : (e : UnixEvent) (f : ℕ) → first_of e pending ≡ Some f →
      slice_get (numbers_from (kind_of_event e) 1 entries) (taken (kind_of_event e) + count_of e log) ≡ Some f

-- so it is of what came from outside, where so many entries of each kind were taken
abbrev pub Stands : OutsideState → (Kind → ℕ) → Type 0
Stands o taken = StandsFor o.journal.entries taken o.presented o.log.slots o.unix.pending

-- the event of a kind
abbrev pub event_of_kind : Kind → UnixEvent
event_of_kind (OfSignal s) = Sig s
event_of_kind OfTicks = Tick
event_of_kind OfInput = Input

-- how many entries of each kind were taken: those presented but for those that are logged or pend
abbrev pub taken_of : OutsideState → Kind → ℕ
taken_of o k =
    length (numbers_from k 1 (take o.presented o.journal.entries))
    - (count_of (event_of_kind k) o.log.slots + count_of (event_of_kind k) o.unix.pending)

-- what is kept stands for the entries; they are within the limit of a journal, and each has its place
pub record IsSound (o : OutsideState) : Type 0 where
  pub stands : Stands o (taken_of o)
  pub few : length o.journal.entries ≤ 1000000
  pub placed : length o.places ≡ length o.journal.entries

-- an item is of an event, and its first entry is one of that event which was presented
pub record IsOfEntry (o : OutsideState) (d : Taken) : Type 0 where
  pub low : 1 ≤ d.first
  pub presented : d.first ≤ o.presented
  pub event : is_of d.event (entry_at o.journal.entries d.first) ≡ true

-- whatever was taken, one state stands for the entries where another does
abbrev pub KeepsStanding : OutsideState → OutsideState → Type 0
KeepsStanding before after = (taken : Kind → ℕ) → Stands before taken → Stands after taken

-- what is drained is taken, and one state stands for the rest where another stood for all
abbrev pub TakesDrained : OutsideState → Option Taken → OutsideState → Type 0
TakesDrained before result after =
    (taken : Kind → ℕ) (d : Taken) → result ≡ Some d → Stands before taken → Stands after (with_taken taken (kind_of_event d.event) d.count)

-- the entries that are left are those that were not presented
abbrev pub IsLeftBehind : OutsideState → Type 0
IsLeftBehind o =
    untaken o.journal.entries (taken_of o) ≡ range_with_len (1 + o.presented) (length o.journal.entries - o.presented)

-- each entry that was presented and is not taken is due
abbrev pub AreDue : Rules → Moment → ℕ → Type 0
AreDue rules now presented =
    (n : ℕ) → is_in n (untaken rules.journal.entries now.taken) ≡ true → n ≤ presented → is_in n (due rules now) ≡ true
