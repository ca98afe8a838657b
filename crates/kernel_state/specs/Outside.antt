-- What came from outside and is not taken yet, and what is done with it (this project's own).
use Rattle.std.specs.Prelude.{ℕ, ◌+◌, ◌-◌, ◌||◌, Bool, true, false, not, if◌then◌else◌, List, [], ◌∷◌, length, replicate, slice_get, slice_set, find, Option, Some, None}
use Rattle.std.specs.List.{range_with_len}
use Rattle.thread_base.specs.declared.Place.{Place}
use Rattle.journal_text.specs.Contents.{Contents}
use Rattle.journal_text.specs.declared.entry.Entry.{Entry}
use Rattle.journal_text.specs.declared.entry.What.{What}
use Rattle.journal_text.specs.declared.entry.What.TheVariants as what
use Rattle.unix_process.specs.declared.UnixEvent.{UnixEvent}
use Rattle.unix_process.specs.declared.UnixEvent.TheVariants.{Sig, Tick, Input}
use Rattle.unix_process.specs.declared.Taken.{Taken}
use Rattle.unix_process.specs.Merging.{same_event, one_entry, merged}
use Rattle.unix_process.specs.Unix.{UnixState}
use Rattle.monitor_log.specs.Log.{LogState, left_after_one}
use Rattle.posix_model.specs.Journals.{entry_at}

-- the Unix process, the monitor's log, the journal with the places where its entries were presented, and how many were
pub record OutsideState : Type 0 where
  pub unix : UnixState
  pub log : LogState
  pub journal : Contents
  pub places : List Place
  pub presented : ℕ

-- the journal is attached, with room for the place of each of its entries
abbrev pub attached : OutsideState → Contents → OutsideState
attached o journal = record o { journal = journal; places = replicate (length journal.entries) (record { n = 0; k = 0 }) }

-- the event of an entry
abbrev pub event_of : What → UnixEvent
event_of (what.Sig s) = Sig s
event_of what.Tick = Tick
event_of (what.Data start len) = Input
event_of what.Eof = Input

-- an entry, if there is one, is of an event
abbrev pub is_of : UnixEvent → Option Entry → Bool
is_of event None = false
is_of event (Some entry) = same_event (event_of entry.what) event

-- the event of an entry, if there is one
abbrev pub event_at : Option Entry → UnixEvent
event_at None = Tick
event_at (Some entry) = event_of entry.what

-- the log after all that pended came into it, in its order
abbrev pub gathered : List Taken → List Taken → List Taken
gathered log [] = log
gathered log (t ∷ ts) = gathered (merged t log) ts

-- all that pended is in the log
abbrev pub gather : OutsideState → OutsideState
gather o = record o {
  unix = record o.unix { pending = [] };
  log = record o.log { slots = gathered o.log.slots o.unix.pending };
}

-- what is presented pends: the flag is clear, or Unix is blocked
abbrev pub lets_pend : OutsideState → Bool
lets_pend o = not o.log.flag || o.unix.blocked

-- one entry of the event of a number
abbrev pub entry_of : OutsideState → ℕ → Taken
entry_of o number = one_entry (event_at (entry_at o.journal.entries number)) number

-- the entry of a number is presented at a place: it pends, or is logged behind all that pended
abbrev pub present : OutsideState → ℕ → Place → OutsideState
present o number at = record o {
  unix = record o.unix { pending = if lets_pend o then merged (entry_of o number) o.unix.pending else [] };
  log = record o.log {
    slots = if lets_pend o then o.log.slots else merged (entry_of o number) (gathered o.log.slots o.unix.pending);
  };
  places = slice_set o.places (number - 1) at;
  presented = number;
}

-- the number of the entry at an index, if there is one, or 0
abbrev pub number_at : Option ℕ → ℕ
number_at None = 0
number_at (Some i) = i + 1

-- the next presented entry of an event after one, or 0
abbrev pub next_of : OutsideState → UnixEvent → ℕ → ℕ
next_of o event number =
    number_at (find (λ i. is_of event (slice_get o.journal.entries i)) (range_with_len number (o.presented - number)))

-- what is drained of a slot: all of a signal, and one entry of ticks and of input
abbrev pub drained_of : Taken → Taken
drained_of t = by t.event
  where
    by : UnixEvent → Taken
    by (Sig s) = t
    by Tick = one_entry t.event t.first
    by Input = one_entry t.event t.first

-- what is drained first
abbrev pub drained : List Taken → Option Taken
drained [] = None
drained (t ∷ ts) = Some (drained_of t)

-- the slots after that
abbrev pub left_drained : OutsideState → List Taken → List Taken
left_drained o [] = []
left_drained o (t ∷ ts) = by t.event
  where
    by : UnixEvent → List Taken
    by (Sig s) = ts
    by Tick = left_after_one (next_of o t.event t.first) (t ∷ ts)
    by Input = left_after_one (next_of o t.event t.first) (t ∷ ts)

-- what is drained first is in the log no more
abbrev pub drain : OutsideState → OutsideState
drain o = record o { log = record o.log { slots = left_drained o o.log.slots } }

-- no entry is counted
abbrev pub is_nothing : List Taken → Bool
is_nothing [] = true
is_nothing (t ∷ ts) = false
