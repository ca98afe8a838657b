-- Lists in which each event stands once, with a count and its first entry, in order of first occurrence
-- (POSIX.1 signals merge while they pend; that a count is kept is this project's own).
use Rattle.std.specs.Prelude.{ℕ, ◌≡◌, ◌+◌, ◌≤◌, ◌==◌, Bool, true, false, if◌then◌else◌, List, [], ◌∷◌, ◌++◌, map, Option, Some, None}
use Rattle.std.specs.List.{list_any}
use Rattle.std.specs.Option.{option_or, option_to_list}
use Rattle.thread_base.specs.Numbers.{IsInScope}
use Rattle.unix_process.specs.declared.UnixEvent.{UnixEvent}
use Rattle.unix_process.specs.declared.UnixEvent.TheVariants.{Sig, Tick, Input}
use Rattle.unix_process.specs.declared.Taken.{Taken}

-- both are one signal, both a tick, or both input
abbrev pub same_event : UnixEvent → UnixEvent → Bool
same_event (Sig s) (Sig t) = s == t
same_event Tick Tick = true
same_event Input Input = true
same_event _ _ = false

-- the signal, where an event is one
abbrev pub signal_of : UnixEvent → Option ℕ
signal_of (Sig s) = Some s
signal_of Tick = None
signal_of Input = None

-- an event that there is: a signal is one in scope
abbrev pub IsEvent : UnixEvent → Type 0
IsEvent (Sig s) = IsInScope s
IsEvent Tick = Unit {0}
IsEvent Input = Unit {0}

-- one entry of an event
abbrev pub one_entry : UnixEvent → ℕ → Taken
one_entry e first = record { event = e; first = first; count = 1 }

-- the list after an item: the count of its event is raised, or the item stands after the others
abbrev pub merged : Taken → List Taken → List Taken
merged item [] = item ∷ []
merged item (t ∷ ts) = if same_event t.event item.event then record t { count = t.count + item.count } ∷ ts else t ∷ merged item ts

-- the list whose first event has another first entry and another count
abbrev pub recounted : ℕ → ℕ → List Taken → List Taken
recounted first count [] = []
recounted first count (t ∷ ts) = record t { first = first; count = count } ∷ ts

-- how many entries of an event a list counts
abbrev pub count_of : UnixEvent → List Taken → ℕ
count_of e [] = 0
count_of e (t ∷ ts) = (if same_event t.event e then t.count else 0) + count_of e ts

-- the first entry of an event that a list counts
abbrev pub first_of : UnixEvent → List Taken → Option ℕ
first_of e [] = None
first_of e (t ∷ ts) = if same_event t.event e then Some t.first else first_of e ts

-- the events of a list in their order
abbrev pub events : List Taken → List UnixEvent
events ts = map (λ t. t.event) ts

-- an event stands in a list
abbrev pub is_among : UnixEvent → List Taken → Bool
is_among e ts = list_any (λ t. same_event t.event e) ts

-- each event is one that there is, and stands once
abbrev pub IsTally : List Taken → Type 0
IsTally [] = Unit {0}
IsTally (t ∷ ts) = IsEvent t.event × (is_among t.event ts ≡ false) × IsTally ts

-- each event counts one entry at least
abbrev pub IsCounted : List Taken → Type 0
IsCounted [] = Unit {0}
IsCounted (t ∷ ts) = (1 ≤ t.count) × IsCounted ts

-- for each event what was taken and what is left make up what was there
abbrev pub NothingLost : List Taken → Option Taken → List Taken → Type 0
NothingLost was taken left = (e : UnixEvent) → count_of e was ≡ count_of e (option_to_list taken) + count_of e left

-- after a merge each event's count is the old one and what was added to it
abbrev pub CountsAddUp : Type 0
CountsAddUp =
    (item : Taken) (ts : List Taken) (e : UnixEvent) →
    count_of e (merged item ts) ≡ count_of e ts + (if same_event item.event e then item.count else 0)

-- after a merge the events stand in their order, and a new one after them
abbrev pub OrderStays : Type 0
OrderStays =
    (item : Taken) (ts : List Taken) →
    events (merged item ts) ≡ (if is_among item.event ts then events ts else events ts ++ item.event ∷ [])

-- after a merge each event has the first entry that it had, and a new one its own
abbrev pub FirstsStay : Type 0
FirstsStay =
    (item : Taken) (ts : List Taken) (e : UnixEvent) →
    first_of e (merged item ts) ≡ option_or (first_of e ts) (if same_event item.event e then Some item.first else None)

-- after a merge each event stands once still
abbrev pub StaysTally : Type 0
StaysTally = (item : Taken) (ts : List Taken) → IsEvent item.event → IsTally ts → IsTally (merged item ts)

-- after a merge of one entry at least, each event counts one at least still
abbrev pub StaysCounted : Type 0
StaysCounted = (item : Taken) (ts : List Taken) → 1 ≤ item.count → IsCounted ts → IsCounted (merged item ts)
