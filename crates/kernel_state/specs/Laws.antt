-- What the law of the presented entries gives: the premises of an arrival, move by move.
use Rattle.std.specs.Prelude.{ℕ, ◌+◌, ◌-◌, ◌≡◌, ◌≤◌, ◌&&◌, true, List, [], length, take, Some, None}
use Rattle.std.specs.List.{range_with_len}
use Rattle.thread_base.specs.Orders.{is_in}
use Rattle.thread_base.specs.declared.Place.{Place}
use Rattle.journal_text.specs.declared.entry.Entry.{Entry}
use Rattle.unix_process.specs.declared.UnixEvent.{UnixEvent}
use Rattle.unix_process.specs.declared.Taken.{Taken}
use Rattle.unix_process.specs.Merging.{count_of}
use Rattle.posix_model.specs.Journals.{Kind, nothing_taken, left_of_kind, entry_at, untaken, reached}
use Rattle.posix_model.specs.Runs.{Rules, Moment, is_waiting, moved, MayArrive}
use Rattle.posix_model.specs.declared.Move.TheVariants.{Arrive}
use Rattle.kernel_state.specs.Outside.{OutsideState, drained, drain, is_nothing}
use Rattle.kernel_state.specs.Presented.{kind_of_event, StandsFor, Stands, taken_of, AreDue}

-- at the start of a run nothing stands for no entry
abbrev pub StartStands : Type 0
StartStands = (entries : List Entry) → StandsFor entries nothing_taken 0 [] []

-- of each event as many entries are logged and pend as were presented of its kind and are not taken
abbrev pub CountsLeft : Type 0
CountsLeft =
    (o : OutsideState) (taken : Kind → ℕ) (e : UnixEvent) →
    Stands o taken →
    count_of e o.log.slots + count_of e o.unix.pending ≡ length (left_of_kind (take o.presented o.journal.entries) taken (kind_of_event e))

-- how many entries were taken follows from what is kept
abbrev pub TakenFollows : Type 0
TakenFollows = (o : OutsideState) (taken : Kind → ℕ) → Stands o taken → taken ≡ taken_of o

-- all that is drained may arrive together, where each entry that was presented is due; after that move the rest stands
abbrev pub DrainedMayArrive : Type 0
DrainedMayArrive =
    (rules : Rules) (now : Moment) (o : OutsideState) (d : Taken) (at : Place) →
    o.journal ≡ rules.journal → Stands o now.taken → drained o.log.slots ≡ Some d → AreDue rules now o.presented →
    now.state.over ≡ None → at.n ≡ now.instructions →
    MayArrive rules now d.first d.count at × Stands (drain o) (moved rules now (Arrive d.first d.count at)).taken

-- entries whose places are reached are due
abbrev pub ReachedAreDue : Type 0
ReachedAreDue =
    (rules : Rules) (now : Moment) (presented : ℕ) →
    ((n : ℕ) (e : Entry) → is_in n (untaken rules.journal.entries now.taken) ≡ true → n ≤ presented →
    entry_at rules.journal.entries n ≡ Some e → e.place.n ≤ now.instructions) →
    AreDue rules now presented

-- where nothing is logged and nothing pends, the entries that are left are those that were not presented
abbrev pub NothingLeft : Type 0
NothingLeft =
    (o : OutsideState) (taken : Kind → ℕ) →
    Stands o taken → (is_nothing o.log.slots && is_nothing o.unix.pending) ≡ true →
    untaken o.journal.entries taken ≡ range_with_len (1 + o.presented) (length o.journal.entries - o.presented)

-- then, where nothing else can happen and no place is reached, the next entry is due once it is presented
abbrev pub NextIsDue : Type 0
NextIsDue =
    (rules : Rules) (now : Moment) (o : OutsideState) →
    o.journal ≡ rules.journal → Stands o now.taken → (is_nothing o.log.slots && is_nothing o.unix.pending) ≡ true →
    is_waiting now.state ≡ true → reached rules.journal.entries now.taken now.instructions ≡ [] →
    AreDue rules now (o.presented + 1)
