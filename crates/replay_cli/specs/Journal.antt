-- Which journals are accepted (this project's own format): those whose entries are all signals and ticks, as yet.
use Rattle.std.specs.Prelude.{ℕ, ◌+◌, List, [], ◌∷◌, if◌then◌else◌, Option, Some, None}
use Rattle.journal_text.specs.Refusals.{first_bad, entries_of, ◌orelse◌}
use Rattle.journal_text.specs.declared.entry.Entry.{Entry}
use Rattle.journal_text.specs.declared.refusal.JournalRefusal.{JournalRefusal}
use Rattle.journal_text.specs.declared.refusal.JournalRefusal.TheVariants.{Line}
use Rattle.dispatcher.specs.Arriving.{is_signal_or_tick}

-- the refusal of the first of some entries that is no signal and no tick, by the number of its line; the first stands on this line
abbrev pub first_unbuilt : ℕ → List Entry → Option JournalRefusal
first_unbuilt number [] = None
first_unbuilt number (e ∷ es) = if is_signal_or_tick e.what then first_unbuilt (number + 1) es else Some (Line number)

-- the first refusal of a journal: of its text, and else of an entry that is no signal and no tick; the header is line 1
unfoldable pub first_refused : List ℕ → Option JournalRefusal
first_refused bytes = first_bad bytes orelse first_unbuilt 2 (entries_of bytes).entries
