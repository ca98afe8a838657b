-- The journal and the places of a recording, if there is one (this project's own).
use Rattle.std.specs.Prelude.{List, [], Option, Some, None}
use Rattle.thread_base.specs.declared.Place.{Place}
use Rattle.journal_text.specs.Contents.{Contents, empty}
use Rattle.kernel_state.specs.declared.outside.Recording.{Recording}

-- the journal of a recording; without one, that of no entry
abbrev pub journal_of : Option Recording → Contents
journal_of None = empty
journal_of (Some r) = r.journal

-- the places of its entries
abbrev pub places_of : Option Recording → List Place
places_of None = []
places_of (Some r) = r.places.items
