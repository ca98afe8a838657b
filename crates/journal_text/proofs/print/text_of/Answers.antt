use Rattle.std.proofs.Common.{arith}
use Rattle.journal_text.proofs.Follows.{AreInside-from}
use Rattle.journal_text.proofs.print.text_of.Goals as goal

pub put_entries-requires : goal.put_entries-requires
put_entries-requires c =
    let journal = c.j.invariant in
    let inside = AreInside-from _ c.j.inside.entries.items _ journal.each (omega (arith, journal.whole)) in
    rw (c.deref.ensures.value, c.deref-2.ensures.value) inside
