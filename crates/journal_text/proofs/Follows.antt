-- Entries, one after another.
use Rattle.std.proofs.Common.{◌≡◌, ℕ, ◌+◌, ◌≤◌, List, [], ◌∷◌, ◌++◌, length, take, drop, refl, arith, append_assoc, append-nil}
use Rattle.std.proofs.lemmas.Grind.{common_steps}
use Rattle.std.specs.List.{flat_map}
use Rattle.journal_text.specs.declared.entry.What.{What}
use Rattle.journal_text.specs.declared.entry.Entry.{Entry}
use Rattle.journal_text.specs.Contents.{data_len, total_len, IsInside, AreInside}
use Rattle.journal_text.specs.Spelling.{event_text, entry_line}
use Rattle.journal_text.specs.Valid.{IsEvent, MayFollow, EachFollows}

-- an entry more at the end
pub EachFollows-push : (before es : List Entry) (e : Entry) → EachFollows before es
    → MayFollow (before ++ es) e → EachFollows before (es ++ e ∷ [])
EachFollows-push before [] e each may = (rw append-nil at may, tt)
EachFollows-push before (x ∷ es) e each may =
    (each.0, EachFollows-push (before ++ x ∷ []) es e each.1 (rw append_assoc may))

pub total_len-append : (xs ys : List Entry) → total_len (xs ++ ys) ≡ total_len xs + total_len ys
total_len-append [] ys = omega arith
total_len-append (x ∷ xs) ys = omega (arith, total_len-append xs ys)

-- a part of some bytes stays where bytes are added at the end
part-append : (start len : ℕ) (bytes more : List ℕ) → start + len ≤ length bytes
    → take len (drop start (bytes ++ more)) ≡ take len (drop start bytes)
part-append start len bytes more inside = grind (arith, common_steps)

event_text-append : (before : List Entry) (w : What) (bytes more : List ℕ) → IsEvent before w
    → total_len before + data_len w ≤ length bytes → event_text (bytes ++ more) w ≡ event_text bytes w
event_text-append before w bytes more is inside = grind (arith, part-append)

-- the lines of entries stay where bytes are added at the end
pub lines-append : (before es : List Entry) (bytes more : List ℕ) → EachFollows before es
    → total_len before + total_len es ≤ length bytes
    → flat_map (entry_line (bytes ++ more)) es ≡ flat_map (entry_line bytes) es
lines-append before [] bytes more each inside = refl
lines-append before (e ∷ es) bytes more each inside =
    let first = event_text-append before e.what bytes more each.0.event (omega arith) in
    let next = total_len-append before (e ∷ []) in
    let rest = lines-append (before ++ e ∷ []) es bytes more each.1 (omega (arith, next)) in
    rw (first, rest) refl

-- the bytes of entries are among all bytes
pub AreInside-from : (before es : List Entry) (count : ℕ) → EachFollows before es
    → total_len before + total_len es ≤ count → AreInside count es
AreInside-from before [] count each room = tt
AreInside-from before (e ∷ es) count each room =
    let next = total_len-append before (e ∷ []) in
    (inside_of e.what each.0.event (omega arith), AreInside-from (before ++ e ∷ []) es count each.1 (omega (arith, next)))
  where
    inside_of : (w : What) → IsEvent before w → total_len before + data_len w ≤ count → IsInside count w
    inside_of w is room = grind arith
