-- The segments of a file, read header by header.
use Rattle.std.proofs.Common.{◌≡◌, ℕ, zero, suc, ◌+◌, ◌*◌, ◌-◌, ◌<◌, List, [], ◌∷◌, ◌++◌, refl, arith, append_assoc}
use Rattle.elf_image.specs.declared.layout.Segment.{Segment}
use Rattle.elf_image.specs.Layout.{segment_at, segments_from}

-- the first header, and those after it
segments_from-step : (bytes : List ℕ) (at n : ℕ) → 0 < n
    → segments_from bytes at n ≡ segment_at bytes at ∷ segments_from bytes (at + 32) (n - 1)
segments_from-step bytes at zero some = absurd (omega arith)
segments_from-step bytes at (suc n) some = let less : suc n - 1 ≡ n = omega arith in rw less refl

-- once one more header is read, the segments read and those to come are still all
pub segments_from-more : (bytes : List ℕ) (table count i : ℕ) (read more all : List Segment) (s : Segment)
    → i < count → s ≡ segment_at bytes (table + 32 * i) → more ≡ read ++ s ∷ []
    → read ++ segments_from bytes (table + 32 * i) (count - i) ≡ all
    → more ++ segments_from bytes (table + 32 * (i + 1)) (count - (i + 1)) ≡ all
segments_from-more bytes table count i read more all s below here appended so_far =
    let at : table + 32 * (i + 1) ≡ (table + 32 * i) + 32 = omega arith in
    let left : count - (i + 1) ≡ (count - i) - 1 = omega arith in
    let step = segments_from-step bytes (table + 32 * i) (count - i) (omega arith) in
    rw (appended, here, at, left, append_assoc, ← step) so_far
