-- The window after a segment is copied, and the start memory with one segment more.
use Rattle.std.proofs.Common.{◌≡◌, ℕ, ◌+◌, ◌-◌, ◌<◌, ◌≤◌, ◌&&◌, Bool, true, false, cond, leb, ltb, List, [], ◌∷◌, length, take, drop, get_or, refl, sym, ap, inl, inr, ◌⊎◌, ◌∙◌, arith}
use Rattle.std.proofs.lemmas.List.{length-take-le, length-drop, get_or-take, get_or-drop, take_more, reverse-append}
use Rattle.std.proofs.lemmas.Bool.Decides.{nat_tests}
use Rattle.std.specs.Prelude.{IsTrue, find, reverse, Option, Some}
use Rattle.rv_exec.specs.Window.{is_inside, with_bytes}
use Rattle.rv_exec.proofs.Windows.{put_at, put_before, put_within, put_behind}
use Rattle.elf_image.specs.declared.layout.Segment.{Segment}
use Rattle.elf_image.specs.Layout.{start_byte, covers, byte_in, byte_of, IsStart}
use Rattle.elf_image.specs.Refusal.{is_out_of_file, is_above_memory, is_outside_window}
use Rattle.elf_image.specs.Copying.{IsPlaceable, with_segment}

-- what equals the first where the test holds and the second where not is the choice
chosen : (b : Bool) (x y z : ℕ) → (b ≡ true → z ≡ x) → (b ≡ false → z ≡ y) → z ≡ cond b x y
chosen true x y z first second = first refl
chosen false x y z first second = second refl

-- a place is before a part, after it or in it
sides : (at k n : ℕ) → (k < at) ⊎ ((at + n ≤ k) ⊎ ((at ≤ k) × (k < at + n)))
sides at k n = by_tests (ltb k at) (ltb k (at + n)) refl refl
  where
    by_tests : (b c : Bool) → ltb k at ≡ b → ltb k (at + n) ≡ c
        → (k < at) ⊎ ((at + n ≤ k) ⊎ ((at ≤ k) × (k < at + n)))
    by_tests true c e f = inl (grind (arith, nat_tests))
    by_tests false true e f = inr (inr (grind (arith, nat_tests), grind (arith, nat_tests)))
    by_tests false false e f = inr (inl (grind (arith, nat_tests)))

-- place k of the window belongs to the n bytes from an address on
abbrev is_part : ℕ → ℕ → ℕ → Bool
is_part vaddr n k = leb vaddr (65536 + k) && ltb (65536 + k) (vaddr + n)

-- the byte of the file for place k of the window
abbrev file_byte : List ℕ → ℕ → ℕ → ℕ → ℕ
file_byte bytes vaddr offset k = get_or bytes (offset + ((65536 + k) - vaddr)) 0

-- the window with n bytes of the file in it, byte by byte
part_at : (mem bytes : List ℕ) (vaddr offset n k : ℕ)
    → 65536 ≤ vaddr → vaddr + n ≤ 65536 + length mem → offset + n ≤ length bytes
    → get_or (put_at mem (vaddr - 65536) (take n (drop offset bytes))) k 0
    ≡ cond (is_part vaddr n k) (file_byte bytes vaddr offset k) (get_or mem k 0)
part_at mem bytes vaddr offset n k low high in_file =
    let part = take n (drop offset bytes) in
    let at = vaddr - 65536 in
    let len : length part ≡ n = length-take-le n (drop offset bytes) (omega (arith, length-drop offset bytes)) in
    chosen (is_part vaddr n k) (file_byte bytes vaddr offset k) (get_or mem k 0) (get_or (put_at mem at part) k 0)
    (λ inside.
    let from : vaddr ≤ 65536 + k = grind (arith, nat_tests) in
    let before : 65536 + k < vaddr + n = grind (arith, nat_tests) in
    put_within mem at part k (omega (arith, len)) (omega arith) (omega (arith, len))
    ∙ (get_or-take n (drop offset bytes) (k - at) 0 (omega arith)
    ∙ (get_or-drop offset bytes (k - at) 0 ∙ ap (λ i. get_or bytes i 0) (omega arith))))
    (λ outside. elim (sides at k n) [
      | inl before ↦ put_before mem at part k (omega (arith, len)) before
      | inr rest ↦ elim rest [
        | inl behind ↦ put_behind mem at part k (omega (arith, len)) (omega (arith, len))
        | inr within ↦ absurd (let below : 65536 + k < vaddr = grind (arith, nat_tests) in omega arith)
      ]
    ])

-- the same of what a copy of filesz bytes into the window leaves; n is how the code counts them
pub part_copied : (mem new bytes : List ℕ) (vaddr offset filesz n k : ℕ) → n ≡ filesz → 0 < filesz
    → 65536 ≤ vaddr → vaddr + filesz ≤ 65536 + length mem → offset + filesz ≤ length bytes
    → (let part = take n (drop offset bytes) in
    0 < length part → IsTrue (is_inside (length mem) vaddr (length part)) → new ≡ with_bytes mem vaddr part)
    → get_or new k 0 ≡ cond (is_part vaddr filesz k) (file_byte bytes vaddr offset k) (get_or mem k 0)
part_copied mem new bytes vaddr offset filesz n k size some low high in_file copied =
    let part = take n (drop offset bytes) in
    let len : length part ≡ n = length-take-le n (drop offset bytes) (omega (arith, length-drop offset bytes)) in
    let room : IsTrue (is_inside (length mem) vaddr (length part)) = grind (arith, nat_tests) in
    let put : new ≡ put_at mem (vaddr - 65536) part = copied (omega (arith, len)) room in
    let whole : new ≡ put_at mem (vaddr - 65536) (take filesz (drop offset bytes)) =
    put ∙ ap (λ i. put_at mem (vaddr - 65536) (take i (drop offset bytes))) size in
    ap (λ ys. get_or ys k 0) whole ∙ part_at mem bytes vaddr offset filesz k low high in_file

-- with one segment more, its bytes stand over those of the earlier ones
start_byte-more : (bytes : List ℕ) (segments : List Segment) (i addr : ℕ) (blank : Segment) → i < length segments
    → (let s = get_or segments i blank in
    start_byte bytes (take (i + 1) segments) addr
    ≡ cond (covers addr s) (byte_in bytes addr s) (start_byte bytes (take i segments) addr))
unfolding start_byte
start_byte-more bytes segments i addr blank below =
    let s = get_or segments i blank in
    ap (λ ys. byte_of bytes addr (find (covers addr) (reverse ys))) (take_more segments i blank below)
    ∙ (ap (λ ys. byte_of bytes addr (find (covers addr) ys)) (reverse-append (take i segments) (s ∷ []))
    ∙ by_test s (find (covers addr) (reverse (take i segments))) (covers addr s))
  where
    by_test : (s : Segment) (earlier : Option Segment) (b : Bool)
        → byte_of bytes addr (cond b (Some s) earlier) ≡ cond b (byte_in bytes addr s) (byte_of bytes addr earlier)
    by_test s earlier true = refl
    by_test s earlier false = refl

-- a window of zeros is the start memory of no segments
pub IsStart-none : (bytes mem : List ℕ) → ((k : ℕ) → k < length mem → get_or mem k 0 ≡ 0)
    → IsStart bytes [] (length mem) mem
unfolding start_byte
IsStart-none bytes mem zeros = record { long = refl; each = zeros }

-- one segment more is copied
pub IsStart-more : (bytes mem new : List ℕ) (segments : List Segment) (i size : ℕ) (blank : Segment)
    → i < length segments → IsStart bytes (take i segments) size mem → length new ≡ length mem
    → ((k : ℕ) → k < length mem → get_or new k 0 ≡ with_segment bytes (get_or segments i blank) mem k)
    → IsStart bytes (take (i + 1) segments) size new
IsStart-more bytes mem new segments i size blank below start len copied = record {
  long = len ∙ start.long;
  each = λ k inside.
      let s = get_or segments i blank in
      let addr = 65536 + k in
      copied k (omega (arith, start.long))
      ∙ (ap (λ old. cond (covers addr s) (byte_in bytes addr s) old) (start.each k inside)
      ∙ sym (start_byte-more bytes segments i addr blank below));
}

-- a segment that no check refuses is placeable
pub placeable : (len size : ℕ) (s : Segment) → s.kind ≡ 1
    → is_out_of_file len s ≡ false → is_above_memory s ≡ false → is_outside_window size s ≡ false
    → IsPlaceable len size s
placeable len size s kind in_file larger in_window = record {
  larger = grind (arith, nat_tests);
  in_file = λ some. grind (arith, nat_tests);
  low = λ some. grind (arith, nat_tests);
  high = λ some. grind (arith, nat_tests);
}
