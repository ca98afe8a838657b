-- What is left of a text that a loop writes part by part.
use Rattle.std.proofs.Common.{◌≡◌, ◌∙◌, ap, sym, ℕ, suc, ◌+◌, ◌-◌, ◌<◌, ◌≤◌, List, [], ◌++◌, take, drop, arith}
use Rattle.std.specs.List.{flat_map, range_with_len}
use Rattle.std.proofs.lemmas.List.{take-append-drop, drop-drop}
use Rattle.std.proofs.lemmas.Grind.{flat_map-append}
use Rattle.posix_model.specs.Lines.{hex, hex_byte}

-- what is left of the parts of the numbers from first on, of which there are n, from the i-th on
unfoldable pub parts_from : (ℕ → List ℕ) → ℕ → ℕ → ℕ → List ℕ
parts_from part first n i = flat_map part (range_with_len (first + i) (n - i))

pub parts_at_first : (part : ℕ → List ℕ) (first n : ℕ) → parts_from part first n 0 ≡ flat_map part (range_with_len first n)
unfolding parts_from
parts_at_first part first n =
    let e : first + 0 ≡ first = omega arith in
    let f : n - 0 ≡ n = omega arith in
    ap (λ k. flat_map part (range_with_len k (n - 0))) e ∙ ap (λ k. flat_map part (range_with_len first k)) f

pub parts_next : (part : ℕ → List ℕ) (first n i k : ℕ) → i < n → k ≡ first + i → parts_from part first n i ≡ part k ++ parts_from part first n (i + 1)
unfolding parts_from
parts_next part first n i k h same =
    let e : n - i ≡ suc (n - (i + 1)) = omega arith in
    let f : (first + i) + 1 ≡ first + (i + 1) = omega arith in
    ap (λ m. flat_map part (range_with_len (first + i) m)) e
    ∙ ap (λ m. part (first + i) ++ flat_map part (range_with_len m (n - (i + 1)))) f
    ∙ ap (λ m. part m ++ flat_map part (range_with_len (first + (i + 1)) (n - (i + 1)))) (sym same)

pub parts_done : (part : ℕ → List ℕ) (first n i : ℕ) → n ≤ i → parts_from part first n i ≡ []
unfolding parts_from
parts_done part first n i h = let e : n - i ≡ 0 = omega arith in ap (λ k. flat_map part (range_with_len (first + i) k)) e

-- the digits of a piece, and those after it
pub hex_piece : (bytes : List ℕ) (from count n : ℕ) → n ≡ count → hex (drop from bytes) ≡ hex (take n (drop from bytes)) ++ hex (drop (from + count) bytes)
hex_piece bytes from count n e =
    sym (ap hex (take-append-drop n (drop from bytes)))
    ∙ flat_map-append hex_byte (take n (drop from bytes)) (drop n (drop from bytes))
    ∙ ap (λ k. hex (take n (drop from bytes)) ++ hex k) (drop-drop n from bytes ∙ ap (λ k. drop (from + k) bytes) e)
