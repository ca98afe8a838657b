-- The bytes of a window after a change, one by one.
use Rattle.std.proofs.Common.{◌≡◌, ℕ, ◌+◌, ◌-◌, ◌<◌, ◌≤◌, List, ◌++◌, length, take, drop, get_or, refl, ap, ◌∙◌, arith}
use Rattle.std.proofs.lemmas.List.{length-take-le, get_or-take, get_or-drop, get_or_append_left, get_or-append_right}

-- a list with these elements from a place on
abbrev pub put_at : List ℕ → ℕ → List ℕ → List ℕ
put_at xs at new = take at xs ++ (new ++ drop (at + length new) xs)

-- before the place it is as it was
pub put_before : (xs : List ℕ) (at : ℕ) (new : List ℕ) (k : ℕ) → at + length new ≤ length xs → k < at
    → get_or (put_at xs at new) k 0 ≡ get_or xs k 0
put_before xs at new k room before =
    let len : length (take at xs) ≡ at = length-take-le at xs (omega arith) in
    get_or_append_left (take at xs) (new ++ drop (at + length new) xs) 0 k (omega (arith, len)) ∙ get_or-take at xs k 0 before

-- at the place stand the new elements
pub put_within : (xs : List ℕ) (at : ℕ) (new : List ℕ) (k : ℕ) → at + length new ≤ length xs → at ≤ k → k < at + length new
    → get_or (put_at xs at new) k 0 ≡ get_or new (k - at) 0
put_within xs at new k room low high =
    let len : length (take at xs) ≡ at = length-take-le at xs (omega arith) in
    get_or-append_right (take at xs) (new ++ drop (at + length new) xs) at k 0 len low
    ∙ get_or_append_left new (drop (at + length new) xs) 0 (k - at) (omega arith)

-- after them it is as it was
pub put_behind : (xs : List ℕ) (at : ℕ) (new : List ℕ) (k : ℕ) → at + length new ≤ length xs → at + length new ≤ k
    → get_or (put_at xs at new) k 0 ≡ get_or xs k 0
put_behind xs at new k room behind =
    let len : length (take at xs) ≡ at = length-take-le at xs (omega arith) in
    get_or-append_right (take at xs) (new ++ drop (at + length new) xs) at k 0 len (omega arith)
    ∙ (get_or-append_right new (drop (at + length new) xs) (length new) (k - at) 0 refl (omega arith)
    ∙ (get_or-drop (at + length new) xs ((k - at) - length new) 0
    ∙ ap (λ i. get_or xs i 0) (omega arith)))
