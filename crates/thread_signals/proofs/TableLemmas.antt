-- Lists as maps from numbers, and the table after a change of one count.
use Rattle.std.proofs.Common.{◌≡◌, ◌∙◌, refl, ap, ℕ, zero, suc, ◌<◌, ◌≤◌, List, [], length, get_or, set, replicate}
use Rattle.std.proofs.lemmas.List.{get_or-set_same, get_or-set_other, get_or_past}
use Rattle.thread_base.specs.declared.action.Action.{Action}
use Rattle.thread_base.specs.declared.action.Action.TheVariants.{Default}
use Rattle.thread_base.specs.Maps.{put}
use Rattle.thread_base.proofs.MapLemmas.{put_is}
use Rattle.thread_signals.specs.Counts.{put_count}
use Rattle.thread_signals.specs.SignalState.{counts_of, actions_of}

-- a list as a map, after one place was written
pub set_map : {A : Type 0} (none : A) (xs : List A) (i : ℕ) (x : A) → i < length xs → (λ u. get_or (set xs i x) u none) ≡ put (λ u. get_or xs u none) i x
set_map none xs i x h =
    put_is (λ u. get_or xs u none) (λ u. get_or (set xs i x) u none) i x (get_or-set_same xs i x none h) (λ u ne. get_or-set_other xs i u x none ne)

-- of blanks alone, each number has the blank
pub blank : {A : Type 0} (none : A) (n t : ℕ) → get_or (replicate n none) t none ≡ none
blank none zero t = refl
blank none (suc n) zero = refl
blank none (suc n) (suc t) = blank none n t

pub actions_set : (actions : List Action) (sig : ℕ) (action : Action) → sig < length actions → actions_of (set actions sig action) ≡ put (actions_of actions) sig action
unfolding actions_of
actions_set actions sig action h = set_map Default actions sig action h

pub counts_set : (rows : List (List ℕ)) (place sig count : ℕ) → place < length rows → sig < length (get_or rows place [])
    → counts_of (set rows place (set (get_or rows place []) sig count)) ≡ put_count (counts_of rows) place sig count
unfolding counts_of
counts_set rows place sig count h k =
    let row : List ℕ = set (get_or rows place []) sig count in
    put_is (counts_of rows) (counts_of (set rows place row)) place (put (counts_of rows place) sig count)
    (ap {B = ℕ → ℕ} (λ (r : List ℕ) s. get_or r s 0) (get_or-set_same rows place row [] h) ∙ set_map 0 (get_or rows place []) sig count k)
    (λ u ne. ap {B = ℕ → ℕ} (λ (r : List ℕ) s. get_or r s 0) (get_or-set_other rows place u row [] ne))

-- nothing pends under numbers that are no place
pub counts_past : (rows : List (List ℕ)) (t sig : ℕ) → length rows ≤ t → counts_of rows t sig ≡ 0
unfolding counts_of
counts_past rows t sig past = ap (λ (r : List ℕ). get_or r sig 0) (get_or_past rows t [] past)

-- a row of zeros
abbrev pub zeros : List ℕ
zeros = replicate 32 0

none_of_row : (n t sig : ℕ) → get_or (get_or (replicate n zeros) t []) sig 0 ≡ 0
none_of_row zero t sig = refl
none_of_row (suc n) zero sig = blank 0 32 sig
none_of_row (suc n) (suc t) sig = none_of_row n t sig

-- of rows of zeros, nothing pends
pub counts_blank : ◌≡◌ {A = ℕ → ℕ → ℕ} (counts_of (replicate 65 zeros)) (λ t sig. 0)
unfolding counts_of
counts_blank = λ i t sig. none_of_row 65 t sig i

pub actions_blank : actions_of (replicate 32 Default) ≡ (λ sig. Default)
unfolding actions_of
actions_blank = λ i sig. blank Default 32 sig i
