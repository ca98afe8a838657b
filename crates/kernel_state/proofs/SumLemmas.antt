-- How many signals pend: the table's sum is the machine's, and what is left of it when a signal is taken from a place.
use Rattle.std.proofs.Common.{◌≡◌, ◌≢◌, ◌∙◌, refl, sym, ap, arith, inl, inr, ℕ, zero, suc, ◌+◌, ◌^◌, ◌<◌, ◌≤◌, List, [], ◌∷◌, map}
use Rattle.std.specs.Prelude.{sum, sum_by}
use Rattle.std.specs.List.{range_with_len}
use Rattle.std.proofs.lemmas.Bool.{cases_eq}
use Rattle.std.proofs.lemmas.List.Sums.{sum_by-cons, sum-map}
use Rattle.thread_base.specs.Deliveries.{signals}
use Rattle.thread_base.specs.Maps.{put}
use Rattle.thread_base.specs.Priority.{tids}
use Rattle.thread_base.proofs.MapLemmas.{put_same, put_other}
use Rattle.thread_signals.specs.Counts.{places, without_signal, all_of, total as total_of}
use Rattle.posix_model.specs.State.{State}
use Rattle.posix_model.specs.Deliveries.{set_pending}
use Rattle.posix_model.specs.SignalCalls.{forgotten}
use Rattle.posix_model.specs.Weights.{total, pending_in_all}
use Rattle.posix_model.proofs.ListLemmas.{each_put}
use Rattle.posix_model.proofs.WeightLemmas.{total_less}
use Rattle.posix_model.proofs.PendingCounts.{row_sum}

-- the two words for a sum
sum_total : (f : ℕ → ℕ) (xs : List ℕ) → sum_by f xs ≡ total f xs
sum_total f [] = refl
sum_total f (x ∷ xs) = sum_by-cons f x xs ∙ ap (λ n. f x + n) (sum_total f xs)

-- a sum of sums, in the other order
total_none : (xs : List ℕ) → total (λ x. 0) xs ≡ 0
total_none [] = refl
total_none (x ∷ xs) = let rest = total_none xs in omega (arith, rest)

total_plus : (f g : ℕ → ℕ) (xs : List ℕ) → total (λ x. f x + g x) xs ≡ total f xs + total g xs
total_plus f g [] = refl
total_plus f g (x ∷ xs) = let rest = total_plus f g xs in omega (arith, rest)

exchanged : (f : ℕ → ℕ → ℕ) (xs ys : List ℕ) → total (λ x. total (f x) ys) xs ≡ total (λ y. total (λ x. f x y) xs) ys
exchanged f [] ys = sym (total_none ys)
exchanged f (x ∷ xs) ys = ap (λ n. total (f x) ys + n) (exchanged f xs ys) ∙ sym (total_plus (f x) (λ y. total (λ z. f z y) xs) ys)

all_places : places ≡ 0 ∷ tids
unfolding places tids
all_places = refl

-- how many of a signal pend in all places, as the machine counts them
pub sum_all : (counts : ℕ → ℕ → ℕ) (sig : ℕ) → all_of counts sig ≡ counts 0 sig + sum (map (λ t. counts t sig) tids)
sum_all counts sig =
    let column = λ (t : ℕ). counts t sig in
    ap (sum_by column) all_places ∙ sum_by-cons column 0 tids ∙ ap (λ n. counts 0 sig + n) (sym (sum-map column tids))

-- how many of all signals pend in all places, by signal or by place
pub sum_is : (counts : ℕ → ℕ → ℕ) → total_of counts ≡ total (λ place. total (counts place) signals) (0 ∷ tids)
sum_is counts =
    sum_total (all_of counts) signals
    ∙ ap (λ (f : ℕ → ℕ). total f signals) (λ i sig. sum_total (λ t. counts t sig) places i)
    ∙ exchanged (λ sig t. counts t sig) signals places
    ∙ ap (total (λ place. total (counts place) signals)) all_places

pub sum_pending : (s : State) → total_of s.pending ≡ pending_in_all s
unfolding pending_in_all
sum_pending s = sum_is s.pending

-- nothing of a signal pends any more
pub without_is : (counts : ℕ → ℕ → ℕ) (sig : ℕ) → without_signal counts sig ≡ forgotten sig counts
without_is counts sig = refl

-- a sum over a range of which one part changes
total_same : (f g : ℕ → ℕ) (first count : ℕ) → ((u : ℕ) → first ≤ u → f u ≡ g u) → total f (range_with_len first count) ≡ total g (range_with_len first count)
total_same f g first zero each = refl
total_same f g first (suc count) each =
    let here = each first (omega arith) in
    let rest = total_same f g (first + 1) count (λ u low. each u (omega (arith, low))) in
    omega (arith, here, rest)

total_change : (f g : ℕ → ℕ) (x first count : ℕ) → ((u : ℕ) → u ≢ x → f u ≡ g u) → first ≤ x → x < first + count
    → total f (range_with_len first count) + g x ≡ total g (range_with_len first count) + f x
total_change f g x first zero others low high = absurd (omega arith)
total_change f g x first (suc count) others low high =
    elim (cases_eq first x) [
      | inl same ↦
          (let here : f first ≡ f x = ap f same in
          let there : g first ≡ g x = ap g same in
          let rest = total_same f g (first + 1) count (λ u above. others u (λ e. omega (arith, e, above, same))) in
          omega (arith, here, there, rest))
      | inr other ↦
          (let here = others first other in
          let rest = total_change f g x (first + 1) count others (omega arith) (omega arith) in
          omega (arith, here, rest))
    ]

-- how many pend in all, as a sum over a range of places
unfoldable rows_sum : (ℕ → ℕ → ℕ) → ℕ
rows_sum counts = total (λ place. row_sum (counts place)) (range_with_len 0 65)

by_rows : (s : State) → pending_in_all s ≡ total (λ place. row_sum (s.pending place)) (0 ∷ tids)
unfolding pending_in_all row_sum
by_rows s = refl

rows_is : (s : State) → pending_in_all s ≡ rows_sum s.pending
unfolding rows_sum tids
rows_is s = by_rows s

-- a signal is taken from a place with its whole count
module _ (row : ℕ → ℕ) (sig : ℕ) where
  row_taken : 1 ≤ sig → sig ≤ 31 → row_sum (put row sig 0) + row sig ≡ row_sum row
  unfolding row_sum signals
  row_taken low high =
      let change = total_change (put row sig 0) row sig 1 31 (put_other row sig 0) low (omega arith) in
      let none = put_same row sig 0 in
      omega (arith, change, none)

  row_less : row_sum (put row sig 0) ≤ row_sum row
  unfolding row_sum signals
  row_less = total_less (put row sig 0) row 1 31 (λ u low. each_put (λ v n. n ≤ row v) row sig 0 (omega arith) (λ v ne. omega arith) u)

module _ (counts : ℕ → ℕ → ℕ) (place sig : ℕ) where
  abbrev taken : ℕ → ℕ → ℕ
  taken = put counts place (put (counts place) sig 0)

  rows_taken : place ≤ 64 → 1 ≤ sig → sig ≤ 31 → rows_sum taken + counts place sig ≡ rows_sum counts
  unfolding rows_sum
  rows_taken there low high =
      let change =
      total_change (λ u. row_sum (taken u)) (λ u. row_sum (counts u)) place 0 65
      (λ u ne. ap row_sum (put_other counts place (put (counts place) sig 0) u ne)) (omega arith) (omega arith) in
      let here : row_sum (taken place) ≡ row_sum (put (counts place) sig 0) = ap row_sum (put_same counts place (put (counts place) sig 0)) in
      let less = row_taken (counts place) sig low high in
      omega (arith, change, here, less)

  rows_less : rows_sum taken ≤ rows_sum counts
  unfolding rows_sum
  rows_less =
      total_less (λ u. row_sum (taken u)) (λ u. row_sum (counts u)) 0 65 (λ u low.
      each_put (λ v (row : ℕ → ℕ). row_sum row ≤ row_sum (counts v)) counts place (put (counts place) sig 0) (row_less (counts place) sig) (λ v ne. omega arith) u)

module _ (s : State) (place sig : ℕ) where
  pub room_taken : place ≤ 64 → 1 ≤ sig → sig ≤ 31 → pending_in_all (set_pending s place sig 0) + s.pending place sig ≡ pending_in_all s
  room_taken there low high =
      let before = rows_is s in
      let after = rows_is (set_pending s place sig 0) in
      let less = rows_taken s.pending place sig there low high in
      omega (arith, before, after, less)

  -- what is left is no more, whatever the place and the signal
  pub room_taken_less : pending_in_all (set_pending s place sig 0) ≤ pending_in_all s
  room_taken_less =
      let before = rows_is s in
      let after = rows_is (set_pending s place sig 0) in
      let less = rows_less s.pending place sig in
      omega (arith, before, after, less)

  -- there is room to have it pend again, in this place or another
  pub room_put_back : place ≤ 64 → 1 ≤ sig → sig ≤ 31 → pending_in_all s < 2 ^ 62 → pending_in_all (set_pending s place sig 0) + s.pending place sig < 2 ^ 63
  room_put_back there low high room = let all = room_taken there low high in omega (arith, all, room)

-- there is room for one signal more
pub room_one : (s : State) → pending_in_all s < 2 ^ 62 → pending_in_all s + 1 < 2 ^ 63
room_one s room = omega (arith, room)
