-- How many of one signal pend: what a change of one count makes of it.
use Rattle.std.proofs.Common.{◌≡◌, ◌≢◌, ◌∙◌, ◌⊎◌, refl, sym, ap, arith, inl, inr, ℕ, zero, suc, ◌+◌, ◌<◌, ◌≤◌, List, [], ◌∷◌}
use Rattle.std.specs.Prelude.{map, fold, slice_index, slice_set, replicate, length, if◌then◌else◌}
use Rattle.std.specs.List.{range_with_len}
use Rattle.std.proofs.lemmas.Bool.{cases_eq, eq-eqb, ne_eqb}
use Rattle.std.proofs.lemmas.List.{get_or-set_same, get_or-set_other, get_or-map}
use Rattle.thread_base.specs.Maps.{put}
use Rattle.thread_base.specs.Priority.{tids}
use Rattle.thread_base.proofs.MapLemmas.{put_same, put_other, at_same}
use Rattle.posix_model.specs.State.{State, none_pending}
use Rattle.posix_model.specs.Deliveries.{pend, set_pending}
use Rattle.posix_model.specs.Leaving.{plus_each}
use Rattle.posix_model.specs.SignalCalls.{forgotten}
use Rattle.posix_model.specs.Lines.{sig_numbers}
use Rattle.posix_model.specs.Trace.{left_of, left}
use Rattle.posix_model.specs.Weights.{total}
use Rattle.posix_model.proofs.JournalLemmas.{length_range}
use Rattle.run_laws.specs.Ledger.{share}

-- a count of the signal of the ledger, and of another
pub share_own : (sig other count : ℕ) → other ≡ sig → share sig other count ≡ count
share_own sig other count same = ap (λ b. if b then count else 0) (eq-eqb other sig same)

pub share_other : (sig other count : ℕ) → other ≢ sig → share sig other count ≡ 0
share_other sig other count apart = ap (λ b. if b then count else 0) (ne_eqb other sig apart)

pub share_none : (sig other : ℕ) → share sig other 0 ≡ 0
share_none sig other = elim (cases_eq other sig) [ inl same ↦ share_own sig other 0 same | inr apart ↦ share_other sig other 0 apart ]

-- how many of a signal pend on threads, and in all
unfoldable pub own_left : (ℕ → ℕ → ℕ) → ℕ → ℕ
own_left counts sig = total (λ t. counts t sig) tids

unfoldable pub left_in : (ℕ → ℕ → ℕ) → ℕ → ℕ
left_in counts sig = counts 0 sig + own_left counts sig

parts : (counts : ℕ → ℕ → ℕ) (sig : ℕ) → left_in counts sig ≡ counts 0 sig + own_left counts sig
unfolding left_in
parts counts sig = refl

fold_total : (f : ℕ → ℕ) (xs : List ℕ) (n : ℕ) → fold ◌+◌ n (map f xs) ≡ n + total f xs
fold_total f [] n = omega arith
fold_total f (x ∷ xs) n = let rest = fold_total f xs (n + f x) in omega (arith, rest)

pub left_is : (s : State) (sig : ℕ) → left_of s sig ≡ left_in s.pending sig
unfolding left_in own_left
left_is s sig = let threads = fold_total (λ t. s.pending t sig) tids 0 in omega (arith, threads)

-- two sums are one where their parts are, and differ by what one part does
total_same : (f g : ℕ → ℕ) (first count : ℕ) → ((u : ℕ) → first ≤ u → f u ≡ g u) → total f (range_with_len first count) ≡ total g (range_with_len first count)
total_same f g first zero each = refl
total_same f g first (suc count) each =
    let here = each first (omega arith) in
    let rest = total_same f g (first + 1) count (λ u low. each u (omega (arith, low))) in
    omega (arith, here, rest)

total_change : (f g : ℕ → ℕ) (x first count : ℕ) → ((u : ℕ) → u ≢ x → f u ≡ g u) → first ≤ x → x < first + count
    → total f (range_with_len first count) + g x ≡ total g (range_with_len first count) + f x
total_change f g x first zero others low high = absurd (omega arith)
total_change f g x first (suc count) others low high =
    elim (cases_eq first x) [
      | inl same ↦
          (let here : f first ≡ f x = ap f same in
          let there : g first ≡ g x = ap g same in
          let rest = total_same f g (first + 1) count (λ u above. others u (λ e. omega (arith, e, above, same))) in
          omega (arith, here, there, rest))
      | inr other ↦
          (let here = others first other in
          let rest = total_change f g x (first + 1) count others (omega arith) (omega arith) in
          omega (arith, here, rest))
    ]

-- the counts of one place change
module _ (counts : ℕ → ℕ → ℕ) (place : ℕ) (row : ℕ → ℕ) (sig : ℕ) where
  here_is : put counts place row place sig ≡ row sig
  here_is = ap (λ (r : ℕ → ℕ). r sig) (put_same counts place row)

  there_is : (u : ℕ) → u ≢ place → put counts place row u sig ≡ counts u sig
  there_is u ne = ap (λ (r : ℕ → ℕ). r sig) (put_other counts place row u ne)

  own_process : place ≡ 0 → own_left (put counts place row) sig ≡ own_left counts sig
  unfolding own_left tids
  own_process process =
      total_same (λ t. put counts place row t sig) (λ t. counts t sig) 1 64 (λ u low. there_is u (λ e. omega (arith, e, low, process)))

  own_thread : 1 ≤ place → place ≤ 64 → own_left (put counts place row) sig + counts place sig ≡ own_left counts sig + row sig
  unfolding own_left tids
  own_thread low high =
      let change = total_change (λ t. put counts place row t sig) (λ t. counts t sig) place 1 64 there_is low (omega arith) in
      omega (arith, change, here_is)

  pub left_put : (place ≡ 0) ⊎ ((1 ≤ place) × (place ≤ 64)) → left_in (put counts place row) sig + counts place sig ≡ left_in counts sig + row sig
  left_put (inl process) =
      let before = parts counts sig in
      let after = parts (put counts place row) sig in
      let own = own_process process in
      let here : put counts place row 0 sig ≡ row sig = ap (λ u. put counts place row u sig) (sym process) ∙ here_is in
      let there : counts 0 sig ≡ counts place sig = ap (λ u. counts u sig) (sym process) in
      omega (arith, before, after, own, here, there)
  left_put (inr thread) =
      let before = parts counts sig in
      let after = parts (put counts place row) sig in
      let own = own_thread thread.0 thread.1 in
      let process = there_is 0 (λ e. omega (arith, e, thread.0)) in
      omega (arith, before, after, own, process)

-- one count changes
module _ (s : State) (place other sig : ℕ) (where_it_is : (place ≡ 0) ⊎ ((1 ≤ place) × (place ≤ 64))) where
  left_count : (n : ℕ) → left_in (set_pending s place other n).pending sig + share sig other (s.pending place other) ≡ left_in s.pending sig + share sig other n
  left_count n =
      let change = left_put s.pending place (put (s.pending place) other n) sig where_it_is in
      elim (cases_eq other sig) [
        | inl same ↦
            (let now : put (s.pending place) other n sig ≡ n = ap (put (s.pending place) other n) (sym same) ∙ put_same (s.pending place) other n in
            let before : s.pending place sig ≡ s.pending place other = ap (s.pending place) (sym same) in
            let all = share_own sig other (s.pending place other) same in
            let some = share_own sig other n same in
            omega (arith, change, now, before, all, some))
        | inr apart ↦
            (let now = put_other (s.pending place) other n sig (λ e. apart (sym e)) in
            let all = share_other sig other (s.pending place other) apart in
            let some = share_other sig other n apart in
            omega (arith, change, now, all, some))
      ]

  share_sum : (n m : ℕ) → share sig other (n + m) ≡ share sig other n + share sig other m
  share_sum n m =
      elim (cases_eq other sig) [
        | inl same ↦
            (let a = share_own sig other (n + m) same in
            let b = share_own sig other n same in
            let c = share_own sig other m same in
            omega (arith, a, b, c))
        | inr apart ↦
            (let a = share_other sig other (n + m) apart in
            let b = share_other sig other n apart in
            let c = share_other sig other m apart in
            omega (arith, a, b, c))
      ]

  -- so many more pend
  pub left_more : (n : ℕ) → left_in (pend s place other n).pending sig ≡ left_in s.pending sig + share sig other n
  left_more n =
      let change = left_count (s.pending place other + n) in
      let parts = share_sum (s.pending place other) n in
      omega (arith, change, parts)

  -- all are taken
  pub left_taken : left_in (set_pending s place other 0).pending sig + share sig other (s.pending place other) ≡ left_in s.pending sig
  left_taken =
      let change = left_count 0 in
      let none = share_none sig other in
      omega (arith, change, none)

-- sums of nothing
none_total : (first count : ℕ) → total (λ t. 0) (range_with_len first count) ≡ 0
none_total first zero = refl
none_total first (suc count) = let rest = none_total (first + 1) count in omega (arith, rest)

pub none_left : (sig : ℕ) → left_in none_pending sig ≡ 0
unfolding left_in own_left tids
none_left sig = none_total 1 64

-- nothing of a signal pends any more
own_forgotten : (counts : ℕ → ℕ → ℕ) (other sig : ℕ) → other ≡ sig → own_left (forgotten other counts) sig ≡ 0
unfolding own_left tids
own_forgotten counts other sig same =
    total_same (λ t. forgotten other counts t sig) (λ t. 0) 1 64 (λ t low. at_same (λ n. n) (counts t) other sig 0 (sym same)) ∙ none_total 1 64

own_others : (counts : ℕ → ℕ → ℕ) (other sig : ℕ) → other ≢ sig → own_left (forgotten other counts) sig ≡ own_left counts sig
unfolding own_left tids
own_others counts other sig apart =
    total_same (λ t. forgotten other counts t sig) (λ t. counts t sig) 1 64 (λ t low. put_other (counts t) other 0 sig (λ e. apart (sym e)))

pub left_forgotten : (counts : ℕ → ℕ → ℕ) (other sig : ℕ) → left_in (forgotten other counts) sig + share sig other (left_in counts other) ≡ left_in counts sig
left_forgotten counts other sig =
    let before = parts counts sig in
    let after = parts (forgotten other counts) sig in
    elim (cases_eq other sig) [
      | inl same ↦
          (let own = own_forgotten counts other sig same in
          let process : put (counts 0) other 0 sig ≡ 0 = at_same (λ n. n) (counts 0) other sig 0 (sym same) in
          let all = share_own sig other (left_in counts other) same in
          let its : left_in counts other ≡ left_in counts sig = ap (left_in counts) same in
          omega (arith, before, after, own, process, all, its))
      | inr apart ↦
          (let own = own_others counts other sig apart in
          let process = put_other (counts 0) other 0 sig (λ e. apart (sym e)) in
          let none = share_other sig other (left_in counts other) apart in
          omega (arith, before, after, own, process, none))
    ]

-- ---- counts by signal in a list

pub no_drops : (n sig : ℕ) → slice_index (replicate n 0) sig ≡ 0
no_drops zero sig = refl
no_drops (suc n) zero = refl
no_drops (suc n) (suc sig) = no_drops n sig

-- some of a signal are dropped
pub drops_more : (drops : List ℕ) (sig other count : ℕ) → length drops ≡ 32 → sig ≤ 31
    → slice_index (slice_set drops other (slice_index drops other + count)) sig ≡ slice_index drops sig + share sig other count
drops_more drops sig other count long high =
    elim (cases_eq other sig) [
      | inl same ↦
          (let now : slice_index (slice_set drops other (slice_index drops other + count)) sig ≡ slice_index drops other + count =
          ap (slice_index (slice_set drops other (slice_index drops other + count))) (sym same)
          ∙ get_or-set_same drops other (slice_index drops other + count) 0 (omega (arith, long, high, same)) in
          let before : slice_index drops sig ≡ slice_index drops other = ap (slice_index drops) (sym same) in
          let all = share_own sig other count same in
          omega (arith, now, before, all))
      | inr apart ↦
          (let now = get_or-set_other drops other sig (slice_index drops other + count) 0 (λ e. apart (sym e)) in
          let none = share_other sig other count apart in
          omega (arith, now, none))
    ]

range_at : (first count i : ℕ) → i < count → slice_index (range_with_len first count) i ≡ first + i
range_at first zero i low = absurd (omega arith)
range_at first (suc count) zero low = omega arith
range_at first (suc count) (suc i) low = let rest = range_at (first + 1) count i (omega arith) in omega (arith, rest)

-- what a list by signal has
by_signal : (f : ℕ → ℕ) (sig : ℕ) → sig ≤ 31 → slice_index (map f sig_numbers) sig ≡ f sig
unfolding sig_numbers
by_signal f sig high =
    let long = length_range 0 32 in
    let at : slice_index (range_with_len 0 32) sig ≡ sig = range_at 0 32 sig (omega arith) ∙ omega arith in
    get_or-map f (range_with_len 0 32) sig 0 0 (omega (arith, long, high)) ∙ ap f at

pub drops_plus : (drops : List ℕ) (more : ℕ → ℕ) (sig : ℕ) → sig ≤ 31 → slice_index (plus_each drops more) sig ≡ slice_index drops sig + more sig
drops_plus drops more sig high = by_signal (λ v. slice_index drops v + more v) sig high

pub left_at : (s : State) (sig : ℕ) → sig ≤ 31 → slice_index (left s) sig ≡ left_of s sig
unfolding left
left_at s sig high = by_signal (left_of s) sig high
