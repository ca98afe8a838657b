-- How many signals pend in all: sums of counts, and the change of one of them.
use Rattle.std.proofs.Common.{◌≡◌, ◌≢◌, ◌∙◌, ◌⊎◌, refl, sym, ap, subst, arith, inl, inr, ℕ, ◌+◌, ◌<◌, ◌≤◌}
use Rattle.std.proofs.lemmas.Bool.{cases_eq}
use Rattle.thread_base.specs.Deliveries.{signals}
use Rattle.thread_base.specs.Maps.{put}
use Rattle.thread_base.specs.Numbers.{IsInScope}
use Rattle.thread_base.specs.Priority.{tids}
use Rattle.thread_base.proofs.MapLemmas.{put_same, put_other}
use Rattle.posix_model.specs.State.{State, none_pending}
use Rattle.posix_model.specs.Deliveries.{pend, set_pending}
use Rattle.posix_model.specs.SignalCalls.{forgotten}
use Rattle.posix_model.specs.Weights.{total, pending_in_all, PendsInScope}
use Rattle.posix_model.proofs.ListLemmas.{each_put}
use Rattle.posix_model.proofs.WeightLemmas.{total_less, total_more, total_fewer, total_most}
use Rattle.posix_model.proofs.PendingLemmas.{Stays}

-- how many pend in a place, on all threads, and in all
unfoldable pub row_sum : (ℕ → ℕ) → ℕ
row_sum row = total row signals

unfoldable pub own_sum : (ℕ → ℕ → ℕ) → ℕ
own_sum counts = total (λ t. row_sum (counts t)) tids

unfoldable pub sum_of : (ℕ → ℕ → ℕ) → ℕ
sum_of counts = row_sum (counts 0) + own_sum counts

pub all_of : (s : State) → pending_in_all s ≡ sum_of s.pending
unfolding pending_in_all sum_of own_sum row_sum
all_of s = refl

parts_of : (counts : ℕ → ℕ → ℕ) → sum_of counts ≡ row_sum (counts 0) + own_sum counts
unfolding sum_of
parts_of counts = refl

-- a count changes, and a place
row_more : (row : ℕ → ℕ) (sig n more : ℕ) → n ≤ row sig + more → row_sum (put row sig n) ≤ row_sum row + more
unfolding row_sum signals
row_more row sig n more h =
    total_more (put row sig n) row sig more 1 31
    (λ v ne. let same = put_other row sig n v ne in omega (arith, same))
    (let same = put_same row sig n in omega (arith, same, h))

row_none : (row : ℕ → ℕ) → row_sum (λ sig. 0) ≤ row_sum row
unfolding row_sum signals
row_none row = total_less (λ sig. 0) row 1 31 (λ sig low. omega arith)

row_taken : (row : ℕ → ℕ) (sig : ℕ) → 1 ≤ sig → sig ≤ 31 → row_sum (put row sig 0) + row sig ≤ row_sum row
unfolding row_sum signals
row_taken row sig low high =
    total_fewer (put row sig 0) row sig (row sig) 1 31 (each_put (λ v n. n ≤ row v) row sig 0 (omega arith) (λ v ne. omega arith))
    (let none = put_same row sig 0 in omega (arith, none)) low (omega arith)

-- nothing of a signal pends any more
own_forgotten : (sig : ℕ) (counts : ℕ → ℕ → ℕ) → own_sum (forgotten sig counts) ≤ own_sum counts
unfolding own_sum tids
own_forgotten sig counts =
    total_less (λ t. row_sum (forgotten sig counts t)) (λ t. row_sum (counts t)) 1 64
    (λ t low. let less = row_more (counts t) sig 0 0 (omega arith) in omega (arith, less))

sum_forgotten : (sig : ℕ) (counts : ℕ → ℕ → ℕ) → sum_of (forgotten sig counts) ≤ sum_of counts
sum_forgotten sig counts =
    let before = parts_of counts in
    let after = parts_of (forgotten sig counts) in
    let process = row_more (counts 0) sig 0 0 (omega arith) in
    let threads = own_forgotten sig counts in
    omega (arith, before, after, process, threads)

module _ (counts : ℕ → ℕ → ℕ) (place : ℕ) (row : ℕ → ℕ) where
  row_here : row_sum (put counts place row place) ≡ row_sum row
  row_here = ap row_sum (put_same counts place row)

  row_apart : (u : ℕ) → u ≢ place → row_sum (put counts place row u) ≡ row_sum (counts u)
  row_apart u ne = ap row_sum (put_other counts place row u ne)

  own_more : (more : ℕ) → row_sum row ≤ row_sum (counts place) + more → own_sum (put counts place row) ≤ own_sum counts + more
  unfolding own_sum tids
  own_more more h =
      total_more (λ t. row_sum (put counts place row t)) (λ t. row_sum (counts t)) place more 1 64
      (λ u ne. let same = row_apart u ne in omega (arith, same))
      (let same = row_here in omega (arith, same, h))

  own_apart : place ≡ 0 → own_sum (put counts place row) ≤ own_sum counts
  unfolding own_sum tids
  own_apart process =
      total_less (λ t. row_sum (put counts place row t)) (λ t. row_sum (counts t)) 1 64
      (λ u low. let same = row_apart u (λ e. omega (arith, e, low, process)) in omega (arith, same))

  sum_more : (more : ℕ) → row_sum row ≤ row_sum (counts place) + more → sum_of (put counts place row) ≤ sum_of counts + more
  sum_more more h =
      let before = parts_of counts in
      let after = parts_of (put counts place row) in
      elim (cases_eq 0 place) [
        | inl process ↦
            (let here : row_sum (put counts place row 0) ≡ row_sum row = ap (λ u. row_sum (put counts place row u)) process ∙ row_here in
            let there : row_sum (counts 0) ≡ row_sum (counts place) = ap (λ u. row_sum (counts u)) process in
            let own = own_apart (sym process) in
            omega (arith, before, after, here, there, own, h))
        | inr thread ↦
            (let here = row_apart 0 thread in
            let own = own_more more h in
            omega (arith, before, after, here, own))
      ]

  own_fewer : (fewer : ℕ) → row_sum row + fewer ≤ row_sum (counts place) → 1 ≤ place → place ≤ 64 → own_sum (put counts place row) + fewer ≤ own_sum counts
  unfolding own_sum tids
  own_fewer fewer h low high =
      total_fewer (λ t. row_sum (put counts place row t)) (λ t. row_sum (counts t)) place fewer 1 64
      (each_put (λ u (r : ℕ → ℕ). row_sum r ≤ row_sum (counts u)) counts place row (omega (arith, h)) (λ u ne. omega arith))
      (let same = row_here in omega (arith, same, h)) low (omega arith)

  sum_fewer : (fewer : ℕ) → row_sum row + fewer ≤ row_sum (counts place) → (place ≡ 0) ⊎ ((1 ≤ place) × (place ≤ 64)) → sum_of (put counts place row) + fewer ≤ sum_of counts
  sum_fewer fewer h (inl process) =
      let before = parts_of counts in
      let after = parts_of (put counts place row) in
      let here : row_sum (put counts place row 0) ≡ row_sum row = ap (λ u. row_sum (put counts place row u)) (sym process) ∙ row_here in
      let there : row_sum (counts 0) ≡ row_sum (counts place) = ap (λ u. row_sum (counts u)) (sym process) in
      let own = own_apart process in
      omega (arith, before, after, here, there, own, h)
  sum_fewer fewer h (inr thread) =
      let before = parts_of counts in
      let after = parts_of (put counts place row) in
      let here = row_apart 0 (λ e. omega (arith, e, thread.0)) in
      let own = own_fewer fewer h thread.0 thread.1 in
      omega (arith, before, after, here, own)

-- at the start nothing pends
no_row : row_sum (λ sig. 0) ≤ 0
unfolding row_sum signals
no_row = total_most (λ sig. 0) 0 1 31 (λ sig. omega arith)

no_own : own_sum none_pending ≤ 0
unfolding own_sum tids
no_own = total_most (λ t. row_sum (λ sig. 0)) 0 1 64 (λ t. no_row)

pub nothing_pends : sum_of none_pending ≤ 0
nothing_pends = let parts = parts_of none_pending in omega (arith, parts, no_row, no_own)

-- so many more pend at most, and the time goes on by so much at most; what pends stays in scope
pub record Adds (s r : State) (more ticks : ℕ) : Type 0 where
  pub sum : sum_of r.pending ≤ sum_of s.pending + more
  pub time : r.now ≤ s.now + ticks
  pub scope : PendsInScope s → PendsInScope r

pub adds_stays : (s r : State) (more ticks : ℕ) → Stays s r → Adds s r more ticks
adds_stays s r more ticks stays =
    let same : r.pending ≡ s.pending = ap (λ (p : (ℕ → ℕ → ℕ) × ℕ). p.0) stays in
    let sums : sum_of r.pending ≡ sum_of s.pending = ap sum_of same in
    let times : r.now ≡ s.now = ap (λ (p : (ℕ → ℕ → ℕ) × ℕ). p.1) stays in
    record {
      sum = omega (arith, sums);
      time = omega (arith, times);
      scope = λ scope. subst (λ (f : ℕ → ℕ → ℕ). (place sig : ℕ) → 0 < f place sig → IsInScope sig) (sym same) scope;
    }

-- after a change that leaves what pends
pub adds_after : (s r q : State) (more ticks : ℕ) → Stays s r → Adds r q more ticks → Adds s q more ticks
adds_after s r q more ticks stays adds =
    let first = adds_stays s r 0 0 stays in
    let low = first.sum in
    let high = adds.sum in
    let soon = first.time in
    let late = adds.time in
    record { sum = omega (arith, low, high); time = omega (arith, soon, late); scope = λ scope. adds.scope (first.scope scope) }

-- before a change that leaves what pends
pub adds_before : (s r q : State) (more ticks : ℕ) → Adds s r more ticks → Stays r q → Adds s q more ticks
adds_before s r q more ticks adds stays =
    let last = adds_stays r q 0 0 stays in
    let low = adds.sum in
    let high = last.sum in
    let soon = adds.time in
    let late = last.time in
    record { sum = omega (arith, low, high); time = omega (arith, soon, late); scope = λ scope. last.scope (adds.scope scope) }

-- more of a signal in scope pend in a place
pub adds_pend : (s : State) (place sig count : ℕ) → IsInScope sig → Adds s (pend s place sig count) count 0
adds_pend s place sig count in_scope = record {
  sum = sum_more s.pending place (put (s.pending place) sig (s.pending place sig + count)) count
      (row_more (s.pending place) sig (s.pending place sig + count) count (omega arith));
  time = omega arith;
  scope = λ scope. each_put (λ v (row : ℕ → ℕ). (n : ℕ) → 0 < row n → IsInScope n) s.pending place (put (s.pending place) sig (s.pending place sig + count))
      (each_put (λ n c. 0 < c → IsInScope n) (s.pending place) sig (s.pending place sig + count) (λ h. in_scope) (λ n ne. scope place n)) (λ v ne. scope v);
}

-- nothing pends on a thread any more
pub adds_cleared : (s r : State) (t more ticks : ℕ) → r.pending ≡ put s.pending t (λ sig. 0) → r.now ≡ s.now → Adds s r more ticks
adds_cleared s r t more ticks same times =
    let less = sum_more s.pending t (λ sig. 0) 0 (let none = row_none (s.pending t) in omega (arith, none)) in
    let sums : sum_of r.pending ≡ sum_of (put s.pending t (λ sig. 0)) = ap sum_of same in
    record {
      sum = omega (arith, less, sums);
      time = omega (arith, times);
      scope = λ scope. subst (λ (f : ℕ → ℕ → ℕ). (place sig : ℕ) → 0 < f place sig → IsInScope sig) (sym same)
          (each_put (λ v (row : ℕ → ℕ). (n : ℕ) → 0 < row n → IsInScope n) s.pending t (λ sig. 0) (λ n h. absurd (omega (arith, h))) (λ v ne. scope v));
    }

-- nothing of a signal pends any more
pub adds_forgotten : (s r : State) (sig more ticks : ℕ) → r.pending ≡ forgotten sig s.pending → r.now ≡ s.now → Adds s r more ticks
adds_forgotten s r sig more ticks same times =
    let less = sum_forgotten sig s.pending in
    let sums : sum_of r.pending ≡ sum_of (forgotten sig s.pending) = ap sum_of same in
    record {
      sum = omega (arith, less, sums);
      time = omega (arith, times);
      scope = λ scope. subst (λ (f : ℕ → ℕ → ℕ). (place n : ℕ) → 0 < f place n → IsInScope n) (sym same)
          (λ place. each_put (λ n c. 0 < c → IsInScope n) (s.pending place) sig 0 (λ h. absurd (omega (arith, h))) (λ n ne. scope place n));
    }

pub scope_taken : (s : State) (place sig : ℕ) → PendsInScope s → PendsInScope (set_pending s place sig 0)
scope_taken s place sig scope =
    each_put (λ v (row : ℕ → ℕ). (n : ℕ) → 0 < row n → IsInScope n) s.pending place (put (s.pending place) sig 0)
    (each_put (λ n c. 0 < c → IsInScope n) (s.pending place) sig 0 (λ h. absurd (omega (arith, h))) (λ n ne. scope place n)) (λ v ne. scope v)

-- nothing of a signal pends in a place any more
pub adds_taken : (s : State) (place sig more ticks : ℕ) → Adds s (set_pending s place sig 0) more ticks
adds_taken s place sig more ticks =
    let less = sum_more s.pending place (put (s.pending place) sig 0) 0 (row_more (s.pending place) sig 0 0 (omega arith)) in
    record { sum = omega (arith, less); time = omega arith; scope = scope_taken s place sig }

-- a signal is taken with its whole count
pub sum_taken : (s : State) (place sig : ℕ) → 1 ≤ sig → sig ≤ 31 → (place ≡ 0) ⊎ ((1 ≤ place) × (place ≤ 64))
    → sum_of (set_pending s place sig 0).pending + s.pending place sig ≤ sum_of s.pending
sum_taken s place sig low high where_it_is =
    sum_fewer s.pending place (put (s.pending place) sig 0) (s.pending place sig) (row_taken (s.pending place) sig low high) where_it_is
