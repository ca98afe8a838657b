-- Sums of counts after one of them was changed, or all of one signal.
use Rattle.std.proofs.Common.{◌≡◌, ◌≢◌, ◌∙◌, refl, sym, ap, arith, inl, inr, ℕ, zero, suc, ◌+◌, ◌<◌, ◌≤◌, cond}
use Rattle.std.specs.Prelude.{sum_by, nat_lt, if◌then◌else◌}
use Rattle.std.specs.List.{range_with_len}
use Rattle.std.proofs.lemmas.Bool.{cases_eq, cases_lt, lt-ltb, le-ltb}
use Rattle.std.proofs.lemmas.List.Sums.{sum_by-cons, sum_by_push}
use Rattle.thread_base.specs.Maps.{put}
use Rattle.thread_base.proofs.MapLemmas.{put_is, put_same, put_other, put_got}
use Rattle.thread_base.specs.Deliveries.{signals}
use Rattle.thread_signals.proofs.AnswerLemmas.{range_push}
use Rattle.thread_signals.specs.Counts.{places, put_count, without_signal, all_of, total}

sum_out : (f : ℕ → ℕ) (t x first count : ℕ) → t < first → sum_by (put f t x) (range_with_len first count) ≡ sum_by f (range_with_len first count)
sum_out f t x first zero low = refl
sum_out f t x first (suc count) low =
    sum_by-cons (put f t x) first (range_with_len (first + 1) count)
    ∙ (λ i. put_other f t x first (omega arith) i + sum_out f t x (first + 1) count (omega arith) i)
    ∙ sym (sum_by-cons f first (range_with_len (first + 1) count))

-- what is exchanged in one sum is exchanged in the sum of the sums
exchanged : (old new total total' had count : ℕ) → new + had ≡ old + count → total' + old ≡ total + new → total' + had ≡ total + count
exchanged old new total total' had count one all = omega (arith, one, all)

-- a sum over a range, after one of its numbers was given another value
pub sum_put : (f : ℕ → ℕ) (t x first count : ℕ) → first ≤ t → t < first + count
    → sum_by (put f t x) (range_with_len first count) + f t ≡ sum_by f (range_with_len first count) + x
sum_put f t x first zero low high = absurd (omega arith)
sum_put f t x first (suc count) low high =
    let rest = range_with_len (first + 1) count in
    let changed = sum_by-cons (put f t x) first rest in
    let before = sum_by-cons f first rest in
    elim (cases_eq first t) [
      | inl same ↦
          (let here : put f t x first ≡ x = ap (put f t x) same ∙ put_same f t x in
          let was : f first ≡ f t = ap f same in
          let others = sum_out f t x (first + 1) count (omega arith) in
          omega (arith, changed, before, here, was, others))
      | inr other ↦
          (let here : put f t x first ≡ f first = put_other f t x first other in
          let others = sum_put f t x (first + 1) count (omega arith) (omega arith) in
          omega (arith, changed, before, here, others))
    ]

module _ (counts : ℕ → ℕ → ℕ) (t sig count : ℕ) where
  column : (λ u. put_count counts t sig count u sig) ≡ put (λ u. counts u sig) t count
  column =
      put_is (λ u. counts u sig) (λ u. put_count counts t sig count u sig) t count
      (ap (λ row. row sig) (put_same counts t (put (counts t) sig count)) ∙ put_same (counts t) sig count)
      (λ u ne. ap (λ row. row sig) (put_other counts t (put (counts t) sig count) u ne))

  other_column : (s : ℕ) → s ≢ sig → ◌≡◌ {A = ℕ → ℕ} (λ u. put_count counts t sig count u s) (λ u. counts u s)
  other_column s ne = λ i u. other u i
    where
      other : (u : ℕ) → put_count counts t sig count u s ≡ counts u s
      other u =
          elim (cases_eq u t) [
            | inl same ↦ ap (λ v. put_count counts t sig count v s) same ∙ ap (λ row. row s) (put_same counts t (put (counts t) sig count)) ∙ put_other (counts t) sig count s ne ∙ sym (ap (λ v. counts v s) same)
            | inr differs ↦ ap (λ row. row s) (put_other counts t (put (counts t) sig count) u differs)
          ]

  sums : all_of (put_count counts t sig count) ≡ put (all_of counts) sig (sum_by (put (λ u. counts u sig) t count) places)
  sums =
      put_is (all_of counts) (all_of (put_count counts t sig count)) sig (sum_by (put (λ u. counts u sig) t count) places)
      (ap (λ f. sum_by f places) column)
      (λ s ne. ap (λ f. sum_by f places) (other_column s ne))

  -- the sum of all counts after one was put in place of another
  pub total_put : t < 65 → 1 ≤ sig → sig < 32 → total (put_count counts t sig count) + counts t sig ≡ total counts + count
  unfolding places signals
  total_put place low high =
      let one = sum_put (λ u. counts u sig) t count 0 65 (omega arith) (omega arith) in
      let new = sum_by (put (λ u. counts u sig) t count) places in
      let all = sum_put (all_of counts) sig new 1 31 low (omega arith) in
      let same : total (put_count counts t sig count) ≡ sum_by (put (all_of counts) sig new) signals = ap (λ f. sum_by f signals) sums in
      ap (λ n. n + counts t sig) same
      ∙ exchanged (all_of counts sig) new (total counts) (sum_by (put (all_of counts) sig new) signals) (counts t sig) count one all

-- a sum over the numbers below another, after one more
pub sum_more : (f : ℕ → ℕ) (n : ℕ) → sum_by f (range_with_len 0 (n + 1)) ≡ sum_by f (range_with_len 0 n) + f n
sum_more f n =
    ap (λ k. sum_by f (range_with_len 0 k)) (let e : n + 1 ≡ suc n = omega arith in e)
    ∙ ap (sum_by f) (range_push 0 n n (omega arith))
    ∙ sum_by_push f (range_with_len 0 n) n

-- the counts without those of a signal below a place
unfoldable pub dropped_to : (ℕ → ℕ → ℕ) → ℕ → ℕ → ℕ → ℕ → ℕ
dropped_to counts sig n t = if nat_lt t n then put (counts t) sig 0 else counts t

module _ (counts : ℕ → ℕ → ℕ) (sig : ℕ) where
  pub dropped_none : dropped_to counts sig 0 ≡ counts
  unfolding dropped_to
  dropped_none = λ i t. ap {B = ℕ → ℕ} (λ b. cond b (put (counts t) sig 0) (counts t)) (le-ltb t 0 (omega arith)) i

  pub still_there : (n : ℕ) → dropped_to counts sig n n sig ≡ counts n sig
  unfolding dropped_to
  still_there n = ap (λ b. cond b (put (counts n) sig 0) (counts n) sig) (le-ltb n n (omega arith))

  pub dropped_more : (n : ℕ) → put_count (dropped_to counts sig n) n sig 0 ≡ dropped_to counts sig (n + 1)
  unfolding dropped_to
  dropped_more n =
      sym (put_is (dropped_to counts sig n) (dropped_to counts sig (n + 1)) n (put (dropped_to counts sig n n) sig 0) here there)
    where
      here : dropped_to counts sig (n + 1) n ≡ put (dropped_to counts sig n n) sig 0
      here =
          ap {B = ℕ → ℕ} (λ b. cond b (put (counts n) sig 0) (counts n)) (lt-ltb n (n + 1) (omega arith))
          ∙ sym (ap {B = ℕ → ℕ} (λ b. put (cond b (put (counts n) sig 0) (counts n)) sig 0) (le-ltb n n (omega arith)))

      there : (t : ℕ) → t ≢ n → dropped_to counts sig (n + 1) t ≡ dropped_to counts sig n t
      there t ne =
          elim (cases_lt t n) [
            | inl low ↦ ap {B = ℕ → ℕ} (λ b. cond b (put (counts t) sig 0) (counts t)) (lt-ltb t (n + 1) (omega arith) ∙ sym (lt-ltb t n low))
            | inr high ↦ ap {B = ℕ → ℕ} (λ b. cond b (put (counts t) sig 0) (counts t)) (le-ltb t (n + 1) (omega arith) ∙ sym (le-ltb t n high))
          ]

  -- where nothing pends from a place on, nothing of the signal is left
  pub dropped_all : (n : ℕ) → ((t : ℕ) → n ≤ t → counts t sig ≡ 0) → dropped_to counts sig n ≡ without_signal counts sig
  unfolding dropped_to
  dropped_all n past = λ i t. row t i
    where
      row : (t : ℕ) → ◌≡◌ {A = ℕ → ℕ} (dropped_to counts sig n t) (put (counts t) sig 0)
      row t =
          elim (cases_lt t n) [
            | inl low ↦ ap {B = ℕ → ℕ} (λ b. cond b (put (counts t) sig 0) (counts t)) (lt-ltb t n low)
            | inr high ↦
                ap {B = ℕ → ℕ} (λ b. cond b (put (counts t) sig 0) (counts t)) (le-ltb t n high)
                ∙ sym (ap (put (counts t) sig) (sym (past t high)) ∙ put_got (counts t) sig)
          ]
