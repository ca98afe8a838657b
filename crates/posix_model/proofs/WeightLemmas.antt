-- The weight of a state: sums over ranges, states that weigh no more than another, and the change of one pending count.
use Rattle.std.proofs.Common.{◌⊎◌, ◌≡◌, ◌≢◌, ◌∙◌, refl, sym, ap, subst, arith, inl, inr, ℕ, zero, suc, ◌+◌, ◌*◌, ◌<◌, ◌≤◌, Bool, true, false, List, [], ◌∷◌}
use Rattle.std.specs.Prelude.{nat_lt}
use Rattle.std.specs.List.{range_with_len}
use Rattle.std.proofs.lemmas.Bool.{cases_eq, cases_Bool}
use Rattle.thread_base.specs.Deliveries.{signals}
use Rattle.thread_base.specs.Maps.{put}
use Rattle.thread_base.specs.Numbers.{is_in_scope, IsInScope}
use Rattle.thread_base.specs.Priority.{tids}
use Rattle.thread_base.proofs.MapLemmas.{put_same, put_other}
use Rattle.posix_model.specs.State.{State, Thread, target, is_at_condition}
use Rattle.posix_model.specs.Deliveries.{pend, set_pending}
use Rattle.posix_model.specs.Weights.{how_many, total, kinds_pending, weight, PendsInScope}
use Rattle.posix_model.proofs.ListLemmas.{each_put}

-- 1 where it is so, and else 0
abbrev pub bit : Bool → ℕ
bit true = 1
bit false = 0

bit_most : (b : Bool) → bit b ≤ 1
bit_most true = omega arith
bit_most false = omega arith

-- how many pass a test, as a sum
counted : (test : ℕ → Bool) (xs : List ℕ) → how_many test xs ≡ total (λ x. bit (test x)) xs
counted test [] = refl
counted test (x ∷ xs) =
    let rest = counted test xs in
    elim (cases_Bool (test x)) [
      | inl is ↦ rw is (omega (arith, rest))
      | inr un ↦ rw un (omega (arith, rest))
    ]

-- a sum over a range of which no part is greater
pub total_less : (f g : ℕ → ℕ) (first count : ℕ) → ((u : ℕ) → first ≤ u → f u ≤ g u) → total f (range_with_len first count) ≤ total g (range_with_len first count)
total_less f g first zero less = omega arith
total_less f g first (suc count) less =
    let here = less first (omega arith) in
    let rest = total_less f g (first + 1) count (λ u low. less u (omega arith)) in
    omega (arith, here, rest)

-- one part is greater by so much at most
pub total_more : (f g : ℕ → ℕ) (x more first count : ℕ) → ((u : ℕ) → u ≢ x → f u ≤ g u) → f x ≤ g x + more
    → total f (range_with_len first count) ≤ total g (range_with_len first count) + more
total_more f g x more first zero others one = omega arith
total_more f g x more first (suc count) others one =
    elim (cases_eq first x) [
      | inl same ↦
          (let here : f first ≤ g first + more = subst (λ u. f u ≤ g u + more) (sym same) one in
          let rest = total_less f g (first + 1) count (λ u low. others u (omega arith)) in
          omega (arith, here, rest))
      | inr other ↦
          (let here = others first other in
          let rest = total_more f g x more (first + 1) count others one in
          omega (arith, here, rest))
    ]

-- one part is less by so much at least
pub total_fewer : (f g : ℕ → ℕ) (x fewer first count : ℕ) → ((u : ℕ) → f u ≤ g u) → f x + fewer ≤ g x → first ≤ x → x < first + count
    → total f (range_with_len first count) + fewer ≤ total g (range_with_len first count)
total_fewer f g x fewer first zero others one low high = absurd (omega arith)
total_fewer f g x fewer first (suc count) others one low high =
    elim (cases_eq first x) [
      | inl same ↦
          (let here : f first + fewer ≤ g first = subst (λ u. f u + fewer ≤ g u) (sym same) one in
          let rest = total_less f g (first + 1) count (λ u low. others u) in
          omega (arith, here, rest))
      | inr other ↦
          (let here = others first in
          let rest = total_fewer f g x fewer (first + 1) count others one (omega arith) (omega arith) in
          omega (arith, here, rest))
    ]

-- each part is so much at most
pub total_most : (f : ℕ → ℕ) (most first count : ℕ) → ((u : ℕ) → f u ≤ most) → total f (range_with_len first count) ≤ count * most
total_most f most first zero each = omega arith
total_most f most first (suc count) each =
    let here = each first in
    let rest = total_most f most (first + 1) count each in
    omega (arith, here, rest)

-- a thread is to be cancelled, it waits for a condition, a signal pends in a place: 1 or 0 each
abbrev pub flag : Thread → ℕ
flag thread = bit thread.cancellation.pending

abbrev pub wait : Thread → ℕ
wait thread = bit (is_at_condition (target thread.standing))

abbrev kind : State → ℕ → ℕ → ℕ
kind s place sig = bit (nat_lt 0 (s.pending place sig))

unfoldable flags : State → ℕ
flags s = total (λ t. flag (s.threads t)) tids

unfoldable waits : State → ℕ
waits s = total (λ t. wait (s.threads t)) tids

unfoldable kinds : State → ℕ → ℕ
kinds s place = total (kind s place) signals

unfoldable all_kinds : State → ℕ
all_kinds s = total (kinds s) tids

same_total : (f g : ℕ → ℕ) (xs : List ℕ) → ((x : ℕ) → f x ≡ g x) → total f xs ≡ total g xs
same_total f g [] same = refl
same_total f g (x ∷ xs) same = λ i. same x i + same_total f g xs same i

one_place : (s : State) (place : ℕ) → kinds_pending s place ≡ kinds s place
unfolding kinds
one_place s place = counted (λ sig. nat_lt 0 (s.pending place sig)) signals

-- the weight, by its parts
weighed : (s : State) → weight s ≡ flags s + 3 * kinds s 0 + all_kinds s + waits s
unfolding weight flags waits all_kinds
weighed s = λ i.
    counted (λ t. (s.threads t).cancellation.pending) tids i
    + 3 * one_place s 0 i
    + same_total (kinds_pending s) (kinds s) tids (one_place s) i
    + counted (λ t. is_at_condition (target (s.threads t).standing)) tids i

-- a state that has nothing of what the weight counts but what another has
pub record Falls (s r : State) : Type 0 where
  pub flags : (t : ℕ) → flag (r.threads t) ≤ flag (s.threads t)
  pub kinds : (place sig : ℕ) → kind r place sig ≤ kind s place sig
  pub waits : (t : ℕ) → wait (r.threads t) ≤ wait (s.threads t)

module _ (s r : State) (falls : Falls s r) where
  less_kinds : (place : ℕ) → kinds r place ≤ kinds s place
  unfolding kinds signals
  less_kinds place = total_less (kind r place) (kind s place) 1 31 (λ sig low. falls.kinds place sig)

  less_flags : flags r ≤ flags s
  unfolding flags tids
  less_flags = total_less (λ t. flag (r.threads t)) (λ t. flag (s.threads t)) 1 64 (λ t low. falls.flags t)

  less_all : all_kinds r ≤ all_kinds s
  unfolding all_kinds tids
  less_all = total_less (kinds r) (kinds s) 1 64 (λ t low. less_kinds t)

  less_waits : waits r ≤ waits s
  unfolding waits tids
  less_waits = total_less (λ t. wait (r.threads t)) (λ t. wait (s.threads t)) 1 64 (λ t low. falls.waits t)

  -- it weighs no more
  pub weight_falls : weight r ≤ weight s
  weight_falls =
      let before = weighed s in
      let after = weighed r in
      let process = less_kinds 0 in
      omega (arith, before, after, less_flags, process, less_all, less_waits)

  module _ (t : ℕ) (low : 1 ≤ t) (high : t ≤ 64) where
    fewer_flags : flag (r.threads t) + 1 ≤ flag (s.threads t) → flags r + 1 ≤ flags s
    unfolding flags tids
    fewer_flags h = total_fewer (λ u. flag (r.threads u)) (λ u. flag (s.threads u)) t 1 1 64 falls.flags h low (omega arith)

    fewer_waits : wait (r.threads t) + 1 ≤ wait (s.threads t) → waits r + 1 ≤ waits s
    unfolding waits tids
    fewer_waits h = total_fewer (λ u. wait (r.threads u)) (λ u. wait (s.threads u)) t 1 1 64 falls.waits h low (omega arith)

    fewer_all : kinds r t + 1 ≤ kinds s t → all_kinds r + 1 ≤ all_kinds s
    unfolding all_kinds tids
    fewer_all h = total_fewer (kinds r) (kinds s) t 1 1 64 less_kinds h low (omega arith)

    -- and less, where a thread is to be cancelled no more
    pub weight_flag : flag (r.threads t) + 1 ≤ flag (s.threads t) → weight r < weight s
    weight_flag h =
        let before = weighed s in
        let after = weighed r in
        let process = less_kinds 0 in
        let fewer = fewer_flags h in
        omega (arith, before, after, fewer, process, less_all, less_waits)

    -- waits for a condition no more
    pub weight_wait : wait (r.threads t) + 1 ≤ wait (s.threads t) → weight r < weight s
    weight_wait h =
        let before = weighed s in
        let after = weighed r in
        let process = less_kinds 0 in
        let fewer = fewer_waits h in
        omega (arith, before, after, fewer, process, less_all, less_flags)

  module _ (sig : ℕ) (least : 1 ≤ sig) (most : sig ≤ 31) where
    fewer_kinds : (place : ℕ) → kind r place sig + 1 ≤ kind s place sig → kinds r place + 1 ≤ kinds s place
    unfolding kinds signals
    fewer_kinds place h = total_fewer (kind r place) (kind s place) sig 1 1 31 (falls.kinds place) h least (omega arith)

    -- or where a signal pends on a thread no more
    weight_own : (t : ℕ) → 1 ≤ t → t ≤ 64 → kind r t sig + 1 ≤ kind s t sig → weight r < weight s
    weight_own t low high h =
        let before = weighed s in
        let after = weighed r in
        let process = less_kinds 0 in
        let fewer = fewer_all t low high (fewer_kinds t h) in
        omega (arith, before, after, fewer, process, less_waits, less_flags)

    -- three less where it pends on the process no more
    weight_process : kind r 0 sig + 1 ≤ kind s 0 sig → weight r + 3 ≤ weight s
    weight_process h =
        let before = weighed s in
        let after = weighed r in
        let fewer = fewer_kinds 0 h in
        omega (arith, before, after, fewer, less_all, less_waits, less_flags)

-- how many signals are marked in a row of counts
abbrev marks : (ℕ → ℕ) → ℕ
marks row = total (λ sig. bit (nat_lt 0 (row sig))) signals

marks_put : (row : ℕ → ℕ) (sig n : ℕ) → marks (put row sig n) ≤ marks row + 1
unfolding signals
marks_put row sig n =
    total_more (λ v. bit (nat_lt 0 (put row sig n v))) (λ v. bit (nat_lt 0 (row v))) sig 1 1 31
    (λ v ne. let same : put row sig n v ≡ row v = put_other row sig n v ne in subst (λ k. bit (nat_lt 0 k) ≤ bit (nat_lt 0 (row v))) (sym same) (omega arith))
    (let most = bit_most (nat_lt 0 (put row sig n sig)) in omega (arith, most))

-- more of a signal pend in a place
module _ (s : State) (place sig count : ℕ) where
  pend_apart : (other : ℕ) → other ≢ place → kinds (pend s place sig count) other ≤ kinds s other
  unfolding kinds
  pend_apart other ne =
      let same : marks ((pend s place sig count).pending other) ≡ marks (s.pending other) =
      ap marks (put_other s.pending place (put (s.pending place) sig (s.pending place sig + count)) other ne) in
      omega (arith, same)

  pend_here : kinds (pend s place sig count) place ≤ kinds s place + 1
  unfolding kinds
  pend_here =
      subst (λ (row : ℕ → ℕ). marks row ≤ marks (s.pending place) + 1) (sym (put_same s.pending place (put (s.pending place) sig (s.pending place sig + count))))
      (marks_put (s.pending place) sig (s.pending place sig + count))

  pend_more : all_kinds (pend s place sig count) ≤ all_kinds s + 1
  unfolding all_kinds tids
  pend_more = total_more (kinds (pend s place sig count)) (kinds s) place 1 1 64 pend_apart pend_here

  pend_threads : (flags (pend s place sig count) ≡ flags s) × (waits (pend s place sig count) ≡ waits s)
  unfolding flags waits
  pend_threads = (refl, refl)

pend_elsewhere : (s : State) (sig count : ℕ) → all_kinds (pend s 0 sig count) ≤ all_kinds s
unfolding all_kinds tids
pend_elsewhere s sig count = total_less (kinds (pend s 0 sig count)) (kinds s) 1 64 (λ t low. pend_apart s 0 sig count t (λ e. omega (arith, e, low)))

-- on the process: it weighs three more at most
pub pend_process : (s : State) (sig count : ℕ) → weight (pend s 0 sig count) ≤ weight s + 3
pend_process s sig count =
    let before = weighed s in
    let after = weighed (pend s 0 sig count) in
    let here = pend_here s 0 sig count in
    let others = pend_elsewhere s sig count in
    let rest = pend_threads s 0 sig count in
    omega (arith, before, after, here, others, rest.0, rest.1)

-- on a thread: one more at most
pub pend_thread : (s : State) (t sig count : ℕ) → 1 ≤ t → weight (pend s t sig count) ≤ weight s + 1
pend_thread s t sig count low =
    let before = weighed s in
    let after = weighed (pend s t sig count) in
    let process = pend_apart s t sig count 0 (λ e. omega (arith, e, low)) in
    let others = pend_more s t sig count in
    let rest = pend_threads s t sig count in
    omega (arith, before, after, process, others, rest.0, rest.1)

pub falls_same : (s : State) → Falls s s
falls_same s = record { flags = λ t. omega arith; kinds = λ place sig. omega arith; waits = λ t. omega arith }

pub falls_alike : (s r : State) → r.threads ≡ s.threads → r.pending ≡ s.pending → Falls s r
falls_alike s r threads pending = record {
  flags = λ t. subst (λ (f : ℕ → Thread). flag (f t) ≤ flag (s.threads t)) (sym threads) (omega arith);
  kinds = λ place sig. subst (λ (f : ℕ → ℕ → ℕ). bit (nat_lt 0 (f place sig)) ≤ kind s place sig) (sym pending) (omega arith);
  waits = λ t. subst (λ (f : ℕ → Thread). wait (f t) ≤ wait (s.threads t)) (sym threads) (omega arith);
}

pub falls_on : {s r q : State} → Falls s r → Falls r q → Falls s q
falls_on a b = record {
  flags = λ t. let x = a.flags t in let y = b.flags t in omega (arith, x, y);
  kinds = λ place sig. let x = a.kinds place sig in let y = b.kinds place sig in omega (arith, x, y);
  waits = λ t. let x = a.waits t in let y = b.waits t in omega (arith, x, y);
}

-- one thread changes
pub falls_thread : (s r : State) (t : ℕ) (x : Thread) → r.threads ≡ put s.threads t x → r.pending ≡ s.pending → flag x ≤ flag (s.threads t) → wait x ≤ wait (s.threads t)
    → Falls s r
falls_thread s r t x threads pending flags waits = record {
  flags = λ u.
      subst (λ (f : ℕ → Thread). flag (f u) ≤ flag (s.threads u)) (sym threads)
      (each_put (λ v y. flag y ≤ flag (s.threads v)) s.threads t x flags (λ v ne. omega arith) u);
  kinds = λ place sig. subst (λ (f : ℕ → ℕ → ℕ). bit (nat_lt 0 (f place sig)) ≤ kind s place sig) (sym pending) (omega arith);
  waits = λ u.
      subst (λ (f : ℕ → Thread). wait (f u) ≤ wait (s.threads u)) (sym threads)
      (each_put (λ v y. wait y ≤ wait (s.threads v)) s.threads t x waits (λ v ne. omega arith) u);
}

-- no count of a signal pends in a place any more
module _ (s : State) (place sig : ℕ) where
  none_here : kind (set_pending s place sig 0) place sig ≡ 0
  none_here =
      ap (λ (row : ℕ → ℕ). bit (nat_lt 0 (row sig))) (put_same s.pending place (put (s.pending place) sig 0))
      ∙ ap (λ n. bit (nat_lt 0 n)) (put_same (s.pending place) sig 0)

  falls_taken : Falls s (set_pending s place sig 0)
  falls_taken = record {
    flags = λ t. omega arith;
    kinds =
        each_put (λ v (row : ℕ → ℕ). (n : ℕ) → bit (nat_lt 0 (row n)) ≤ kind s v n) s.pending place (put (s.pending place) sig 0)
        (each_put (λ v n. bit (nat_lt 0 n) ≤ kind s place v) (s.pending place) sig 0 (omega arith) (λ v ne. omega arith)) (λ v ne n. omega arith);
    waits = λ t. omega arith;
  }

  module _ (least : 1 ≤ sig) (most : sig ≤ 31) (pends : nat_lt 0 (s.pending place sig) ≡ true) where
    one_less : kind (set_pending s place sig 0) place sig + 1 ≤ kind s place sig
    one_less = let before : kind s place sig ≡ 1 = ap bit pends in let after = none_here in omega (arith, before, after)

    -- it weighs less
    pub weight_taken : (place ≡ 0) ⊎ ((1 ≤ place) × (place ≤ 64)) → weight (set_pending s place sig 0) < weight s
    weight_taken (inl process) =
        let here = subst (λ v. kind (set_pending s place sig 0) v sig + 1 ≤ kind s v sig) process one_less in
        let lower = weight_process s (set_pending s place sig 0) falls_taken sig least most here in
        omega (arith, lower)
    weight_taken (inr own) = weight_own s (set_pending s place sig 0) falls_taken sig least most place own.0 own.1 one_less

-- a signal in scope counts
scope_bit : (n sig : ℕ) → (0 < n → IsInScope sig) → bit (nat_lt 0 n) ≤ bit (is_in_scope sig)
scope_bit zero sig scope = omega arith
scope_bit (suc n) sig scope =
    let in_scope = scope (omega arith) in
    let one : bit (is_in_scope sig) ≡ 1 = ap bit in_scope in
    let most = bit_most (nat_lt 0 (suc n)) in
    omega (arith, one, most)

scope_total : total (λ sig. bit (is_in_scope sig)) (range_with_len 1 31) ≡ 26
scope_total = refl

module _ (s : State) (scope : PendsInScope s) where
  most_kinds : (place : ℕ) → kinds s place ≤ 26
  unfolding kinds signals
  most_kinds place =
      let less = total_less (kind s place) (λ sig. bit (is_in_scope sig)) 1 31 (λ sig low. scope_bit (s.pending place sig) sig (scope place sig)) in
      subst (λ n. kinds s place ≤ n) scope_total less

  most_all : all_kinds s ≤ 1664
  unfolding all_kinds tids
  most_all = total_most (kinds s) 26 1 64 most_kinds

  most_flags : flags s ≤ 64
  unfolding flags tids
  most_flags = total_most (λ t. flag (s.threads t)) 1 1 64 (λ t. bit_most (s.threads t).cancellation.pending)

  most_waits : waits s ≤ 64
  unfolding waits tids
  most_waits = total_most (λ t. wait (s.threads t)) 1 1 64 (λ t. bit_most (is_at_condition (target (s.threads t).standing)))

  -- where nothing pends but signals in scope
  pub weight_most : weight s ≤ 1870
  weight_most =
      let whole = weighed s in
      let process = most_kinds 0 in
      omega (arith, whole, process, most_all, most_flags, most_waits)
