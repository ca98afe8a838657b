-- The next delivery and what is left, where nothing pends and where one signal pends.
use Rattle.std.proofs.Common.{◌≡◌, ◌≢◌, ◌∙◌, ap, refl, inl, inr, ℕ, zero, suc, ◌+◌, ◌<◌, ◌≤◌, ltb, List, [], ◌∷◌, Option, Some, None, arith, find, set, true, false}
use Rattle.std.specs.Prelude.{map, fold, replicate, ◌&&◌, if◌then◌else◌}
use Rattle.std.specs.Option.{option_or, option_map}
use Rattle.std.specs.List.{range_with_len}
use Rattle.std.proofs.lemmas.Bool.{lt-ltb, cases_eq}
use Rattle.thread_base.specs.Deliveries.{signals, first_answer, own_signal, takes, recipient, pending_recipient, process_delivery, next_delivery as next_signal}
use Rattle.thread_base.specs.Maps.{put}
use Rattle.thread_base.specs.Priority.{tids}
use Rattle.thread_base.proofs.MapLemmas.{put_same, put_other, at_same, at_other}
use Rattle.thread_base.proofs.SearchLemmas.{find_only, find_nowhere}
use Rattle.posix_model.specs.State.{State, none_pending}
use Rattle.posix_model.specs.Scheduling.{eff}
use Rattle.posix_model.specs.Deliveries.{Acts, Gives, gives, next_delivery, awaited, is_free_for, is_cancelled}
use Rattle.posix_model.specs.Lines.{sig_numbers}
use Rattle.posix_model.specs.Trace.{left, left_of}
use Rattle.posix_model.proofs.ListLemmas.{each_put}

-- no delivery is found where there is none along a list, and the only one where there is one
none_answers : {A : Type 0} (f : ℕ → Option A) (xs : List ℕ) → ((x : ℕ) → f x ≡ None) → first_answer f xs ≡ None
none_answers f [] none = refl
none_answers f (x ∷ xs) none = ap (λ o. option_or o (first_answer f xs)) (none x) ∙ none_answers f xs none

one_answers : {A : Type 0} (f : ℕ → Option A) (first count t : ℕ) (a : A) → first ≤ t → t < first + count → f t ≡ Some a → ((u : ℕ) → u ≢ t → f u ≡ None)
    → first_answer f (range_with_len first count) ≡ Some a
one_answers f first zero t a low high here others = absurd (omega arith)
one_answers f first (suc count) t a low high here others =
    elim (cases_eq first t) [
      | inl same ↦ ap (λ o. option_or o (first_answer f (range_with_len (first + 1) count))) (ap f same ∙ here)
      | inr apart ↦
          ap (λ o. option_or o (first_answer f (range_with_len (first + 1) count))) (others first apart)
          ∙ one_answers f (first + 1) count t a (omega arith) (omega arith) here others
    ]

-- what is said of the threads and of what pends, where no cancellation acts
module _ (s : State) (calm : (t : ℕ) → is_cancelled (s.threads t) ≡ false) where
  nobody_acts : find (λ t. is_cancelled (s.threads t)) tids ≡ None
  unfolding tids
  nobody_acts = find_nowhere (λ t. is_cancelled (s.threads t)) 1 64 calm

  -- nothing pends on a thread
  own_none : (t : ℕ) → ((sig : ℕ) → s.pending t sig ≡ 0) → own_signal (awaited s) (is_free_for s) s.pending t ≡ None
  unfolding signals
  own_none t h = find_nowhere (λ sig. ltb 0 (s.pending t sig) && takes (awaited s) (is_free_for s) t sig) 1 31 (λ u. ap (λ n. ltb 0 n && takes (awaited s) (is_free_for s) t u) (h u))

  -- one signal pends on a thread, which takes it
  own_one : (t sig : ℕ) → 1 ≤ sig → sig ≤ 31 → 0 < s.pending t sig → takes (awaited s) (is_free_for s) t sig ≡ true → ((u : ℕ) → u ≢ sig → s.pending t u ≡ 0)
      → own_signal (awaited s) (is_free_for s) s.pending t ≡ Some sig
  unfolding signals
  own_one t sig low high here taken others =
      find_only (λ u. ltb 0 (s.pending t u) && takes (awaited s) (is_free_for s) t u) 1 31 sig
      (ap (λ b. b && takes (awaited s) (is_free_for s) t sig) (lt-ltb 0 (s.pending t sig) here) ∙ taken)
      (λ u ne. ap (λ n. ltb 0 n && takes (awaited s) (is_free_for s) t u) (others u ne)) low (omega arith)

  -- nothing pends on the process
  process_none : ((sig : ℕ) → s.pending 0 sig ≡ 0) → process_delivery (awaited s) (is_free_for s) s.pending (eff s) ≡ None
  process_none h =
      none_answers (λ sig. option_map (λ t. (t, sig, true)) (pending_recipient (awaited s) (is_free_for s) s.pending (eff s) sig)) signals
      (λ sig. ap (λ n. option_map (λ t. (t, sig, true)) (if ltb 0 n then recipient (awaited s) (is_free_for s) (eff s) sig else None)) (h sig))

  -- where nothing pends, no delivery is next
  pub next_none : ((t sig : ℕ) → s.pending t sig ≡ 0) → next_delivery s ≡ None
  unfolding next_delivery
  next_none h =
      ap (λ o. option_or (option_map Acts o) (option_map gives (next_signal (awaited s) (is_free_for s) s.pending (eff s)))) nobody_acts
      ∙ ap (λ o. option_map gives (option_or o (process_delivery (awaited s) (is_free_for s) s.pending (eff s))))
      (none_answers (λ t. option_map (λ sig. (t, sig, false)) (own_signal (awaited s) (is_free_for s) s.pending t)) tids
      (λ t. ap (option_map (λ sig. (t, sig, false))) (own_none t (h t))))
      ∙ ap (option_map gives) (process_none (h 0))

  -- where one signal pends on one thread alone, which takes it, it is next
  pub next_one : (t sig : ℕ) → 1 ≤ t → t ≤ 64 → 1 ≤ sig → sig ≤ 31 → 0 < s.pending t sig → takes (awaited s) (is_free_for s) t sig ≡ true
      → ((v : ℕ) → v ≢ sig → s.pending t v ≡ 0) → ((u v : ℕ) → u ≢ t → s.pending u v ≡ 0)
      → next_delivery s ≡ Some (Gives t sig t)
  unfolding next_delivery tids
  next_one t sig a b c d here taken same others =
      ap (λ o. option_or (option_map Acts o) (option_map gives (next_signal (awaited s) (is_free_for s) s.pending (eff s)))) nobody_acts
      ∙ ap (λ o. option_map gives (option_or o (process_delivery (awaited s) (is_free_for s) s.pending (eff s))))
      (one_answers (λ u. option_map (λ v. (u, v, false)) (own_signal (awaited s) (is_free_for s) s.pending u)) 1 64 t (t, sig, false) a (omega arith)
      (ap (option_map (λ v. (t, v, false))) (own_one t sig c d here taken same))
      (λ u ne. ap (option_map (λ v. (u, v, false))) (own_none u (λ v. others u v ne))))

-- sums and lists of numbers of which all are 0, or all but one
no_sum : (f : ℕ → ℕ) (first count n : ℕ) → ((t : ℕ) → first ≤ t → f t ≡ 0) → fold ◌+◌ n (map f (range_with_len first count)) ≡ n
no_sum f first zero n none = refl
no_sum f first (suc count) n none =
    let here = none first (omega arith) in
    let same : n + f first ≡ n = omega arith in
    ap (λ m. fold ◌+◌ m (map f (range_with_len (first + 1) count))) same ∙ no_sum f (first + 1) count n (λ t low. none t (omega arith))

one_sum : (f : ℕ → ℕ) (first count n t : ℕ) → first ≤ t → t < first + count → ((u : ℕ) → u ≢ t → f u ≡ 0) → fold ◌+◌ n (map f (range_with_len first count)) ≡ n + f t
one_sum f first zero n t low high others = absurd (omega arith)
one_sum f first (suc count) n t low high others =
    elim (cases_eq first t) [
      | inl same ↦ no_sum f (first + 1) count (n + f first) (λ u above. others u (omega arith)) ∙ ap (λ u. n + f u) same
      | inr apart ↦
          (let here = others first apart in
          let same : n + f first ≡ n = omega arith in
          ap (λ m. fold ◌+◌ m (map f (range_with_len (first + 1) count))) same ∙ one_sum f (first + 1) count n t (omega arith) (omega arith) others)
    ]

no_numbers : (f : ℕ → ℕ) (first count : ℕ) → ((t : ℕ) → first ≤ t → f t ≡ 0) → map f (range_with_len first count) ≡ replicate count 0
no_numbers f first zero none = refl
no_numbers f first (suc count) none = λ i. none first (omega arith) i ∷ no_numbers f (first + 1) count (λ t low. none t (omega arith)) i

one_number : (f : ℕ → ℕ) (first count i t : ℕ) → first + i ≡ t → i < count → ((u : ℕ) → u ≢ t → f u ≡ 0) → map f (range_with_len first count) ≡ set (replicate count 0) i (f t)
one_number f first zero i t e high others = absurd (omega arith)
one_number f first (suc count) zero t e high others =
    let here : first ≡ t = omega arith in λ j. ap f here j ∷ no_numbers f (first + 1) count (λ u low. others u (omega arith)) j
one_number f first (suc count) (suc i) t e high others =
    let here = others first (omega arith) in λ j. here j ∷ one_number f (first + 1) count i t (omega arith) (omega arith) others j

nothing_left : (s : State) (sig : ℕ) → ((t : ℕ) → s.pending t sig ≡ 0) → left_of s sig ≡ 0
unfolding tids
nothing_left s sig none =
    let process = none 0 in
    let threads = no_sum (λ t. s.pending t sig) 1 64 0 (λ t above. none t) in
    omega (arith, process, threads)

-- where nothing pends, nothing is left
pub left_none : (s : State) → ((t sig : ℕ) → s.pending t sig ≡ 0) → left s ≡ replicate 32 0
unfolding left sig_numbers tids
left_none s h = no_numbers (left_of s) 0 32 (λ sig low. nothing_left s sig (λ t. h t sig))

-- where one signal pends on one thread alone, it is left
pub left_one : (s : State) (t sig count : ℕ) → s.pending ≡ put none_pending t (put (none_pending t) sig count) → 1 ≤ t → t ≤ 64 → 1 ≤ sig → sig ≤ 31
    → left s ≡ set (replicate 32 0) sig count
unfolding left sig_numbers tids
left_one s t sig count pending low high least most =
    let one : ℕ → ℕ = put (none_pending t) sig count in
    let here : s.pending t sig ≡ count = ap (λ p. p t sig) pending ∙ at_same (λ p. p sig) none_pending t t one refl ∙ put_same (none_pending t) sig count in
    let elsewhere = λ (u : ℕ) (ne : u ≢ t). ap (λ p. p u sig) pending ∙ at_other (λ p. p sig) none_pending t u one ne in
    let others = λ (v : ℕ) (ne : v ≢ sig) (u : ℕ). ap (λ p. p u v) pending ∙ each_put (λ w p. p v ≡ 0) none_pending t one (put_other (none_pending t) sig count v ne) (λ w k. refl) u in
    let process : s.pending 0 sig ≡ 0 = elsewhere 0 (omega arith) in
    let threads = one_sum (λ u. s.pending u sig) 1 64 0 t low (omega arith) elsewhere in
    let all : left_of s sig ≡ count = omega (arith, process, threads, here) in
    one_number (left_of s) 0 32 sig sig (omega arith) (omega arith) (λ v ne. nothing_left s v (others v ne))
    ∙ ap (set (replicate 32 0) sig) all
