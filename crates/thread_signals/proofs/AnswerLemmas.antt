-- The first answer along numbers, as a loop over them finds it, and the best waiter of those so far.
use Rattle.std.proofs.Common.{◌≡◌, ◌∙◌, refl, sym, ap, arith, ℕ, zero, suc, ◌+◌, ◌-◌, ◌<◌, ◌≤◌, Bool, true, false, cond, List, [], ◌∷◌, ◌++◌, Option, Some, None, filter}
use Rattle.std.specs.List.{range_with_len}
use Rattle.std.specs.Option.{option_map}
use Rattle.std.proofs.lemmas.List.Elements.{filter-append}
use Rattle.thread_base.specs.Priority.{tids, first_greatest}
use Rattle.thread_base.proofs.PriorityLemmas.{better, first_push}
use Rattle.thread_base.specs.Deliveries.{first_answer, own_signal, pending_recipient, is_greater, signals}

-- the first answer from a number on, below another
unfoldable pub answer_from : {A : Type 0} → (ℕ → Option A) → ℕ → ℕ → Option A
answer_from answer n end = first_answer answer (range_with_len n (end - n))

one_less : (n end : ℕ) → n < end → end - n ≡ suc (end - (n + 1))
one_less n end h = omega arith

module _ {A : Type 0} (answer : ℕ → Option A) where
  pub of_threads : first_answer answer tids ≡ answer_from answer 1 65
  unfolding tids answer_from
  of_threads = refl

  pub of_signals : first_answer answer signals ≡ answer_from answer 1 32
  unfolding signals answer_from
  of_signals = refl

  pub answer_here : (n end : ℕ) (a : A) → n < end → answer n ≡ Some a → answer_from answer n end ≡ Some a
  unfolding answer_from
  answer_here n end a h is = rw (one_less n end h) (rw is refl)

  pub answer_later : (n end : ℕ) → n < end → answer n ≡ None → answer_from answer n end ≡ answer_from answer (n + 1) end
  unfolding answer_from
  answer_later n end h is = rw (one_less n end h) (rw is refl)

  pub answer_no_more : (n end : ℕ) → end ≤ n → answer_from answer n end ≡ None
  unfolding answer_from
  answer_no_more n end h = let e : end - n ≡ 0 = omega arith in rw e refl

-- a thread's own lowest signal that it takes, as a delivery
abbrev pub own_answer : (ℕ → Option ℕ) → (ℕ → ℕ → Bool) → (ℕ → ℕ → ℕ) → ℕ → Option (ℕ × ℕ × Bool)
own_answer waits free counts t = option_map (λ sig. (t, sig, false)) (own_signal waits free counts t)

-- who gets a signal of the process, as a delivery
abbrev pub process_answer : (ℕ → Option ℕ) → (ℕ → ℕ → Bool) → (ℕ → ℕ → ℕ) → (ℕ → ℕ) → ℕ → Option (ℕ × ℕ × Bool)
process_answer waits free counts eff sig = option_map (λ t. (t, sig, true)) (pending_recipient waits free counts eff sig)

-- a range with a number more
pub range_push : (first n j : ℕ) → first + n ≡ j → range_with_len first (suc n) ≡ range_with_len first n ++ j ∷ []
range_push first zero j e = ap (λ x. x ∷ []) (omega (arith, e))
range_push first (suc n) j e = ap (λ xs. first ∷ xs) (range_push (first + 1) n j (omega (arith, e)))

-- the threads up to a number that pass a test
unfoldable pub passing_to : (ℕ → Bool) → ℕ → List ℕ
passing_to test n = filter test (range_with_len 1 n)

pub passing_all : (test : ℕ → Bool) → passing_to test 64 ≡ filter test tids
unfolding tids passing_to
passing_all test = refl

pub passing_none : (test : ℕ → Bool) → passing_to test 0 ≡ []
unfolding passing_to
passing_none test = refl

passing_more : (test : ℕ → Bool) (n : ℕ) → passing_to test (n + 1) ≡ passing_to test n ++ cond (test (n + 1)) ((n + 1) ∷ []) []
unfolding passing_to
passing_more test n =
    let more : range_with_len 1 (n + 1) ≡ range_with_len 1 n ++ (n + 1) ∷ [] = ap (range_with_len 1) (let e : n + 1 ≡ suc n = omega arith in e) ∙ range_push 1 n (n + 1) (omega arith) in
    ap (filter test) more ∙ filter-append test (range_with_len 1 n) ((n + 1) ∷ [])

append_none : {A : Type 0} (xs : List A) → xs ++ [] ≡ xs
append_none [] = refl
append_none (x ∷ xs) = ap (λ ys. x ∷ ys) (append_none xs)

better_taken : (key : ℕ → ℕ) (best : Option ℕ) (t : ℕ) → is_greater key best t ≡ true → better key best t ≡ Some t
better_taken key None t h = refl
better_taken key (Some b) t h = ap (λ test. cond test (Some t) (Some b)) h

better_left : (key : ℕ → ℕ) (best : Option ℕ) (t : ℕ) → is_greater key best t ≡ false → better key best t ≡ best
better_left key None t h = let e : true ≡ false = h in cc
better_left key (Some b) t h = ap (λ test. cond test (Some t) (Some b)) h

module _ (key : ℕ → ℕ) (test : ℕ → Bool) (n : ℕ) (best : Option ℕ) (so : best ≡ first_greatest key (passing_to test n)) where
  -- a thread that does not pass changes nothing
  pub best_skip : test (n + 1) ≡ false → best ≡ first_greatest key (passing_to test (n + 1))
  best_skip fails =
      so ∙ sym (ap (first_greatest key) (passing_more test n ∙ ap (λ b. passing_to test n ++ cond b ((n + 1) ∷ []) []) fails ∙ append_none (passing_to test n)))

  pushed : test (n + 1) ≡ true → first_greatest key (passing_to test (n + 1)) ≡ better key best (n + 1)
  pushed passes =
      ap (first_greatest key) (passing_more test n ∙ ap (λ b. passing_to test n ++ cond b ((n + 1) ∷ []) []) passes)
      ∙ first_push key (passing_to test n) (n + 1)
      ∙ sym (ap (λ o. better key o (n + 1)) so)

  -- one that passes and is greater is the best now
  pub best_taken : test (n + 1) ≡ true → is_greater key best (n + 1) ≡ true → Some (n + 1) ≡ first_greatest key (passing_to test (n + 1))
  best_taken passes greater = sym (pushed passes ∙ better_taken key best (n + 1) greater)

  -- and one that is not greater is not
  pub best_left : test (n + 1) ≡ true → is_greater key best (n + 1) ≡ false → best ≡ first_greatest key (passing_to test (n + 1))
  best_left passes lower = sym (pushed passes ∙ better_left key best (n + 1) lower)
