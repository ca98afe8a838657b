-- The first thread that passes a test, and numbers that no thread has.
use Rattle.std.proofs.Common.{◌≡◌, ◌∙◌, ℕ, zero, suc, ◌-◌, ◌<◌, ◌≤◌, Bool, true, false, refl, ap, sym, arith, inl, inr, List, ◌∷◌, length, find, Option, Some, None}
use Rattle.std.specs.List.{range_with_len}
use Rattle.std.specs.Option.{SomeIff, IfSome, IfNone}
use Rattle.std.proofs.lemmas.Bool.{cases_lt}
use Rattle.std.proofs.lemmas.List.{get_or_past}
use Rattle.thread_base.specs.Maps.{numbered}
use Rattle.thread_base.specs.Priority.{tids}
use Rattle.thread_base.proofs.SearchLemmas.{find_passes, find_lowest, find_none, in_range}
use Rattle.time_queue.specs.Deadlines.{deadlines, has_come, least_due}
use Rattle.time_queue.specs.declared.TimeQueue.{TimeQueue}

-- a number that is no thread's shows nothing
pub numbered_past : {A : Type 0} (none : A) (xs : List A) (t : ℕ) → length xs < t → numbered none xs t ≡ none
unfolding numbered
numbered_past none xs t past = get_or_past (none ∷ xs) t none (omega arith)

-- no thread has the number 0
pub numbered_zero : {A : Type 0} (none : A) (xs : List A) → numbered none xs 0 ≡ none
unfolding numbered
numbered_zero none xs = refl

-- the deadline of a number that is no thread's never comes
pub never_comes : (now : ℕ) (all : TimeQueue) (n : ℕ) → length all.slots ≤ 64 → (1 ≤ n × n ≤ 64 → ⊥) → has_come now (deadlines all n) ≡ false
never_comes now all zero short outside = ap (has_come now) (numbered_zero None all.slots)
never_comes now all (suc n) short outside =
    elim (cases_lt 64 (suc n)) [
      | inl past ↦ ap (has_come now) (numbered_past None all.slots (suc n) (omega arith))
      | inr within ↦ absurd (outside (omega arith, omega arith))
    ]

-- a number that is found from one on is a thread's
pub found_within : (now : ℕ) (all : TimeQueue) (first t : ℕ) → length all.slots ≤ 64 → find (λ u. has_come now (deadlines all u)) (range_with_len first (65 - first)) ≡ Some t
    → 1 ≤ t × t ≤ 64
found_within now all first t short found = within t (find_passes (λ u. has_come now (deadlines all u)) (range_with_len first (65 - first)) t found)
  where
    within : (u : ℕ) → has_come now (deadlines all u) ≡ true → 1 ≤ u × u ≤ 64
    within zero come = absurd (let e : false ≡ true = sym (ap (has_come now) (numbered_zero None all.slots)) ∙ come in cc)
    within (suc u) come =
        elim (cases_lt 64 (suc u)) [
          | inl past ↦ absurd (let e : false ≡ true = sym (ap (has_come now) (numbered_past None all.slots (suc u) (omega arith))) ∙ come in cc)
          | inr low ↦ (omega arith, omega arith)
        ]

-- a thread of a number is made where the number is a thread's
pub is_made : (result : Option ℕ) (n : ℕ) → SomeIff result (1 ≤ n × n ≤ 64) n → 1 ≤ n × n ≤ 64 → result ≡ Some n
is_made None n none within = absurd (none within)
is_made (Some x) n same within = ap Some same.1

-- what is found from 1 on is the lowest thread whose deadline has come
pub from_one : (now : ℕ) (all : TimeQueue) → find (λ t. has_come now (deadlines all t)) (range_with_len 1 64) ≡ least_due now (deadlines all)
unfolding tids
from_one now all = refl

-- it is due and no lower one is; where none is found, none is due
module _ (now : ℕ) (all : TimeQueue) (short : length all.slots ≤ 64) where
  abbrev test : ℕ → Bool
  test t = has_come now (deadlines all t)

  none_below : (u : ℕ) → u < 1 → test u ≡ false
  none_below zero low = ap (has_come now) (numbered_zero None all.slots)
  none_below (suc u) low = absurd (omega arith)

  pub is_lowest : (o : Option ℕ) → o ≡ find test (range_with_len 1 64) → IfSome o (λ t. (u : ℕ) → u < t → has_come now (deadlines all u) ≡ false)
  is_lowest None e = _
  is_lowest (Some t) e = λ u low. (elim (cases_lt 0 u) [
    | inl some ↦ find_lowest test 1 64 t u (sym e) (omega arith) low
    | inr none ↦ none_below u (omega arith)
  ])

  pub is_due : (o : Option ℕ) → o ≡ find test (range_with_len 1 64) → IfSome o (λ t. has_come now (deadlines all t) ≡ true)
  is_due None e = _
  is_due (Some t) e = find_passes test (range_with_len 1 64) t (sym e)

  pub is_none : (o : Option ℕ) → o ≡ find test (range_with_len 1 64) → IfNone o ((u : ℕ) → has_come now (deadlines all u) ≡ false)
  is_none (Some t) e = _
  is_none None e = each
    where
      each : (u : ℕ) → test u ≡ false
      each zero = ap (has_come now) (numbered_zero None all.slots)
      each (suc u) =
          elim (cases_lt 64 (suc u)) [
            | inl past ↦ ap (has_come now) (numbered_past None all.slots (suc u) (omega arith))
            | inr within ↦ find_none test (range_with_len 1 64) (suc u) (sym e) (in_range 1 64 (suc u) (omega arith) (omega arith))
          ]
