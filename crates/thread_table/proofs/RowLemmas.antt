-- Counting the rows is counting the numbers whose row passes; what is known of the least free number.
use Rattle.std.proofs.Common.{◌≡◌, ◌∙◌, sym, refl, ap, arith, ℕ, Bool, true, false, cond, suc, is_none, Option, Some, None, IsSome, IsNone, IfSome, ◌+◌, List, [], ◌∷◌, length, get_or}
use Rattle.std.specs.List.{count_by, range_with_len}
use Rattle.std.proofs.lemmas.List.Sums.{sum_by-cons}
use Rattle.thread_base.specs.Maps.{numbered}
use Rattle.thread_base.specs.Numbers.{IsTid}
use Rattle.thread_base.specs.Priority.{tids}
use Rattle.thread_base.proofs.SearchLemmas.{find_passes, find_member, find_none, tids_in, in_tids}
use Rattle.thread_table.specs.declared.Row.{Row}
use Rattle.thread_table.specs.Rows.{free_number}

counted : {A : Type 0} (test : A → Bool) (none : A) (map : ℕ → A) (xs : List A) (n : ℕ) → ((i : ℕ) → map (n + i) ≡ get_or xs i none)
    → count_by test xs ≡ count_by (λ t. test (map t)) (range_with_len n (length xs))
counted test none map [] n h = refl
counted test none map (x ∷ xs) n h =
    let here : map n ≡ x = ap map (let e : n ≡ n + 0 = omega arith in e) ∙ h 0 in
    let rest = counted test none map xs (n + 1) (λ i. ap map (let e : n + 1 + i ≡ n + suc i = omega arith in e) ∙ h (suc i)) in
    sum_by-cons (λ y. cond (test y) 1 0) x xs
    ∙ (λ i. cond (test (sym here i)) 1 0 + rest i)
    ∙ sym (sum_by-cons (λ t. cond (test (map t)) 1 0) n (range_with_len (n + 1) (length xs)))

pub counted_tids : {A : Type 0} (test : A → Bool) (none : A) (xs : List A) → length xs ≡ 64
    → count_by test xs ≡ count_by (λ t. test (numbered none xs t)) tids
unfolding tids numbered
counted_tids test none xs all =
    counted test none (λ t. get_or (none ∷ xs) t none) xs 1 (λ i. ap (λ t. get_or (none ∷ xs) t none) (let e : 1 + i ≡ suc i = omega arith in e))
    ∙ ap (λ n. count_by (λ t. test (get_or (none ∷ xs) t none)) (range_with_len 1 n)) all

some_of : {A : Type 0} (o : Option A) → is_none o ≡ false → IsSome o
some_of None h = absurd (let e : true ≡ false = h in cc)
some_of (Some x) h = refl

none_of : {A : Type 0} (o : Option A) → is_none o ≡ true → IsNone o
none_of None h = refl
none_of (Some x) h = absurd (let e : false ≡ true = h in cc)

nothing : {A : Type 0} (o : Option A) → IsNone o → o ≡ None
nothing None h = refl
nothing (Some x) h = absurd (let e : true ≡ false = h in cc)

-- the least free number is free
pub fresh_number : (map : ℕ → Option Row) (o : Option ℕ) → o ≡ free_number map → IfSome o (λ t. IsNone (map t))
fresh_number map None e = tt
fresh_number map (Some t) e = none_of (map t) (find_passes (λ u. is_none (map u)) tids t (sym e))

found_none : (map : ℕ → Option Row) (o : Option ℕ) → o ≡ free_number map → ((t : ℕ) → IsTid t → IsSome (map t)) → IsNone o
found_none map None e all = refl
found_none map (Some t) e all =
    let free = fresh_number map (Some t) e in
    let range = tids_in t (find_member (λ u. is_none (map u)) tids t (sym e)) in
    absurd (let b : true ≡ false = sym (all t range) ∙ free in cc)

-- none is found exactly where every number has a row
pub full_numbers : (map : ℕ → Option Row) (o : Option ℕ) → o ≡ free_number map
    → (IsNone o → (t : ℕ) → IsTid t → IsSome (map t)) × (((t : ℕ) → IsTid t → IsSome (map t)) → IsNone o)
full_numbers map o e = (
  λ h t range. some_of (map t) (find_none (λ u. is_none (map u)) tids t (sym e ∙ nothing o h) (in_tids t range.0 range.1)),
  found_none map o e,
)
