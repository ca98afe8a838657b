-- The destructors and the values of a table of keys after a change of one of them.
use Rattle.std.proofs.Common.{◌≡◌, ◌∙◌, refl, sym, ap, arith, ℕ, ◌+◌, ◌-◌, ◌<◌, ◌≤◌, zero, suc, false, cond, is_none, Option, Some, None, IsSome, IsNone, List, length, get_or, set, replicate, get_or-set_same, get_or-set_other, ltb}
use Rattle.std.proofs.lemmas.List.{get_or_past}
use Rattle.std.proofs.lemmas.Bool.Decides.{nat_tests}
use Rattle.std.specs.Option.{option_map}
use Rattle.thread_base.specs.Maps.{put}
use Rattle.thread_base.proofs.MapLemmas.{put_is, put_same, put_other, put_got}
use Rattle.thread_base.proofs.SearchLemmas.{find_passes, find_member, find_none, in_range, range_in}
use Rattle.thread_keys.specs.declared.key.Key.{Key}
use Rattle.std.specs.List.{range_with_len}
use Rattle.thread_keys.specs.KeyTable.{values_of, values_in, destructor_of, value_of, key_numbers, free_key, put_value, without_key, is_due, due_key}

abbrev destructor_in : Option Key → Option ℕ
destructor_in = option_map (λ key. key.destructor)

destructors_set : (keys : List (Option Key)) (k : ℕ) (o : Option Key) → k < length keys
    → destructor_of (set keys k o) ≡ put (destructor_of keys) k (destructor_in o)
unfolding destructor_of
destructors_set keys k o h =
    put_is (λ u. destructor_in (get_or keys u None)) (λ u. destructor_in (get_or (set keys k o) u None)) k (destructor_in o)
    (ap destructor_in (get_or-set_same keys k o None h))
    (λ u ne. ap destructor_in (get_or-set_other keys k u o None ne))

values_set : (keys : List (Option Key)) (k : ℕ) (o : Option Key) (t : ℕ) → k < length keys
    → value_of (set keys k o) t ≡ put (value_of keys t) k (values_in o t)
unfolding value_of
values_set keys k o t h =
    put_is (λ u. values_in (get_or keys u None) t) (λ u. values_in (get_or (set keys k o) u None) t) k (values_in o t)
    (ap (λ x. values_in x t) (get_or-set_same keys k o None h))
    (λ u ne. ap (λ x. values_in x t) (get_or-set_other keys k u o None ne))

-- a key was made or taken away
pub destructor_put : (keys : List (Option Key)) (k : ℕ) (key : Key) (d : ℕ) → k < length keys → key.destructor ≡ d
    → destructor_of (set keys k (Some key)) ≡ put (destructor_of keys) k (Some d)
destructor_put keys k key d h e = destructors_set keys k (Some key) h ∙ ap (λ x. put (destructor_of keys) k (Some x)) e

pub destructor_removed : (keys : List (Option Key)) (k : ℕ) → k < length keys
    → destructor_of (set keys k None) ≡ put (destructor_of keys) k None
destructor_removed keys k h = destructors_set keys k None h

pub values_removed : (keys : List (Option Key)) (k : ℕ) → k < length keys → value_of (set keys k None) ≡ without_key (value_of keys) k
values_removed keys k h = λ i t. values_set keys k None t h i

absent : (o : Option Key) (t : ℕ) → destructor_in o ≡ None → values_in o t ≡ 0
absent o t e = grind arith

-- what is no key has the value 0
pub value_absent : (keys : List (Option Key)) (t k : ℕ) → destructor_of keys k ≡ None → value_of keys t k ≡ 0
unfolding destructor_of value_of
value_absent keys t k e = absent (get_or keys k None) t e

pub put_kept : {A : Type 0} (m : ℕ → A) (k : ℕ) (x : A) → m k ≡ x → put m k x ≡ m
put_kept m k x e = ap (put m k) (sym e) ∙ put_got m k

-- a new key's values are 0, as those of what is no key
pub values_made : (keys : List (Option Key)) (k : ℕ) (key : Key) → k < length keys → destructor_of keys k ≡ None → values_of key ≡ (λ t. 0)
    → value_of (set keys k (Some key)) ≡ value_of keys
values_made keys k key h e zeros =
    λ i t. (values_set keys k (Some key) t h
    ∙ ap (λ m. put (value_of keys t) k (m t)) zeros
    ∙ put_kept (value_of keys t) k 0 (value_absent keys t k e)) i

pub value_made : (keys : List (Option Key)) (k : ℕ) (key : Key) (t : ℕ) → k < length keys → destructor_of keys k ≡ None → values_of key ≡ (λ t. 0)
    → value_of (set keys k (Some key)) t k ≡ 0
value_made keys k key t h e zeros = ap (λ m. m t k) (values_made keys k key h e zeros) ∙ value_absent keys t k e

there : (keys : List (Option Key)) (k t : ℕ) (key : Key) → get_or keys k None ≡ Some key → value_of keys t k ≡ values_of key t
unfolding value_of
there keys k t key e = ap (λ o. values_in o t) e

-- one value of a key was changed
pub value_changed : (keys : List (Option Key)) (k t v : ℕ) (key after : Key) → k < length keys → get_or keys k None ≡ Some key
    → values_of after ≡ put (values_of key) t v
    → value_of (set keys k (Some after)) ≡ put_value (value_of keys) t k v
value_changed keys k t v key after h is changed =
    let row : (u : ℕ) → value_of (set keys k (Some after)) u ≡ put (value_of keys u) k (put (values_of key) t v u) =
    λ u. values_set keys k (Some after) u h ∙ ap (λ m. put (value_of keys u) k (m u)) changed in
    put_is (value_of keys) (value_of (set keys k (Some after))) t (put (value_of keys t) k v)
    (row t ∙ ap (put (value_of keys t) k) (put_same (values_of key) t v))
    (λ u ne. row u ∙ put_kept (value_of keys u) k (put (values_of key) t v u) (there keys k u key is ∙ sym (put_other (values_of key) t v u ne)))

pub destructor_kept : (keys : List (Option Key)) (k : ℕ) (key after : Key) → k < length keys → get_or keys k None ≡ Some key
    → after.destructor ≡ key.destructor → destructor_of (set keys k (Some after)) ≡ destructor_of keys
unfolding destructor_of
destructor_kept keys k key after h is same =
    destructors_set keys k (Some after) h
    ∙ put_kept (λ u. destructor_in (get_or keys u None)) k (Some after.destructor) (ap destructor_in is ∙ ap Some (sym same))

blank : (n k : ℕ) → get_or (replicate n (let o : Option Key = None in o)) k None ≡ None
blank zero k = refl
blank (suc n) zero = refl
blank (suc n) (suc k) = blank n k

-- of blanks alone, nothing is a key
pub destructor_blank : (keys : List (Option Key)) → keys ≡ replicate 128 None → destructor_of keys ≡ (λ k. None)
unfolding destructor_of
destructor_blank keys e = λ i k. (ap (λ xs. destructor_in (get_or xs k None)) e ∙ ap destructor_in (blank 128 k)) i

pub values_blank : (keys : List (Option Key)) → keys ≡ replicate 128 None → value_of keys ≡ (λ t k. 0)
unfolding value_of
values_blank keys e = λ i t k. (ap (λ xs. values_in (get_or xs k None) t) e ∙ ap (λ o. values_in o t) (blank 128 k)) i

-- nothing is a key from the table's end on
pub destructor_past : (keys : List (Option Key)) (k : ℕ) → length keys ≤ k → destructor_of keys k ≡ None
unfolding destructor_of
destructor_past keys k h = ap destructor_in (get_or_past keys k None h)

-- the least free number is no key's
pub fresh_number : (map : ℕ → Option ℕ) (k : ℕ) → Some k ≡ free_key map → map k ≡ None
fresh_number map k e = let passes = find_passes (λ u. is_none (map u)) key_numbers k (sym e) in grind arith

pub within_limit : (map : ℕ → Option ℕ) (k : ℕ) → Some k ≡ free_key map → k < 128
unfolding key_numbers
within_limit map k e = (range_in 0 128 k (find_member (λ u. is_none (map u)) key_numbers k (sym e))).1

none_found : (map : ℕ → Option ℕ) (o : Option ℕ) → o ≡ free_key map → ((k : ℕ) → k < 128 → IsSome (map k)) → IsNone o
none_found map None e all = refl
none_found map (Some k) e all =
    let fresh = fresh_number map k e in
    let some = all k (within_limit map k e) in
    grind arith

-- none is found exactly where every number is a key's
pub full_numbers : (map : ℕ → Option ℕ) (o : Option ℕ) → o ≡ free_key map
    → (IsNone o → (k : ℕ) → k < 128 → IsSome (map k)) × (((k : ℕ) → k < 128 → IsSome (map k)) → IsNone o)
unfolding key_numbers
full_numbers map o e = (
  λ h k range. (
      let fails = find_none (λ u. is_none (map u)) key_numbers k (grind arith) (in_range 0 128 k (omega arith) (omega arith)) in
      grind arith),
  none_found map o e,
)

pub fresh_none : (map : ℕ → Option ℕ) (k : ℕ) → Some k ≡ free_key map → IsNone (map k)
fresh_none map k e = let fresh = fresh_number map k e in grind arith

-- what is due exists
pub due_exists : (map : ℕ → Option ℕ) (values : ℕ → ℕ → ℕ) (t first k : ℕ) → Some k ≡ due_key map values t first → map k ≡ None → ⊥
due_exists map values t first k found e =
    let passes = find_passes (λ u. is_due map values t u) (range_with_len first (128 - first)) k (sym found) in
    grind (arith, nat_tests)

not_due : (map : ℕ → Option ℕ) (values : ℕ → ℕ → ℕ) (t first : ℕ) (o : Option ℕ) → o ≡ due_key map values t first
    → ((k : ℕ) → first ≤ k → k < 128 → is_due map values t k ≡ false) → IsNone o
not_due map values t first None e none = refl
not_due map values t first (Some k) e none =
    let passes = find_passes (λ u. is_due map values t u) (range_with_len first (128 - first)) k (sym e) in
    let range = range_in first (128 - first) k (find_member (λ u. is_due map values t u) (range_with_len first (128 - first)) k (sym e)) in
    let fails = none k range.0 (omega (arith, range.0, range.1)) in
    grind arith

-- none is found exactly where none is due
pub due_none : (map : ℕ → Option ℕ) (values : ℕ → ℕ → ℕ) (t first : ℕ) (o : Option ℕ) → o ≡ due_key map values t first
    → (IsNone o → (k : ℕ) → first ≤ k → k < 128 → is_due map values t k ≡ false)
    × (((k : ℕ) → first ≤ k → k < 128 → is_due map values t k ≡ false) → IsNone o)
due_none map values t first o e = (
  λ h k low high. find_none (λ u. is_due map values t u) (range_with_len first (128 - first)) k (grind arith) (in_range first (128 - first) k low (omega (arith, low, high))),
  not_due map values t first o e,
)

-- the values of the keys below a number are 0, the others are as they were
unfoldable pub cleared_below : (ℕ → ℕ) → ℕ → ℕ → ℕ
cleared_below m n k = cond (ltb k n) 0 (m k)

cleared_more : (values : ℕ → ℕ → ℕ) (t n : ℕ)
    → put_value (put values t (cleared_below (values t) n)) t n 0 ≡ put values t (cleared_below (values t) (n + 1))
unfolding put cleared_below
cleared_more values t n = λ i u k. at u k i
  where
    at : (u k : ℕ) → put_value (put values t (cleared_below (values t) n)) t n 0 u k ≡ put values t (cleared_below (values t) (n + 1)) u k
    at u k = grind (arith, nat_tests)

pub cleared_first : (values : ℕ → ℕ → ℕ) (t : ℕ) → values ≡ put values t (cleared_below (values t) 0)
unfolding put cleared_below
cleared_first values t = λ i u k. at u k i
  where
    at : (u k : ℕ) → values u k ≡ put values t (cleared_below (values t) 0) u k
    at u k = grind (arith, nat_tests)

pub cleared_key : (keys : List (Option Key)) (values : ℕ → ℕ → ℕ) (t n : ℕ) (key after : Key) → n < length keys → get_or keys n None ≡ Some key
    → values_of after ≡ put (values_of key) t 0 → value_of keys ≡ put values t (cleared_below (values t) n)
    → value_of (set keys n (Some after)) ≡ put values t (cleared_below (values t) (n + 1))
cleared_key keys values t n key after h is changed e =
    value_changed keys n t 0 key after h is changed ∙ ap (λ m. put_value m t n 0) e ∙ cleared_more values t n

no_key : (keys : List (Option Key)) (t k : ℕ) → get_or keys k None ≡ None → value_of keys t k ≡ 0
unfolding value_of
no_key keys t k e = ap (λ o. values_in o t) e

value_kept : (m : ℕ → ℕ → ℕ) (t n : ℕ) → m t n ≡ 0 → m ≡ put_value m t n 0
value_kept m t n e = sym (ap (put m t) (put_kept (m t) n 0 e) ∙ put_got m t)

pub cleared_no_key : (keys : List (Option Key)) (values : ℕ → ℕ → ℕ) (t n : ℕ) → get_or keys n None ≡ None
    → value_of keys ≡ put values t (cleared_below (values t) n) → value_of keys ≡ put values t (cleared_below (values t) (n + 1))
cleared_no_key keys values t n is e =
    value_kept (value_of keys) t n (no_key keys t n is) ∙ ap (λ m. put_value m t n 0) e ∙ cleared_more values t n

value_past : (keys : List (Option Key)) (t k : ℕ) → length keys ≤ k → value_of keys t k ≡ 0
value_past keys t k h = value_absent keys t k (destructor_past keys k h)

-- where all keys of the table are below the number, every value is 0
pub cleared_all : (keys : List (Option Key)) (t n : ℕ) → length keys ≤ n
    → put (value_of keys) t (cleared_below (value_of keys t) n) ≡ put (value_of keys) t (λ k. 0)
unfolding put cleared_below
cleared_all keys t n h = λ i u k. at u k i
  where
    at : (u k : ℕ) → put (value_of keys) t (cleared_below (value_of keys t) n) u k ≡ put (value_of keys) t (λ k. 0) u k
    at u k = let past = value_past keys t k in grind (arith, nat_tests)
