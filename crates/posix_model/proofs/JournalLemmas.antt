-- Which entries of a journal are left and due.
use Rattle.std.proofs.Common.{◌≡◌, ◌∙◌, ap, sym, refl, subst, ℕ, zero, suc, ◌+◌, ◌-◌, ◌<◌, ◌≤◌, eqb, inl, inr, List, [], ◌∷◌, ◌++◌, length, drop, Bool, true, false, Option, Some, None, arith, filter, cond}
use Rattle.std.specs.Prelude.{◌==◌, ◌&&◌, ◌||◌, nat_lt, slice_get}
use Rattle.std.specs.List.{AllByRecursion, list_any, range_with_len}
use Rattle.std.proofs.lemmas.Bool.{cases_Bool, cases_eq, cond_both, cond-true, cond-false, or_parts, or_cases, or_left, or_right, eq-eqb, ne_eqb, eqb-true, ltb-false, leb-true, le-leb}
use Rattle.std.proofs.lemmas.Option.{slice_get_within, same_Some}
use Rattle.std.proofs.lemmas.List.{length_push, drop-drop}
use Rattle.thread_base.specs.Orders.{is_in}
use Rattle.thread_base.specs.declared.Place.{Place}
use Rattle.journal_text.specs.declared.entry.Entry.{Entry}
use Rattle.journal_text.specs.Contents.{empty, is_before_entry}
use Rattle.journal_text.specs.Valid.{IsJournal, MayFollow, EachFollows}
use Rattle.posix_model.specs.Journals.{Kind, OfSignal, OfTicks, OfInput, kind_of, is_kind, Taken, with_taken, numbers_from, left_of_kind, untaken, reached, entry_at, is_left_as, is_reached_as}
use Rattle.posix_model.specs.Runs.{Rules, Moment, due, due_by, is_waiting, Allowed}
use Rattle.posix_model.specs.declared.Settings.{Settings}
use Rattle.posix_model.specs.declared.Move.TheVariants.{Arrive}
use Rattle.posix_model.proofs.EndLemmas.{none_due, nothing_arrives as none_arrives}

-- ---- lists of numbers

-- each number is greater than those before it
abbrev pub Ascends : List ℕ → Type 0
Ascends [] = Unit {0}
Ascends (x ∷ xs) = AllByRecursion (λ u. x < u) xs × Ascends xs

all_weaken : (P Q : ℕ → Type 0) → ((u : ℕ) → P u → Q u) → (xs : List ℕ) → AllByRecursion P xs → AllByRecursion Q xs
all_weaken P Q f [] all = tt
all_weaken P Q f (x ∷ xs) all = (f x all.0, all_weaken P Q f xs all.1)

all_filter : (P : ℕ → Type 0) (test : ℕ → Bool) (xs : List ℕ) → AllByRecursion P xs → AllByRecursion P (filter test xs)
all_filter P test [] all = tt
all_filter P test (x ∷ xs) all =
    let rest = all_filter P test xs all.1 in
    cond_both (test x) (x ∷ filter test xs) (filter test xs) (λ ys. AllByRecursion P ys) (λ e. (all.0, rest)) (λ e. rest)

all_at : (P : ℕ → Type 0) (xs : List ℕ) (n : ℕ) → AllByRecursion P xs → is_in n xs ≡ true → P n
all_at P [] n all h = let e : false ≡ true = h in absurd (cc)
all_at P (x ∷ xs) n all h =
    elim (or_cases (n == x) (is_in n xs) h) [
      | inl same ↦ subst P (sym (eqb-true n x same)) all.0
      | inr rest ↦ all_at P xs n all.1 rest
    ]

pub ascend_filter : (test : ℕ → Bool) (xs : List ℕ) → Ascends xs → Ascends (filter test xs)
ascend_filter test [] asc = tt
ascend_filter test (x ∷ xs) asc =
    let rest = ascend_filter test xs asc.1 in
    cond_both (test x) (x ∷ filter test xs) (filter test xs) Ascends (λ e. (all_filter (λ u. x < u) test xs asc.0, rest)) (λ e. rest)

ascend_drop : (count : ℕ) (xs : List ℕ) → Ascends xs → Ascends (drop count xs)
ascend_drop zero xs asc = asc
ascend_drop (suc count) [] asc = tt
ascend_drop (suc count) (x ∷ xs) asc = ascend_drop count xs asc.1

range_above : (first count : ℕ) → AllByRecursion (λ u. first ≤ u) (range_with_len first count)
range_above first zero = tt
range_above first (suc count) =
    (omega arith, all_weaken (λ u. first + 1 ≤ u) (λ u. first ≤ u) (λ u h. omega arith) (range_with_len (first + 1) count) (range_above (first + 1) count))

ascend_range : (first count : ℕ) → Ascends (range_with_len first count)
ascend_range first zero = tt
ascend_range first (suc count) =
    (all_weaken (λ u. first + 1 ≤ u) (λ u. first < u) (λ u h. omega arith) (range_with_len (first + 1) count) (range_above (first + 1) count), ascend_range (first + 1) count)

-- no member is less than the first
pub first_least : (x : ℕ) (xs : List ℕ) (n : ℕ) → Ascends (x ∷ xs) → is_in n (x ∷ xs) ≡ true → x ≤ n
first_least x xs n asc h =
    all_at (λ u. x ≤ u) (x ∷ xs) n (omega arith, all_weaken (λ u. x < u) (λ u. x ≤ u) (λ u l. omega arith) xs asc.0) h

in_range : (first count n : ℕ) → first ≤ n → n < first + count → is_in n (range_with_len first count) ≡ true
in_range first zero n low high = absurd (omega arith)
in_range first (suc count) n low high =
    elim (cases_eq n first) [
      | inl same ↦ or_left (n == first) (is_in n (range_with_len (first + 1) count)) (eq-eqb n first same)
      | inr other ↦ or_right (n == first) (is_in n (range_with_len (first + 1) count)) (in_range (first + 1) count n (omega arith) (omega arith))
    ]

-- a member of a filtered list is one of the list, and passes
in_filter : (test : ℕ → Bool) (xs : List ℕ) (n : ℕ) → is_in n (filter test xs) ≡ true → (is_in n xs ≡ true) × (test n ≡ true)
in_filter test [] n h = let e : false ≡ true = h in absurd (cc)
in_filter test (x ∷ xs) n h =
    elim (cases_Bool (test x)) [
      | inl passes ↦
          elim (or_cases (n == x) (is_in n (filter test xs)) (sym (ap (is_in n) (cond-true (test x) (x ∷ filter test xs) (filter test xs) passes)) ∙ h)) [
            | inl same ↦ (or_left (n == x) (is_in n xs) same, ap test (eqb-true n x same) ∙ passes)
            | inr rest ↦ (let more = in_filter test xs n rest in (or_right (n == x) (is_in n xs) more.0, more.1))
          ]
      | inr fails ↦
          (let more = in_filter test xs n (sym (ap (is_in n) (cond-false (test x) (x ∷ filter test xs) (filter test xs) fails)) ∙ h) in
          (or_right (n == x) (is_in n xs) more.0, more.1))
    ]

in_filtered : (test : ℕ → Bool) (xs : List ℕ) (n : ℕ) → is_in n xs ≡ true → test n ≡ true → is_in n (filter test xs) ≡ true
in_filtered test [] n h passes = h
in_filtered test (x ∷ xs) n h passes =
    elim (or_cases (n == x) (is_in n xs) h) [
      | inl same ↦
          (let here : test x ≡ true = ap test (sym (eqb-true n x same)) ∙ passes in
          ap (is_in n) (cond-true (test x) (x ∷ filter test xs) (filter test xs) here) ∙ or_left (n == x) (is_in n (filter test xs)) same)
      | inr rest ↦
          (let more = in_filtered test xs n rest passes in
          cond_both (test x) (x ∷ filter test xs) (filter test xs) (λ ys. is_in n ys ≡ true) (λ e. or_right (n == x) (is_in n (filter test xs)) more) (λ e. more))
    ]

in_drop : (count : ℕ) (xs : List ℕ) (n : ℕ) → is_in n (drop count xs) ≡ true → is_in n xs ≡ true
in_drop zero xs n h = h
in_drop (suc count) [] n h = h
in_drop (suc count) (x ∷ xs) n h = or_right (n == x) (is_in n xs) (in_drop count xs n h)

-- a list with a member has a first one
pub first_member : (xs : List ℕ) (n : ℕ) → is_in n xs ≡ true → (m : ℕ) × (rest : List ℕ) × (xs ≡ m ∷ rest)
first_member [] n h = let e : false ≡ true = h in absurd (cc)
first_member (x ∷ xs) n h = (x, xs, refl)

eqb_comm : (a b : ℕ) → eqb a b ≡ eqb b a
eqb_comm a b =
    elim (cases_eq a b) [
      | inl same ↦ eq-eqb a b same ∙ sym (eq-eqb b a (sym same))
      | inr other ↦ ne_eqb a b other ∙ sym (ne_eqb b a (λ e. other (sym e)))
    ]

is_in_flip : (n : ℕ) (xs : List ℕ) → list_any (λ x. x == n) xs ≡ is_in n xs
is_in_flip n [] = refl
is_in_flip n (x ∷ xs) = λ i. eqb_comm x n i || is_in_flip n xs i

-- ---- kinds, and the entries of one

pub is_kind_same : (a b : Kind) → is_kind a b ≡ true → a ≡ b
is_kind_same (OfSignal s) (OfSignal r) h = ap OfSignal (eqb-true s r h)
is_kind_same OfTicks OfTicks h = refl
is_kind_same OfInput OfInput h = refl
is_kind_same a b h = let e : false ≡ true = h in absurd (cc)

pub is_kind_refl : (a : Kind) → is_kind a a ≡ true
is_kind_refl (OfSignal s) = eq-eqb s s refl
is_kind_refl OfTicks = refl
is_kind_refl OfInput = refl

numbers_above : (kind : Kind) (n : ℕ) (es : List Entry) → AllByRecursion (λ u. n ≤ u) (numbers_from kind n es)
numbers_above kind n [] = tt
numbers_above kind n (e ∷ es) =
    let others = numbers_from kind (n + 1) es in
    let rest = all_weaken (λ u. n + 1 ≤ u) (λ u. n ≤ u) (λ u h. omega arith) others (numbers_above kind (n + 1) es) in
    cond_both (is_kind kind (kind_of e.what)) (n ∷ others) others (λ xs. AllByRecursion (λ u. n ≤ u) xs) (λ is. (omega arith, rest)) (λ other. rest)

numbers_ascend : (kind : Kind) (n : ℕ) (es : List Entry) → Ascends (numbers_from kind n es)
numbers_ascend kind n [] = tt
numbers_ascend kind n (e ∷ es) =
    let others = numbers_from kind (n + 1) es in
    let rest = numbers_ascend kind (n + 1) es in
    let above = all_weaken (λ u. n + 1 ≤ u) (λ u. n < u) (λ u h. omega arith) others (numbers_above kind (n + 1) es) in
    cond_both (is_kind kind (kind_of e.what)) (n ∷ others) others Ascends (λ is. (above, rest)) (λ other. rest)

-- the entry of a number of a kind is of the kind
number_entry : (kind : Kind) (n : ℕ) (es : List Entry) (m : ℕ) → is_in m (numbers_from kind n es) ≡ true
    → (i : ℕ) × (e : Entry) × (m ≡ n + i) × (slice_get es i ≡ Some e) × (kind ≡ kind_of e.what)
number_entry kind n [] m h = let e : false ≡ true = h in absurd (cc)
number_entry kind n (e ∷ es) m h =
    let others = numbers_from kind (n + 1) es in
    elim (cases_Bool (is_kind kind (kind_of e.what))) [
      | inl is ↦
          elim (or_cases (m == n) (is_in m others) (sym (ap (is_in m) (cond-true (is_kind kind (kind_of e.what)) (n ∷ others) others is)) ∙ h)) [
            | inl same ↦ (let at = eqb-true m n same in (0, e, omega (arith, at), refl, is_kind_same kind (kind_of e.what) is))
            | inr rest ↦ next (number_entry kind (n + 1) es m rest)
          ]
      | inr other ↦ next (number_entry kind (n + 1) es m (sym (ap (is_in m) (cond-false (is_kind kind (kind_of e.what)) (n ∷ others) others other)) ∙ h))
    ]
  where
    next : (i : ℕ) × (x : Entry) × (m ≡ n + 1 + i) × (slice_get es i ≡ Some x) × (kind ≡ kind_of x.what)
        → (i : ℕ) × (x : Entry) × (m ≡ n + i) × (slice_get (e ∷ es) i ≡ Some x) × (kind ≡ kind_of x.what)
    next found = let at = found.2 in (suc found.0, found.1, omega (arith, at), found.3, found.4)

-- the entry of a number stands there in the list
entry_of_next : (es : List Entry) (i : ℕ) → entry_at es (1 + i) ≡ slice_get es i
entry_of_next es i =
    let back : 1 + i - 1 ≡ i = omega arith in
    cond-false (1 + i == 0) None (slice_get es (1 + i - 1)) (ne_eqb (1 + i) 0 (λ e. omega (arith, e))) ∙ ap (slice_get es) back

pub place_in : (es : List Entry) (n : ℕ) (e : Entry) → entry_at es n ≡ Some e → (i : ℕ) × (n ≡ 1 + i) × (slice_get es i ≡ Some e)
place_in es n e here =
    elim (cases_eq n 0) [
      | inl same ↦ absurd (let x : None ≡ Some e = sym (cond-true (n == 0) None (slice_get es (n - 1)) (eq-eqb n 0 same)) ∙ here in cc)
      | inr other ↦
          (let at : n ≡ 1 + (n - 1) = omega (arith, other) in
          (n - 1, at, sym (cond-false (n == 0) None (slice_get es (n - 1)) (ne_eqb n 0 other)) ∙ here))
    ]

-- a number of a kind that is left has an entry of the kind
pub left_entry : (es : List Entry) (taken : Taken) (kind : Kind) (m : ℕ) → is_in m (left_of_kind es taken kind) ≡ true
    → (e : Entry) × (entry_at es m ≡ Some e) × (kind ≡ kind_of e.what)
left_entry es taken kind m h =
    let found = number_entry kind 1 es m (in_drop (taken kind) (numbers_from kind 1 es) m h) in
    (found.1, ap (entry_at es) found.2 ∙ entry_of_next es found.0 ∙ found.3, found.4)

pub left_ascends : (es : List Entry) (taken : Taken) (kind : Kind) → Ascends (left_of_kind es taken kind)
left_ascends es taken kind = ascend_drop (taken kind) (numbers_from kind 1 es) (numbers_ascend kind 1 es)

-- an entry is left where its number is among those of its kind
left_as : (es : List Entry) (taken : Taken) (n : ℕ) (o : Option Entry) → is_left_as es taken n o ≡ true
    → (e : Entry) × (o ≡ Some e) × (is_in n (left_of_kind es taken (kind_of e.what)) ≡ true)
left_as es taken n None h = let e : false ≡ true = h in absurd (cc)
left_as es taken n (Some e) h = (e, refl, sym (is_in_flip n (left_of_kind es taken (kind_of e.what))) ∙ h)

is_left_of : (es : List Entry) (taken : Taken) (n : ℕ) (e : Entry) → entry_at es n ≡ Some e
    → is_in n (left_of_kind es taken (kind_of e.what)) ≡ true → is_left_as es taken n (entry_at es n) ≡ true
is_left_of es taken n e here h = ap (is_left_as es taken n) here ∙ is_in_flip n (left_of_kind es taken (kind_of e.what)) ∙ h

-- the numbers that are left
pub in_untaken : (es : List Entry) (taken : Taken) (n : ℕ) → is_in n (untaken es taken) ≡ true
    → (e : Entry) × (entry_at es n ≡ Some e) × (is_in n (left_of_kind es taken (kind_of e.what)) ≡ true)
unfolding untaken
in_untaken es taken n h =
    left_as es taken n (entry_at es n) (in_filter (λ m. is_left_as es taken m (entry_at es m)) (range_with_len 1 (length es)) n h).1

within_range : (es : List Entry) (n : ℕ) (e : Entry) → entry_at es n ≡ Some e → is_in n (range_with_len 1 (length es)) ≡ true
within_range es n e here =
    let found = place_in es n e here in
    let at = found.1 in
    let below = slice_get_within es found.0 e found.2 in
    in_range 1 (length es) n (omega (arith, at)) (omega (arith, at, below))

pub untaken_from : (es : List Entry) (taken : Taken) (n : ℕ) (e : Entry) → entry_at es n ≡ Some e
    → is_in n (left_of_kind es taken (kind_of e.what)) ≡ true → is_in n (untaken es taken) ≡ true
unfolding untaken
untaken_from es taken n e here h =
    in_filtered (λ m. is_left_as es taken m (entry_at es m)) (range_with_len 1 (length es)) n (within_range es n e here) (is_left_of es taken n e here h)

pub untaken_ascends : (es : List Entry) (taken : Taken) → Ascends (untaken es taken)
unfolding untaken
untaken_ascends es taken = ascend_filter (λ m. is_left_as es taken m (entry_at es m)) (range_with_len 1 (length es)) (ascend_range 1 (length es))

-- the numbers that are left and whose places are reached
reached_as : (instructions : ℕ) (o : Option Entry) → is_reached_as instructions o ≡ true → (e : Entry) × (o ≡ Some e) × (e.place.n ≤ instructions)
reached_as instructions None h = let e : false ≡ true = h in absurd (cc)
reached_as instructions (Some e) h = (e, refl, leb-true e.place.n instructions h)

pub in_reached : (es : List Entry) (taken : Taken) (instructions n : ℕ) → is_in n (reached es taken instructions) ≡ true
    → (is_in n (untaken es taken) ≡ true) × ((e : Entry) × (entry_at es n ≡ Some e) × (e.place.n ≤ instructions))
unfolding reached
in_reached es taken instructions n h =
    let found = in_filter (λ m. is_reached_as instructions (entry_at es m)) (untaken es taken) n h in
    (found.0, reached_as instructions (entry_at es n) found.1)

pub reached_from : (es : List Entry) (taken : Taken) (instructions n : ℕ) (e : Entry) → is_in n (untaken es taken) ≡ true
    → entry_at es n ≡ Some e → e.place.n ≤ instructions → is_in n (reached es taken instructions) ≡ true
unfolding reached
reached_from es taken instructions n e left here low =
    in_filtered (λ m. is_reached_as instructions (entry_at es m)) (untaken es taken) n left
    (ap (is_reached_as instructions) here ∙ le-leb e.place.n instructions low)

-- ---- the places of a journal never fall

pushed : (before : List Entry) (e : Entry) → slice_get (before ++ e ∷ []) (length before) ≡ Some e
pushed [] e = refl
pushed (x ∷ before) e = pushed before e

last_of : (before : List Entry) (e : Entry) → slice_get (before ++ e ∷ []) (length (before ++ e ∷ []) - 1) ≡ Some e
last_of before e =
    let long = length_push before e in
    let last : length (before ++ e ∷ []) - 1 ≡ length before = omega (arith, long) in
    ap (slice_get (before ++ e ∷ [])) last ∙ pushed before e

-- the place of an entry is not before that of the one before it
next_place : (before : List Entry) (x e : Entry) → MayFollow (before ++ x ∷ []) e → x.place.n ≤ e.place.n
next_place before x e may =
    let before_it = sym (ap (is_before_entry e.place) (last_of before x)) ∙ may.order in
    let order = or_parts (nat_lt e.place.n x.place.n) ((e.place.n == x.place.n) && nat_lt e.place.k x.place.k) before_it in
    ltb-false e.place.n x.place.n order.0

least_place : (before : List Entry) (x : Entry) (es : List Entry) (j : ℕ) (b : Entry) → EachFollows (before ++ x ∷ []) es → slice_get es j ≡ Some b → x.place.n ≤ b.place.n
least_place before x [] j b each is = let e : None ≡ Some b = is in absurd (cc)
least_place before x (e ∷ es) zero b each is = subst (λ y. x.place.n ≤ y.place.n) (same_Some e b is) (next_place before x e each.0)
least_place before x (e ∷ es) (suc j) b each is =
    let here = next_place before x e each.0 in
    let there = least_place (before ++ x ∷ []) e es j b each.1 is in
    omega (arith, here, there)

places_rise : (before es : List Entry) (i j : ℕ) (a b : Entry) → EachFollows before es → slice_get es i ≡ Some a → slice_get es j ≡ Some b → i ≤ j → a.place.n ≤ b.place.n
places_rise before [] i j a b each first second le = let e : None ≡ Some a = first in absurd (cc)
places_rise before (e ∷ es) zero zero a b each first second le =
    subst (λ x. a.place.n ≤ x.place.n) (sym (same_Some e a first) ∙ same_Some e b second) (omega arith)
places_rise before (e ∷ es) zero (suc j) a b each first second le =
    subst (λ x. x.place.n ≤ b.place.n) (same_Some e a first) (least_place before e es j b each.1 second)
places_rise before (e ∷ es) (suc i) zero a b each first second le = absurd (omega (arith, le))
places_rise before (e ∷ es) (suc i) (suc j) a b each first second le = places_rise (before ++ e ∷ []) es i j a b each.1 first second (omega (arith, le))

first_is_in : (xs : List ℕ) (first : ℕ) → slice_get xs 0 ≡ Some first → is_in first xs ≡ true
first_is_in [] first next = let e : None ≡ Some first = next in absurd (cc)
first_is_in (x ∷ xs) first next = or_left (first == x) (is_in first xs) (eq-eqb first x (sym (same_Some x first next)))

-- ---- what is due

-- what is due is left
in_due : (reached_ones left : List ℕ) (waiting : Bool) (n : ℕ) → (is_in n reached_ones ≡ true → is_in n left ≡ true)
    → is_in n (due_by reached_ones left waiting) ≡ true → is_in n left ≡ true
in_due [] [] true n sub h = h
in_due [] (x ∷ xs) true n sub h =
    elim (or_cases (n == x) false h) [
      | inl same ↦ or_left (n == x) (is_in n xs) same
      | inr none ↦ let e : false ≡ true = none in absurd (cc)
    ]
in_due [] left false n sub h = let e : false ≡ true = h in absurd (cc)
in_due (x ∷ xs) left waiting n sub h = sub h

-- a number that is left and not greater than one that is due is due
due_below : (reached_ones left : List ℕ) (waiting : Bool) (n m : ℕ) → Ascends left → is_in n (due_by reached_ones left waiting) ≡ true
    → m ≤ n → is_in m left ≡ true → (is_in n reached_ones ≡ true → is_in m reached_ones ≡ true) → is_in m (due_by reached_ones left waiting) ≡ true
due_below [] [] true n m asc h low here also = here
due_below [] (x ∷ xs) true n m asc h low here also =
    elim (or_cases (n == x) false h) [
      | inl same ↦
          (let at = eqb-true n x same in
          let least = first_least x xs m asc here in
          or_left (m == x) false (eq-eqb m x (omega (arith, at, least, low))))
      | inr none ↦ let e : false ≡ true = none in absurd (cc)
    ]
due_below [] left false n m asc h low here also = let e : false ≡ true = h in absurd (cc)
due_below (x ∷ xs) left waiting n m asc h low here also = also h

-- the first of a kind that is left, of the kind of an entry that is left
record IsFirstLeft (es : List Entry) (taken : Taken) (n : ℕ) : Type 0 where
  first : ℕ
  entry : Entry
  here : entry_at es first ≡ Some entry
  rest : List ℕ
  next : left_of_kind es taken (kind_of entry.what) ≡ first ∷ rest
  low : first ≤ n
  left : is_in first (untaken es taken) ≡ true

first_left : (es : List Entry) (taken : Taken) (kind : Kind) (n m : ℕ) (ms : List ℕ) → left_of_kind es taken kind ≡ m ∷ ms
    → is_in n (left_of_kind es taken kind) ≡ true → IsFirstLeft es taken n
first_left es taken kind n m ms all among =
    let one : is_in m (left_of_kind es taken kind) ≡ true = ap (is_in m) all ∙ or_left (m == m) (is_in m ms) (eq-eqb m m refl) in
    let its = left_entry es taken kind m one in
    let its_kind : kind_of its.0.what ≡ kind = sym its.2 in
    record {
      first = m;
      entry = its.0;
      here = its.1;
      rest = ms;
      next = ap (left_of_kind es taken) its_kind ∙ all;
      low = first_least m ms n (subst Ascends all (left_ascends es taken kind)) (sym (ap (is_in n) all) ∙ among);
      left = untaken_from es taken m its.0 its.1 (ap (λ k. is_in m (left_of_kind es taken k)) its_kind ∙ one);
    }

first_of_left : (es : List Entry) (taken : Taken) (n : ℕ) → is_in n (untaken es taken) ≡ true → IsFirstLeft es taken n
first_of_left es taken n left =
    let found = in_untaken es taken n left in
    let kind = kind_of found.0.what in
    let first = first_member (left_of_kind es taken kind) n found.2 in
    first_left es taken kind n first.0 first.1 first.2 found.2

-- what comes before an entry whose place is reached is reached too
pub reached_before : (es : List Entry) (taken : Taken) (instructions n m : ℕ) (e : Entry) → EachFollows [] es → is_in m (untaken es taken) ≡ true → entry_at es m ≡ Some e
    → m ≤ n → is_in n (reached es taken instructions) ≡ true → is_in m (reached es taken instructions) ≡ true
reached_before es taken instructions n m e each left here low h =
    let was = (in_reached es taken instructions n h).1 in
    let one = place_in es m e here in
    let other = place_in es n was.0 was.1 in
    let a = one.1 in
    let b = other.1 in
    let rise = places_rise [] es one.0 other.0 e was.0 each one.2 other.2 (omega (arith, low, a, b)) in
    let reach = was.2 in
    reached_from es taken instructions m e left here (omega (arith, rise, reach))

-- where an entry is due, the first of its kind that is left is due too
pub record IsNextDue (rules : Rules) (now : Moment) : Type 0 where
  pub first : ℕ
  pub entry : Entry
  pub here : entry_at rules.journal.entries first ≡ Some entry
  pub rest : List ℕ
  pub next : left_of_kind rules.journal.entries now.taken (kind_of entry.what) ≡ first ∷ rest
  pub due : is_in first (due rules now) ≡ true

pub next_due : (rules : Rules) (now : Moment) (n : ℕ) → IsJournal rules.journal → is_in n (due rules now) ≡ true → IsNextDue rules now
unfolding due
next_due rules now n journal h =
    let es = rules.journal.entries in
    let at_once = reached es now.taken now.instructions in
    let left = untaken es now.taken in
    let first = first_of_left es now.taken n (in_due at_once left (is_waiting now.state) n (λ r. (in_reached es now.taken now.instructions n r).0) h) in
    record {
      first = first.first;
      entry = first.entry;
      here = first.here;
      rest = first.rest;
      next = first.next;
      due =
          due_below at_once left (is_waiting now.state) n first.first (untaken_ascends es now.taken) h first.low first.left
          (reached_before es now.taken now.instructions n first.first first.entry journal.each first.left first.here first.low);
    }

-- where nothing is due while nothing else can happen, nothing is left
none_left : (reached_ones left : List ℕ) → due_by reached_ones left true ≡ [] → left ≡ []
none_left [] [] h = refl
none_left [] (x ∷ xs) h = let e : x ∷ [] ≡ [] = h in absurd (cc)
none_left (n ∷ ns) left h = let e : n ∷ ns ≡ [] = h in absurd (cc)

pub all_taken : (rules : Rules) (now : Moment) → is_waiting now.state ≡ true → due rules now ≡ [] → untaken rules.journal.entries now.taken ≡ []
unfolding due
all_taken rules now waiting none =
    let es = rules.journal.entries in
    none_left (reached es now.taken now.instructions) (untaken es now.taken)
    (ap (due_by (reached es now.taken now.instructions) (untaken es now.taken)) (sym waiting) ∙ none)

-- ---- fewer entries are left

module _ (p q : ℕ → Bool) (also : (n : ℕ) → q n ≡ true → p n ≡ true) where
  one_each : (a b : Bool) (x : ℕ) (xs ys : List ℕ) → (b ≡ true → a ≡ true) → length xs ≤ length ys
      → length (cond b (x ∷ xs) xs) ≤ length (cond a (x ∷ ys) ys)
  one_each true true x xs ys f le = omega (arith, le)
  one_each false true x xs ys f le = let e : false ≡ true = f refl in absurd (cc)
  one_each true false x xs ys f le = omega (arith, le)
  one_each false false x xs ys f le = le

  one_less : (a b : Bool) (x : ℕ) (xs ys : List ℕ) → (b ≡ true → a ≡ true) → length xs < length ys
      → length (cond b (x ∷ xs) xs) < length (cond a (x ∷ ys) ys)
  one_less true true x xs ys f le = omega (arith, le)
  one_less false true x xs ys f le = let e : false ≡ true = f refl in absurd (cc)
  one_less true false x xs ys f le = omega (arith, le)
  one_less false false x xs ys f le = le

  one_here : (a b : Bool) (x : ℕ) (xs ys : List ℕ) → a ≡ true → (b ≡ true → ⊥) → length xs ≤ length ys
      → length (cond b (x ∷ xs) xs) < length (cond a (x ∷ ys) ys)
  one_here true true x xs ys is none le = absurd (none refl)
  one_here true false x xs ys is none le = omega (arith, le)
  one_here false b x xs ys is none le = let e : false ≡ true = is in absurd (cc)

  not_more : (xs : List ℕ) → length (filter q xs) ≤ length (filter p xs)
  not_more [] = omega arith
  not_more (x ∷ xs) = one_each (p x) (q x) x (filter q xs) (filter p xs) (also x) (not_more xs)

  fewer : (xs : List ℕ) (x : ℕ) → is_in x xs ≡ true → p x ≡ true → (q x ≡ true → ⊥) → length (filter q xs) < length (filter p xs)
  fewer [] x h is none = let e : false ≡ true = h in absurd (cc)
  fewer (y ∷ ys) x h is none =
      elim (or_cases (x == y) (is_in x ys) h) [
        | inl same ↦
            (let at = eqb-true x y same in
            one_here (p y) (q y) y (filter q ys) (filter p ys) (ap p (sym at) ∙ is) (λ e. none (ap q at ∙ e)) (not_more ys))
        | inr rest ↦ one_less (p y) (q y) y (filter q ys) (filter p ys) (also y) (fewer ys x rest is none)
      ]

pub in_drop_less : (a b : ℕ) (xs : List ℕ) (n : ℕ) → a ≤ b → is_in n (drop b xs) ≡ true → is_in n (drop a xs) ≡ true
in_drop_less a b xs n le h =
    let more : a + (b - a) ≡ b = omega (arith, le) in
    in_drop (b - a) (drop a xs) n (ap (is_in n) (drop-drop (b - a) a xs) ∙ ap (λ c. is_in n (drop c xs)) more ∙ h)

pub more_taken : (taken : Taken) (kind k : Kind) (count : ℕ) → taken k ≤ with_taken taken kind count k
more_taken taken kind k count = cond_both (is_kind k kind) (taken k + count) (taken k) (λ n. taken k ≤ n) (λ e. omega arith) (λ e. omega arith)

-- what is left where more is taken was left before
still_left : (es : List Entry) (taken : Taken) (kind : Kind) (count n : ℕ) → is_left_as es (with_taken taken kind count) n (entry_at es n) ≡ true
    → is_left_as es taken n (entry_at es n) ≡ true
still_left es taken kind count n h =
    let found = left_as es (with_taken taken kind count) n (entry_at es n) h in
    let k = kind_of found.0.what in
    is_left_of es taken n found.0 found.1 (in_drop_less (taken k) (with_taken taken kind count k) (numbers_from k 1 es) n (more_taken taken kind k count) found.2)

-- the first of a list whose numbers ascend is not in it any more when some are taken off
first_gone : (xs : List ℕ) (first count : ℕ) → Ascends xs → slice_get xs 0 ≡ Some first → 1 ≤ count → is_in first (drop count xs) ≡ true → ⊥
first_gone [] first count asc next some h = let e : None ≡ Some first = next in cc
first_gone (x ∷ xs) first zero asc next some h = omega (arith, some)
first_gone (x ∷ xs) first (suc count) asc next some h =
    let same = same_Some x first next in
    let less = all_at (λ u. x < u) xs first asc.0 (in_drop count xs first h) in
    omega (arith, same, less)

not_left : (es : List Entry) (taken : Taken) (first count : ℕ) (e : Entry) → entry_at es first ≡ Some e
    → slice_get (left_of_kind es taken (kind_of e.what)) 0 ≡ Some first → 1 ≤ count
    → is_left_as es (with_taken taken (kind_of e.what) count) first (entry_at es first) ≡ true → ⊥
not_left es taken first count e here next some h =
    let kind = kind_of e.what in
    let after = with_taken taken kind count in
    let xs = left_of_kind es taken kind in
    let now : is_in first (left_of_kind es after kind) ≡ true = sym (is_in_flip first (left_of_kind es after kind)) ∙ (sym (ap (is_left_as es after first) here) ∙ h) in
    let so_many : after kind ≡ taken kind + count = cond-true (is_kind kind kind) (taken kind + count) (taken kind) (is_kind_refl kind) in
    let off : left_of_kind es after kind ≡ drop count xs = ap (λ c. drop c (numbers_from kind 1 es)) so_many ∙ sym (drop-drop count (taken kind) (numbers_from kind 1 es)) in
    first_gone xs first count (left_ascends es taken kind) next some (sym (ap (is_in first) off) ∙ now)

-- where entries are taken, fewer are left
pub fewer_left : (es : List Entry) (taken : Taken) (first count : ℕ) (e : Entry) → entry_at es first ≡ Some e
    → slice_get (left_of_kind es taken (kind_of e.what)) 0 ≡ Some first → 1 ≤ count
    → length (untaken es (with_taken taken (kind_of e.what) count)) < length (untaken es taken)
unfolding untaken
fewer_left es taken first count e here next some =
    let kind = kind_of e.what in
    let after = with_taken taken kind count in
    let among : is_in first (left_of_kind es taken kind) ≡ true = first_is_in (left_of_kind es taken kind) first next in
    fewer (λ n. is_left_as es taken n (entry_at es n)) (λ n. is_left_as es after n (entry_at es n)) (still_left es taken kind count)
    (range_with_len 1 (length es)) first (within_range es first e here)
    (is_left_of es taken first e here among) (not_left es taken first count e here next some)

-- no more are left than there are
pub filter_le : (test : ℕ → Bool) (xs : List ℕ) → length (filter test xs) ≤ length xs
filter_le test [] = omega arith
filter_le test (x ∷ xs) =
    let rest = filter_le test xs in
    cond_both (test x) (x ∷ filter test xs) (filter test xs) (λ ys. length ys ≤ length (x ∷ xs)) (λ e. omega (arith, rest)) (λ e. omega (arith, rest))

pub length_range : (first count : ℕ) → length (range_with_len first count) ≡ count
length_range first zero = refl
length_range first (suc count) = let rest = length_range (first + 1) count in omega (arith, rest)

pub untaken_le : (es : List Entry) (taken : Taken) → length (untaken es taken) ≤ length es
unfolding untaken
untaken_le es taken =
    let few = filter_le (λ n. is_left_as es taken n (entry_at es n)) (range_with_len 1 (length es)) in
    let all = length_range 1 (length es) in
    omega (arith, few, all)

-- ---- the journal without an entry

-- the journal without an entry is one
pub empty_is_journal : IsJournal empty
empty_is_journal = record { each = tt; whole = refl; bytes = tt; few = omega arith; short = omega arith }

-- of no entries, none is left
pub none_untaken : (taken : Taken) → untaken [] taken ≡ []
unfolding untaken
none_untaken taken = refl

pub none_reached : (taken : Taken) (instructions : ℕ) → reached [] taken instructions ≡ []
unfolding reached untaken
none_reached taken instructions = refl

-- of no entries, none is due
pub no_entry_due : (settings : Settings) (now : Moment) → due (record { settings = settings; journal = empty }) now ≡ []
no_entry_due settings now = none_due (record { settings = settings; journal = empty }) now (none_untaken now.taken)

-- of no entries, none arrives
pub nothing_arrives : (settings : Settings) (now : Moment) (first count : ℕ) (at : Place)
    → Allowed (record { settings = settings; journal = empty }) now (Arrive first count at) → ⊥
nothing_arrives settings now first count at may = none_arrives (record { settings = settings; journal = empty }) now first count at (no_entry_due settings now) may
