-- The numbers of the entries of a kind: those of a front of the journal, and which comes after which.
use Rattle.std.proofs.Common.{◌≡◌, ◌∙◌, refl, sym, ap, subst, arith, inl, inr, ℕ, zero, suc, ◌+◌, ◌<◌, ◌≤◌, Bool, true, false, cond, List, [], ◌∷◌, ◌++◌, length, take, drop, filter, find, Option, Some, None}
use Rattle.std.specs.Prelude.{◌==◌, slice_get}
use Rattle.std.specs.List.{AllByRecursion, range_with_len}
use Rattle.std.proofs.lemmas.Bool.{cases_Bool, cases_eq, cond-true, cond-false, or_from, or_left, or_right, eq-eqb, ne_eqb}
use Rattle.std.proofs.lemmas.Option.{same_Some}
use Rattle.thread_base.specs.Orders.{is_in}
use Rattle.journal_text.specs.declared.entry.Entry.{Entry}
use Rattle.posix_model.specs.Journals.{Kind, kind_of, is_kind, numbers_from}

-- ---- lists

-- the first after some were left out
pub get_drop : {A : Type 0} (n i : ℕ) (xs : List A) → slice_get (drop n xs) i ≡ slice_get xs (n + i)
get_drop zero i xs = ap (slice_get xs) (let e : i ≡ zero + i = omega arith in e)
get_drop (suc n) i [] = refl
get_drop (suc n) i (x ∷ xs) = get_drop n i xs ∙ ap (slice_get (x ∷ xs)) (let e : suc (n + i) ≡ suc n + i = omega arith in e)

pub get_in : (xs : List ℕ) (i x : ℕ) → slice_get xs i ≡ Some x → is_in x xs ≡ true
get_in [] i x h = let e : None ≡ Some x = h in absurd (cc)
get_in (y ∷ ys) zero x h = or_left (x == y) (is_in x ys) (eq-eqb x y (sym (same_Some y x h)))
get_in (y ∷ ys) (suc i) x h = or_right (x == y) (is_in x ys) (get_in ys i x h)

-- what holds of each of the first holds of the front
pub all_take : (P : ℕ → Type 0) (count : ℕ) (xs : List ℕ) → ((i x : ℕ) → i < count → slice_get xs i ≡ Some x → P x) → AllByRecursion P (take count xs)
all_take P zero xs h = tt
all_take P (suc count) [] h = tt
all_take P (suc count) (x ∷ xs) h =
    (h 0 x (omega arith) refl, all_take P count xs (λ i y low is. h (suc i) y (omega (arith, low)) is))

pub get_some : {A : Type 0} (xs : List A) (i : ℕ) → i < length xs → (x : A) × (slice_get xs i ≡ Some x)
get_some [] i h = absurd (omega (arith, h))
get_some (x ∷ xs) zero h = (x, refl)
get_some (x ∷ xs) (suc i) h = get_some xs i (omega (arith, h))

-- the first number of a range that passes a test
pub find_at : (test : ℕ → Bool) (first count x : ℕ) → test x ≡ true → ((u : ℕ) → first ≤ u → u < x → test u ≡ false) → first ≤ x → x < first + count
    → find test (range_with_len first count) ≡ Some x
find_at test first zero x is before low high = absurd (omega (arith, low, high))
find_at test first (suc count) x is before low high =
    elim (cases_eq first x) [
      | inl same ↦ ap (λ b. cond b (Some first) (find test (range_with_len (first + 1) count))) (ap test same ∙ is) ∙ ap Some same
      | inr other ↦
          ap (λ b. cond b (Some first) (find test (range_with_len (first + 1) count))) (before first (omega arith) (omega (arith, low, other)))
          ∙ find_at test (first + 1) count x is (λ u l h. before u (omega (arith, l)) h) (omega (arith, low, other)) (omega (arith, high))
    ]

-- a test that fails first and passes then leaves the rest of a range
pub filter_range : (test : ℕ → Bool) (first few count : ℕ) → ((n : ℕ) → first ≤ n → n < first + few → test n ≡ false)
    → ((n : ℕ) → first + few ≤ n → n < first + few + count → test n ≡ true) → filter test (range_with_len first (few + count)) ≡ range_with_len (first + few) count
filter_range test first zero zero fails passes = refl
filter_range test first zero (suc count) fails passes =
    let here : filter test (range_with_len first (suc count)) ≡ first ∷ filter test (range_with_len (first + 1) count) =
    ap (λ b. cond b (first ∷ filter test (range_with_len (first + 1) count)) (filter test (range_with_len (first + 1) count))) (passes first (omega arith) (omega arith)) in
    let rest = filter_range test (first + 1) zero count (λ n l h. absurd (omega (arith, l, h))) (λ n l h. passes n (omega (arith, l)) (omega (arith, h))) in
    ap (λ c. filter test (range_with_len first c)) (let e : zero + suc count ≡ suc count = omega arith in e)
    ∙ here
    ∙ ap (λ xs. first ∷ xs) (ap (λ c. filter test (range_with_len (first + 1) c)) (let e : count ≡ zero + count = omega arith in e) ∙ rest ∙ ap (λ f. range_with_len f count) (let e : first + 1 + zero ≡ first + 1 = omega arith in e))
    ∙ ap (λ f. range_with_len f (suc count)) (let e : first ≡ first + zero = omega arith in e)
filter_range test first (suc few) count fails passes =
    let rest = filter_range test (first + 1) few count (λ n l h. fails n (omega (arith, l)) (omega (arith, h))) (λ n l h. passes n (omega (arith, l)) (omega (arith, h))) in
    ap (λ c. filter test (range_with_len first c)) (let e : suc few + count ≡ suc (few + count) = omega arith in e)
    ∙ ap (λ b. cond b (first ∷ filter test (range_with_len (first + 1) (few + count))) (filter test (range_with_len (first + 1) (few + count)))) (fails first (omega arith) (omega arith))
    ∙ rest
    ∙ ap (λ f. range_with_len f count) (let e : first + 1 + few ≡ first + suc few = omega arith in e)

-- ---- the numbers of a kind

-- an entry, if there is one, is of a kind
abbrev pub of_kind : Kind → Option Entry → Bool
of_kind kind None = false
of_kind kind (Some e) = is_kind kind (kind_of e.what)

module _ (kind : Kind) where
  -- the numbers of a list by its first entry
  step : (n : ℕ) (e : Entry) (es : List Entry) (b : Bool) → is_kind kind (kind_of e.what) ≡ b
      → numbers_from kind n (e ∷ es) ≡ cond b (n ∷ numbers_from kind (n + 1) es) (numbers_from kind (n + 1) es)
  step n e es b h = ap (λ x. cond x (n ∷ numbers_from kind (n + 1) es) (numbers_from kind (n + 1) es)) h

  -- those of a front, and those of the rest
  pub numbers_split : (n few : ℕ) (es : List Entry) → numbers_from kind n es ≡ numbers_from kind n (take few es) ++ numbers_from kind (n + few) (drop few es)
  numbers_split n zero es = ap (λ m. numbers_from kind m es) (let e : n ≡ n + zero = omega arith in e)
  numbers_split n (suc few) [] = refl
  numbers_split n (suc few) (e ∷ es) =
      let rest = numbers_split (n + 1) few es ∙ ap (λ m. numbers_from kind (n + 1) (take few es) ++ numbers_from kind m (drop few es)) (let e : n + 1 + few ≡ n + suc few = omega arith in e) in
      elim (cases_Bool (is_kind kind (kind_of e.what))) [
        | inl is ↦ step n e es true is ∙ ap (λ xs. n ∷ xs) rest ∙ sym (ap (λ xs. xs ++ numbers_from kind (n + suc few) (drop few es)) (step n e (take few es) true is))
        | inr un ↦ step n e es false un ∙ rest ∙ sym (ap (λ xs. xs ++ numbers_from kind (n + suc few) (drop few es)) (step n e (take few es) false un))
      ]

  -- how many there are in a front with an entry more
  pub one_longer : (n few : ℕ) (es : List Entry) (entry : Entry) → slice_get es few ≡ Some entry
      → length (numbers_from kind n (take (few + 1) es)) ≡ length (numbers_from kind n (take few es)) + cond (is_kind kind (kind_of entry.what)) 1 0
  one_longer n few [] entry h = let e : None ≡ Some entry = h in absurd (cc)
  one_longer n zero (e ∷ es) entry h =
      let same = same_Some e entry h in
      elim (cases_Bool (is_kind kind (kind_of e.what))) [
        | inl is ↦
            (let more : length (numbers_from kind n (e ∷ [])) ≡ 1 = ap length (step n e [] true is) in
            let one : ◌≡◌ {A = ℕ} (cond (is_kind kind (kind_of entry.what)) 1 0) 1 = cond-true (is_kind kind (kind_of entry.what)) 1 0 (ap (λ x. is_kind kind (kind_of x.what)) (sym same) ∙ is) in
            omega (arith, more, one))
        | inr un ↦
            (let more : length (numbers_from kind n (e ∷ [])) ≡ 0 = ap length (step n e [] false un) in
            let none : ◌≡◌ {A = ℕ} (cond (is_kind kind (kind_of entry.what)) 1 0) 0 = cond-false (is_kind kind (kind_of entry.what)) 1 0 (ap (λ x. is_kind kind (kind_of x.what)) (sym same) ∙ un) in
            omega (arith, more, none))
      ]
  one_longer n (suc few) (e ∷ es) entry h =
      let rest = one_longer (n + 1) few es entry h in
      let front : take (suc few + 1) (e ∷ es) ≡ e ∷ take (few + 1) es = ap (λ c. take c (e ∷ es)) (let e : suc few + 1 ≡ suc (few + 1) = omega arith in e) in
      elim (cases_Bool (is_kind kind (kind_of e.what))) [
        | inl is ↦
            (let a = ap (λ xs. length (numbers_from kind n xs)) front ∙ ap length (step n e (take (few + 1) es) true is) in
            let b = ap length (step n e (take few es) true is) in
            omega (arith, a, b, rest))
        | inr un ↦
            (let a = ap (λ xs. length (numbers_from kind n xs)) front ∙ ap length (step n e (take (few + 1) es) false un) in
            let b = ap length (step n e (take few es) false un) in
            omega (arith, a, b, rest))
      ]

  -- the number of the entry behind a front stands behind those of the front
  pub new_number : (n few : ℕ) (es : List Entry) (entry : Entry) → slice_get es few ≡ Some entry → is_kind kind (kind_of entry.what) ≡ true
      → slice_get (numbers_from kind n es) (length (numbers_from kind n (take few es))) ≡ Some (n + few)
  new_number n few [] entry h k = let e : None ≡ Some entry = h in absurd (cc)
  new_number n zero (e ∷ es) entry h k =
      let is = ap (λ x. is_kind kind (kind_of x.what)) (same_Some e entry h) ∙ k in
      ap (λ xs. slice_get xs 0) (step n e es true is) ∙ ap Some (let e : n ≡ n + zero = omega arith in e)
  new_number n (suc few) (e ∷ es) entry h k =
      let rest = new_number (n + 1) few es entry h k ∙ ap Some (let e : n + 1 + few ≡ n + suc few = omega arith in e) in
      elim (cases_Bool (is_kind kind (kind_of e.what))) [
        | inl is ↦
            ap (λ xs. slice_get xs (length (numbers_from kind n (e ∷ take few es)))) (step n e es true is)
            ∙ ap (λ xs. slice_get (n ∷ numbers_from kind (n + 1) es) (length xs)) (step n e (take few es) true is)
            ∙ rest
        | inr un ↦
            ap (λ xs. slice_get xs (length (numbers_from kind n (e ∷ take few es)))) (step n e es false un)
            ∙ ap (λ xs. slice_get (numbers_from kind (n + 1) es) (length xs)) (step n e (take few es) false un)
            ∙ rest
      ]

  -- those of a front are low
  pub early : (n few : ℕ) (es : List Entry) (i x : ℕ) → i < length (numbers_from kind n (take few es)) → slice_get (numbers_from kind n es) i ≡ Some x → x < n + few
  early n zero es i x low h = absurd (omega (arith, low))
  early n (suc few) [] i x low h = absurd (omega (arith, low))
  early n (suc few) (e ∷ es) i x low h =
      elim (cases_Bool (is_kind kind (kind_of e.what))) [
        | inl is ↦
            here (λ j. early (n + 1) few es j x) i (subst (λ xs. i < length xs) (step n e (take few es) true is) low) (sym (ap (λ xs. slice_get xs i) (step n e es true is)) ∙ h)
        | inr un ↦
            (let rest = early (n + 1) few es i x (subst (λ xs. i < length xs) (step n e (take few es) false un) low) (sym (ap (λ xs. slice_get xs i) (step n e es false un)) ∙ h) in
            omega (arith, rest))
      ]
    where
      here : ((j : ℕ) → j < length (numbers_from kind (n + 1) (take few es)) → slice_get (numbers_from kind (n + 1) es) j ≡ Some x → x < n + 1 + few)
          → (j : ℕ) → j < length (n ∷ numbers_from kind (n + 1) (take few es)) → slice_get (n ∷ numbers_from kind (n + 1) es) j ≡ Some x → x < n + suc few
      here more zero l is = let same = same_Some n x is in omega (arith, same)
      here more (suc j) l is = let rest = more j (omega (arith, l)) is in omega (arith, rest)

  -- none is below the first
  pub not_below : (n : ℕ) (es : List Entry) (m : ℕ) → m < n → is_in m (numbers_from kind n es) ≡ false
  not_below n [] m low = refl
  not_below n (e ∷ es) m low =
      let rest = not_below (n + 1) es m (omega (arith, low)) in
      elim (cases_Bool (is_kind kind (kind_of e.what))) [
        | inl is ↦
            ap (is_in m) (step n e es true is)
            ∙ or_from (m == n) (is_in m (numbers_from kind (n + 1) es)) (ne_eqb m n (λ same. omega (arith, same, low))) rest
        | inr un ↦ ap (is_in m) (step n e es false un) ∙ rest
      ]

  -- an entry of the kind has its number there
  pub number_in : (n : ℕ) (es : List Entry) (j : ℕ) (entry : Entry) → slice_get es j ≡ Some entry → is_kind kind (kind_of entry.what) ≡ true → is_in (n + j) (numbers_from kind n es) ≡ true
  number_in n [] j entry h k = let e : None ≡ Some entry = h in absurd (cc)
  number_in n (e ∷ es) zero entry h k =
      let is = ap (λ x. is_kind kind (kind_of x.what)) (same_Some e entry h) ∙ k in
      ap (is_in (n + zero)) (step n e es true is) ∙ or_left (n + zero == n) (is_in (n + zero) (numbers_from kind (n + 1) es)) (eq-eqb (n + zero) n (omega arith))
  number_in n (e ∷ es) (suc j) entry h k =
      let rest = ap (λ m. is_in m (numbers_from kind (n + 1) es)) (let e : n + suc j ≡ n + 1 + j = omega arith in e) ∙ number_in (n + 1) es j entry h k in
      elim (cases_Bool (is_kind kind (kind_of e.what))) [
        | inl is ↦ ap (is_in (n + suc j)) (step n e es true is) ∙ or_right (n + suc j == n) (is_in (n + suc j) (numbers_from kind (n + 1) es)) rest
        | inr un ↦ ap (is_in (n + suc j)) (step n e es false un) ∙ rest
      ]

  -- the first number is that of the first entry of the kind
  record IsHead (n : ℕ) (es : List Entry) (g : ℕ) : Type 0 where
    low : n ≤ g
    here : (j : ℕ) → n + j ≡ g → of_kind kind (slice_get es j) ≡ true
    before : (j : ℕ) → n + j < g → of_kind kind (slice_get es j) ≡ false

  head_is : (n : ℕ) (es : List Entry) (g : ℕ) → slice_get (numbers_from kind n es) 0 ≡ Some g → IsHead n es g
  head_is n [] g h = let e : None ≡ Some g = h in absurd (cc)
  head_is n (e ∷ es) g h =
      elim (cases_Bool (is_kind kind (kind_of e.what))) [
        | inl is ↦
            (let same = same_Some n g (sym (ap (λ xs. slice_get xs 0) (step n e es true is)) ∙ h) in
            record {
              low = omega (arith, same);
              here = λ j at. ap (λ i. of_kind kind (slice_get (e ∷ es) i)) (let x : j ≡ 0 = omega (arith, same, at) in x) ∙ is;
              before = λ j b. absurd (omega (arith, same, b));
            })
        | inr un ↦
            (let rest = head_is (n + 1) es g (sym (ap (λ xs. slice_get xs 0) (step n e es false un)) ∙ h) in
            let low = rest.low in
            record { low = omega (arith, low); here = there rest; before = none un rest })
      ]
    where
      there : IsHead (n + 1) es g → (j : ℕ) → n + j ≡ g → of_kind kind (slice_get (e ∷ es) j) ≡ true
      there rest zero at = let low = rest.low in absurd (omega (arith, low, at))
      there rest (suc j) at = rest.here j (omega (arith, at))

      none : is_kind kind (kind_of e.what) ≡ false → IsHead (n + 1) es g → (j : ℕ) → n + j < g → of_kind kind (slice_get (e ∷ es) j) ≡ false
      none un rest zero b = un
      none un rest (suc j) b = rest.before j (omega (arith, b))

  -- between a number and the next there is no entry of the kind
  pub record AreNext (n : ℕ) (es : List Entry) (f g : ℕ) : Type 0 where
    pub low : n ≤ f
    pub rise : f < g
    pub here : (j : ℕ) → n + j ≡ g → of_kind kind (slice_get es j) ≡ true
    pub between : (j : ℕ) → f < n + j → n + j < g → of_kind kind (slice_get es j) ≡ false

  pub are_next : (n : ℕ) (es : List Entry) (i f g : ℕ) → slice_get (numbers_from kind n es) i ≡ Some f → slice_get (numbers_from kind n es) (i + 1) ≡ Some g → AreNext n es f g
  are_next n [] i f g h k = let e : None ≡ Some f = h in absurd (cc)
  are_next n (e ∷ es) i f g h k =
      elim (cases_Bool (is_kind kind (kind_of e.what))) [
        | inl is ↦ first (λ j. are_next (n + 1) es j f g) i (sym (ap (λ xs. slice_get xs i) (step n e es true is)) ∙ h) (sym (ap (λ xs. slice_get xs (i + 1)) (step n e es true is)) ∙ k)
        | inr un ↦ later (are_next (n + 1) es i f g (sym (ap (λ xs. slice_get xs i) (step n e es false un)) ∙ h) (sym (ap (λ xs. slice_get xs (i + 1)) (step n e es false un)) ∙ k))
      ]
    where
      later_here : AreNext (n + 1) es f g → (j : ℕ) → n + j ≡ g → of_kind kind (slice_get (e ∷ es) j) ≡ true
      later_here rest zero at = let low = rest.low in let rise = rest.rise in absurd (omega (arith, low, rise, at))
      later_here rest (suc j) at = rest.here j (omega (arith, at))

      later_between : AreNext (n + 1) es f g → (j : ℕ) → f < n + j → n + j < g → of_kind kind (slice_get (e ∷ es) j) ≡ false
      later_between rest zero a b = let low = rest.low in absurd (omega (arith, low, a))
      later_between rest (suc j) a b = rest.between j (omega (arith, a)) (omega (arith, b))

      later : AreNext (n + 1) es f g → AreNext n (e ∷ es) f g
      later rest = let low = rest.low in record { low = omega (arith, low); rise = rest.rise; here = later_here rest; between = later_between rest }

      head_here : IsHead (n + 1) es g → (j : ℕ) → n + j ≡ g → of_kind kind (slice_get (e ∷ es) j) ≡ true
      head_here rest zero at = let low = rest.low in absurd (omega (arith, low, at))
      head_here rest (suc j) at = rest.here j (omega (arith, at))

      head_between : n ≡ f → IsHead (n + 1) es g → (j : ℕ) → f < n + j → n + j < g → of_kind kind (slice_get (e ∷ es) j) ≡ false
      head_between same rest zero a b = absurd (omega (arith, same, a))
      head_between same rest (suc j) a b = rest.before j (omega (arith, b))

      first : ((j : ℕ) → slice_get (numbers_from kind (n + 1) es) j ≡ Some f → slice_get (numbers_from kind (n + 1) es) (j + 1) ≡ Some g → AreNext (n + 1) es f g)
          → (j : ℕ) → slice_get (n ∷ numbers_from kind (n + 1) es) j ≡ Some f → slice_get (n ∷ numbers_from kind (n + 1) es) (j + 1) ≡ Some g → AreNext n (e ∷ es) f g
      first more zero a b =
          let same = same_Some n f a in
          let rest = head_is (n + 1) es g b in
          let low = rest.low in
          record { low = omega (arith, same); rise = omega (arith, same, low); here = head_here rest; between = head_between same rest }
      first more (suc j) a b =
          later (more j a (ap (slice_get (n ∷ numbers_from kind (n + 1) es)) (let e : suc (j + 1) ≡ suc j + 1 = omega arith in e) ∙ b))
