-- What the choices mean: who gets a signal takes it, what is delivered pends, and nothing is exactly where nobody takes
-- anything.
use Rattle.std.proofs.Common.{◌≡◌, ◌∙◌, refl, sym, ap, arith, inl, inr, ℕ, ◌<◌, eqb, Bool, true, false, ◌&&◌, ◌||◌, List, [], ◌∷◌, filter, find, Option, Some, None, IsNone, IfSome, is_some, subst}
use Rattle.std.specs.Prelude.{nat_lt}
use Rattle.std.specs.List.{range_with_len}
use Rattle.std.specs.Option.{option_or, option_map}
use Rattle.std.proofs.lemmas.Bool.{cases_Bool, eq-eqb, eqb-true}
use Rattle.std.proofs.lemmas.Bool.Decides.{nat_tests}
use Rattle.thread_base.specs.Numbers.{IsTid, IsInScope}
use Rattle.thread_base.specs.Orders.{is_in}
use Rattle.thread_base.specs.Priority.{tids, first_greatest}
use Rattle.thread_base.proofs.PriorityLemmas.{first_some, first_in}
use Rattle.thread_base.proofs.SearchLemmas.{find_passes, find_none, in_tids, tids_in, in_range}
use Rattle.thread_base.specs.Deliveries.{signals, takes, waits_for, waiters, recipient, own_signal, first_answer, own_delivery, pending_recipient, process_delivery, next_delivery, IsDue, IsSettled}
use Rattle.thread_signals.proofs.WordLemmas.{scope_range}

nothing : {A : Type 0} (o : Option A) → IsNone o → o ≡ None
nothing None h = refl
nothing (Some x) h = absurd (let e : true ≡ false = h in cc)

-- there is neither of two
neither : {A : Type 0} (o p : Option A) → IsNone (option_or o p) → IsNone o × IsNone p
neither None p h = (refl, h)
neither (Some x) p h = absurd (let e : true ≡ false = h in cc)

both_none : {A : Type 0} (o p : Option A) → IsNone o → IsNone p → IsNone (option_or o p)
both_none None p h k = k
both_none (Some x) p h k = h

unmapped : {A B : Type 0} (f : A → B) (o : Option A) → IsNone (option_map f o) → IsNone o
unmapped f None h = refl
unmapped f (Some x) h = h

mapped_none : {A B : Type 0} (f : A → B) (o : Option A) → IsNone o → IsNone (option_map f o)
mapped_none f None h = refl
mapped_none f (Some x) h = h

-- what holds of what is there
if_is : {A : Type 0} (P : A → Type 0) (o : Option A) → ((x : A) → o ≡ Some x → P x) → IfSome o P
if_is P None h = tt
if_is P (Some x) h = h x refl

if_either : {A : Type 0} (P : A → Type 0) (o p : Option A) → IfSome o P → IfSome p P → IfSome (option_or o p) P
if_either P None p h k = k
if_either P (Some x) p h k = h

if_mapped : {A B : Type 0} (P : B → Type 0) (f : A → B) (o : Option A) → IfSome o (λ x. P (f x)) → IfSome (option_map f o) P
if_mapped P f None h = tt
if_mapped P f (Some x) h = h

if_answer : {A : Type 0} (P : A → Type 0) (answer : ℕ → Option A) (xs : List ℕ) → ((x : ℕ) → IfSome (answer x) P) → IfSome (first_answer answer xs) P
if_answer P answer [] h = tt
if_answer P answer (x ∷ xs) h = if_either P (answer x) (first_answer answer xs) (h x) (if_answer P answer xs h)

first_true : (a b : Bool) → a ≡ true → a || b ≡ true
first_true true b h = refl
first_true false b h = absurd (let e : false ≡ true = h in cc)

second_true : (a b : Bool) → b ≡ true → a || b ≡ true
second_true true b h = refl
second_true false b h = h

both_true : (a b : Bool) → a && b ≡ true → (a ≡ true) × (b ≡ true)
both_true true b h = (refl, h)
both_true false b h = absurd (let e : false ≡ true = h in cc)

neither_true : (a b : Bool) → a ≡ false → b ≡ false → a || b ≡ false
neither_true true b h k = absurd (let e : true ≡ false = h in cc)
neither_true false b h k = k

each_false : (a b : Bool) → a || b ≡ false → (a ≡ false) × (b ≡ false)
each_false true b h = absurd (let e : true ≡ false = h in cc)
each_false false b h = (refl, h)

first_false : (a b : Bool) → a && b ≡ false → b ≡ true → a ≡ false
first_false true b h k = absurd (let e : true ≡ false = sym k ∙ h in cc)
first_false false b h k = refl

second_false : (a b : Bool) → b ≡ false → a && b ≡ false
second_false true b h = h
second_false false b h = refl

head_in : (x : ℕ) (xs : List ℕ) → is_in x (x ∷ xs) ≡ true
head_in x xs = first_true (eqb x x) (is_in x xs) (eq-eqb x x refl)

tail_in : (x y : ℕ) (ys : List ℕ) → is_in x ys ≡ true → is_in x (y ∷ ys) ≡ true
tail_in x y ys h = second_true (eqb x y) (is_in x ys) h

-- where no member passes, none is found and none is left
find_missing : (p : ℕ → Bool) (xs : List ℕ) → ((x : ℕ) → is_in x xs ≡ true → p x ≡ false) → find p xs ≡ None
find_missing p [] h = refl
find_missing p (y ∷ ys) h = rw (h y (head_in y ys)) (find_missing p ys (λ x e. h x (tail_in x y ys e)))

filter_missing : (p : ℕ → Bool) (xs : List ℕ) → ((x : ℕ) → is_in x xs ≡ true → p x ≡ false) → filter p xs ≡ []
filter_missing p [] h = refl
filter_missing p (y ∷ ys) h = rw (h y (head_in y ys)) (filter_missing p ys (λ x e. h x (tail_in x y ys e)))

in_filter : (p : ℕ → Bool) (xs : List ℕ) (x : ℕ) → is_in x (filter p xs) ≡ true → p x ≡ true
in_filter p [] x e = absurd (let f : false ≡ true = e in cc)
in_filter p (y ∷ ys) x e =
    elim (cases_Bool (p y)) [
      | inl passes ↦
          (let f : eqb x y || is_in x (filter p ys) ≡ true = rw passes at e in
          elim (cases_Bool (eqb x y)) [
            | inl same ↦ ap p (eqb-true x y same) ∙ passes
            | inr other ↦ in_filter p ys x (rw other at f)
          ])
      | inr fails ↦ in_filter p ys x (rw fails at e)
    ]

filter_empty : (p : ℕ → Bool) (xs : List ℕ) (x : ℕ) → filter p xs ≡ [] → is_in x xs ≡ true → p x ≡ false
filter_empty p [] x h e = absurd (let f : false ≡ true = e in cc)
filter_empty p (y ∷ ys) x h e =
    elim (cases_Bool (p y)) [
      | inl passes ↦ absurd (let f : y ∷ filter p ys ≡ [] = rw passes at h in cc)
      | inr fails ↦ elim (cases_Bool (eqb x y)) [
        | inl same ↦ ap p (eqb-true x y same) ∙ fails
        | inr other ↦ filter_empty p ys x (rw fails at h) (rw other at e)
      ]
    ]

greatest_none : (key : ℕ → ℕ) (xs : List ℕ) → IsNone (first_greatest key xs) → xs ≡ []
greatest_none key [] h = refl
greatest_none key (x ∷ xs) h =
    absurd (let some = first_some key x xs in let e : None ≡ Some some.0 = sym (nothing (first_greatest key (x ∷ xs)) h) ∙ some.1 in cc)

-- there is no answer exactly where nothing answers
no_answer : {A : Type 0} (answer : ℕ → Option A) (xs : List ℕ) (x : ℕ) → IsNone (first_answer answer xs) → is_in x xs ≡ true → IsNone (answer x)
no_answer answer [] x h e = absurd (let f : false ≡ true = e in cc)
no_answer answer (y ∷ ys) x h e =
    let both = neither (answer y) (first_answer answer ys) h in
    elim (cases_Bool (eqb x y)) [
      | inl same ↦ ap (λ z. is_some (answer z)) (eqb-true x y same) ∙ both.0
      | inr other ↦ no_answer answer ys x both.1 (rw other at e)
    ]

all_silent : {A : Type 0} (answer : ℕ → Option A) (xs : List ℕ) → ((x : ℕ) → is_in x xs ≡ true → IsNone (answer x)) → IsNone (first_answer answer xs)
all_silent answer [] h = refl
all_silent answer (x ∷ xs) h =
    both_none (answer x) (first_answer answer xs) (h x (head_in x xs)) (all_silent answer xs (λ y e. h y (tail_in y x xs e)))

pends_not : (n : ℕ) → nat_lt 0 n ≡ false → n ≡ 0
pends_not n h = grind (arith, nat_tests)

not_pends : (n : ℕ) → n ≡ 0 → nat_lt 0 n ≡ false
not_pends n h = grind (arith, nat_tests)

pends : (n : ℕ) → nat_lt 0 n ≡ true → 0 < n
pends n h = grind (arith, nat_tests)

module _ (waits : ℕ → Option ℕ) (free : ℕ → ℕ → Bool) (eff : ℕ → ℕ) where
  pub recipient_takes : (sig : ℕ) → IfSome (recipient waits free eff sig) (λ t. takes waits free t sig ≡ true)
  recipient_takes sig =
      if_either (λ t. takes waits free t sig ≡ true) (first_greatest eff (waiters waits sig)) (find (λ t. free t sig) tids)
      (if_is (λ t. takes waits free t sig ≡ true) (first_greatest eff (waiters waits sig)) (λ t e.
      first_true (waits_for (waits t) sig) (free t sig) (in_filter (λ u. waits_for (waits u) sig) tids t (first_in eff (waiters waits sig) t e))))
      (if_is (λ t. takes waits free t sig ≡ true) (find (λ t. free t sig) tids) (λ t e.
      second_true (waits_for (waits t) sig) (free t sig) (find_passes (λ u. free u sig) tids t e)))

  nobody_takes : (sig : ℕ) → IsNone (recipient waits free eff sig) → (t : ℕ) → IsTid t → takes waits free t sig ≡ false
  nobody_takes sig h t range =
      let both = neither (first_greatest eff (waiters waits sig)) (find (λ u. free u sig) tids) h in
      let there = in_tids t range.0 range.1 in
      neither_true (waits_for (waits t) sig) (free t sig)
      (filter_empty (λ u. waits_for (waits u) sig) tids t (greatest_none eff (waiters waits sig) both.0) there)
      (find_none (λ u. free u sig) tids t (nothing (find (λ u. free u sig) tids) both.1) there)

  nobody_gets : (sig : ℕ) → ((t : ℕ) → IsTid t → takes waits free t sig ≡ false) → IsNone (recipient waits free eff sig)
  nobody_gets sig h =
      let apart : (t : ℕ) → is_in t tids ≡ true → (waits_for (waits t) sig ≡ false) × (free t sig ≡ false) =
      λ t e. each_false (waits_for (waits t) sig) (free t sig) (h t (tids_in t e)) in
      both_none (first_greatest eff (waiters waits sig)) (find (λ t. free t sig) tids)
      (ap (λ ts. is_some (first_greatest eff ts)) (filter_missing (λ t. waits_for (waits t) sig) tids (λ t e. (apart t e).0)))
      (ap is_some (find_missing (λ t. free t sig) tids (λ t e. (apart t e).1)))

  pub recipient_none : (sig : ℕ) → (IsNone (recipient waits free eff sig) → (t : ℕ) → IsTid t → takes waits free t sig ≡ false)
      × (((t : ℕ) → IsTid t → takes waits free t sig ≡ false) → IsNone (recipient waits free eff sig))
  recipient_none sig = (nobody_takes sig, nobody_gets sig)

  module _ (counts : ℕ → ℕ → ℕ) where
    own_due : (t : ℕ) → IfSome (option_map (λ sig. (t, sig, false)) (own_signal waits free counts t)) (IsDue waits free counts)
    own_due t =
        if_mapped (IsDue waits free counts) (λ sig. (t, sig, false)) (own_signal waits free counts t)
        (if_is (λ sig. IsDue waits free counts (t, sig, false)) (own_signal waits free counts t) (λ sig e.
        let both = both_true (nat_lt 0 (counts t sig)) (takes waits free t sig) (find_passes (λ s. nat_lt 0 (counts t s) && takes waits free t s) signals sig e) in
        (pends (counts t sig) both.0, both.1)))

    gets_due : (sig : ℕ) → IfSome (pending_recipient waits free counts eff sig) (λ t. IsDue waits free counts (t, sig, true))
    gets_due sig =
        elim (cases_Bool (nat_lt 0 (counts 0 sig))) [
          | inl is ↦ rw is (if_is (λ t. IsDue waits free counts (t, sig, true)) (recipient waits free eff sig) (λ t e.
              (pends (counts 0 sig) is, taken sig t e)))
          | inr un ↦ rw un tt
        ]
      where
        taken : (sig t : ℕ) → recipient waits free eff sig ≡ Some t → takes waits free t sig ≡ true
        taken sig t e = subst (λ o. IfSome o (λ u. takes waits free u sig ≡ true)) e (recipient_takes sig)

    pub next_due : IfSome (next_delivery waits free counts eff) (IsDue waits free counts)
    next_due =
        if_either (IsDue waits free counts) (own_delivery waits free counts) (process_delivery waits free counts eff)
        (if_answer (IsDue waits free counts) (λ t. option_map (λ sig. (t, sig, false)) (own_signal waits free counts t)) tids own_due)
        (if_answer (IsDue waits free counts) (λ sig. option_map (λ t. (t, sig, true)) (pending_recipient waits free counts eff sig)) signals
        (λ sig. if_mapped (IsDue waits free counts) (λ t. (t, sig, true)) (pending_recipient waits free counts eff sig) (gets_due sig)))

    own_silent : (t sig : ℕ) → IsNone (own_delivery waits free counts) → IsTid t → IsInScope sig → takes waits free t sig ≡ true → counts t sig ≡ 0
    unfolding signals
    own_silent t sig h range scope taken =
        let none = unmapped (λ s. (t, s, false)) (own_signal waits free counts t)
        (no_answer (λ u. option_map (λ s. (u, s, false)) (own_signal waits free counts u)) tids t h (in_tids t range.0 range.1)) in
        let numbers = scope_range sig scope in
        let fails = find_none (λ s. nat_lt 0 (counts t s) && takes waits free t s) (range_with_len 1 31) sig
        (nothing (own_signal waits free counts t) none) (in_range 1 31 sig numbers.0 (omega (arith, numbers.1))) in
        pends_not (counts t sig) (first_false (nat_lt 0 (counts t sig)) (takes waits free t sig) fails taken)

    process_silent : (t sig : ℕ) → IsNone (process_delivery waits free counts eff) → IsTid t → IsInScope sig → takes waits free t sig ≡ true → counts 0 sig ≡ 0
    unfolding signals
    process_silent t sig h range scope taken =
        let numbers = scope_range sig scope in
        let none : IsNone (pending_recipient waits free counts eff sig) = unmapped (λ u. (u, sig, true)) (pending_recipient waits free counts eff sig)
        (no_answer (λ s. option_map (λ u. (u, s, true)) (pending_recipient waits free counts eff s)) (range_with_len 1 31) sig h (in_range 1 31 sig numbers.0 (omega (arith, numbers.1)))) in
        elim (cases_Bool (nat_lt 0 (counts 0 sig))) [
          | inl is ↦
              (let nobody : IsNone (recipient waits free eff sig) = rw is at none in
              absurd (let e : true ≡ false = sym taken ∙ nobody_takes sig nobody t range in cc))
          | inr un ↦ pends_not (counts 0 sig) un
        ]

    none_own : IsSettled waits free counts → (t sig : ℕ) → IsTid t → (nat_lt 0 (counts t sig) && takes waits free t sig) ≡ false
    none_own settled t sig range =
        elim (cases_Bool (takes waits free t sig)) [
          | inl is ↦ rw (not_pends (counts t sig) (settled t sig range is).0) refl
          | inr un ↦ second_false (nat_lt 0 (counts t sig)) (takes waits free t sig) un
        ]

    none_gets : IsSettled waits free counts → (sig : ℕ) → IsNone (pending_recipient waits free counts eff sig)
    none_gets settled sig =
        elim (cases_Bool (nat_lt 0 (counts 0 sig))) [
          | inl is ↦ rw is (nobody_gets sig (λ t range. untaken t range is))
          | inr un ↦ rw un refl
        ]
      where
        untaken : (t : ℕ) → IsTid t → nat_lt 0 (counts 0 sig) ≡ true → takes waits free t sig ≡ false
        untaken t range is =
            elim (cases_Bool (takes waits free t sig)) [
              | inl taken ↦ absurd (let e : true ≡ false = sym is ∙ not_pends (counts 0 sig) (settled t sig range taken).1 in cc)
              | inr un ↦ un
            ]

    -- where only signals in scope pend, there is no next delivery exactly where all is settled
    pub next_none : ((t sig : ℕ) → nat_lt 0 (counts t sig) ≡ true → IsInScope sig)
        → (IsNone (next_delivery waits free counts eff) → IsSettled waits free counts)
        × (IsSettled waits free counts → IsNone (next_delivery waits free counts eff))
    next_none scope = (settles, silent)
      where
        settles : IsNone (next_delivery waits free counts eff) → IsSettled waits free counts
        settles h t sig range taken =
            let both = neither (own_delivery waits free counts) (process_delivery waits free counts eff) h in (
              elim (cases_Bool (nat_lt 0 (counts t sig))) [
                | inl is ↦ own_silent t sig both.0 range (scope t sig is) taken
                | inr un ↦ pends_not (counts t sig) un
              ],
              elim (cases_Bool (nat_lt 0 (counts 0 sig))) [
                | inl is ↦ process_silent t sig both.1 range (scope 0 sig is) taken
                | inr un ↦ pends_not (counts 0 sig) un
              ],
            )

        silent : IsSettled waits free counts → IsNone (next_delivery waits free counts eff)
        silent settled =
            both_none (own_delivery waits free counts) (process_delivery waits free counts eff)
            (all_silent (λ t. option_map (λ sig. (t, sig, false)) (own_signal waits free counts t)) tids (λ t e.
            mapped_none (λ sig. (t, sig, false)) (own_signal waits free counts t)
            (ap is_some (find_missing (λ sig. nat_lt 0 (counts t sig) && takes waits free t sig) signals (λ sig f. none_own settled t sig (tids_in t e))))))
            (all_silent (λ sig. option_map (λ t. (t, sig, true)) (pending_recipient waits free counts eff sig)) signals (λ sig e.
            mapped_none (λ t. (t, sig, true)) (pending_recipient waits free counts eff sig) (none_gets settled sig)))
