-- Lists with an item merged in.
use Rattle.std.proofs.Common.{◌≡◌, ℕ, zero, suc, ◌+◌, ◌<◌, ◌≤◌, ◌^◌, Bool, true, false, cond, refl, sym, ap, ◌∙◌, subst, inl, inr, eqb, arith, List, [], ◌∷◌, ◌++◌, length, get_or, set, drop, map, ◌||◌, Option, Some, None}
use Rattle.std.proofs.lemmas.Bool.{eqb-true, cases_Bool, or_parts, or_from, or_cases}
use Rattle.std.proofs.lemmas.Bool.Decides.{nat_tests}
use Rattle.std.proofs.lemmas.Iterator.Adapters.{position_from-zero}
use Rattle.std.proofs.lemmas.List.Quantifiers.{position-Some}
use Rattle.std.proofs.lemmas.Map.Steps.{length-le_from_distinct_below}
use Rattle.std.specs.List.{IsDistinct, AllByRecursion, list_any, position, position_from, slice_get}
use Rattle.std.specs.Option.{option_or}
use Rattle.thread_base.specs.Numbers.{IsInScope}
use Rattle.unix_process.specs.declared.UnixEvent.{UnixEvent}
use Rattle.unix_process.specs.declared.UnixEvent.TheVariants.{Sig, Tick, Input}
use Rattle.unix_process.specs.declared.Taken.{Taken}
use Rattle.unix_process.specs.Merging.{same_event, IsEvent, merged, count_of, first_of, events, is_among, IsTally, IsCounted, NothingLost, CountsAddUp, OrderStays, FirstsStay, StaysTally, StaysCounted}

pub same_comm : (d e : UnixEvent) → same_event d e ≡ same_event e d
same_comm d e = grind (arith, nat_tests)

pub same_is : (d e : UnixEvent) → same_event d e ≡ true → d ≡ e
same_is d e h = grind (arith, nat_tests)

abbrev pub raised : Taken → Taken → Taken
raised item t = record t { count = t.count + item.count }

-- a merge at the front, and after it
pub merged_here : (item t : Taken) (ts : List Taken) → same_event t.event item.event ≡ true → merged item (t ∷ ts) ≡ raised item t ∷ ts
merged_here item t ts h = rw h refl

pub merged_later : (item t : Taken) (ts : List Taken) → same_event t.event item.event ≡ false → merged item (t ∷ ts) ≡ t ∷ merged item ts
merged_later item t ts h = rw h refl

counts_step : (item t : Taken) (ts : List Taken) (e : UnixEvent)
    → count_of e (merged item ts) ≡ count_of e ts + cond (same_event item.event e) item.count 0
    → count_of e (merged item (t ∷ ts)) ≡ count_of e (t ∷ ts) + cond (same_event item.event e) item.count 0
counts_step item t ts e h =
    elim (cases_Bool (same_event t.event item.event)) [
      | inl is ↦ (let same = same_is t.event item.event is in rw (is, same) (counts_at (same_event item.event e)))
      | inr un ↦ rw (un, h) (omega arith)
    ]
  where
    counts_at : (b : Bool) → cond b (t.count + item.count) 0 + count_of e ts ≡ cond b t.count 0 + count_of e ts + cond b item.count 0
    counts_at b = grind arith

pub counts_add_up : CountsAddUp
counts_add_up item [] e = omega arith
counts_add_up item (t ∷ ts) e = counts_step item t ts e (counts_add_up item ts e)

pub order_stays : OrderStays
order_stays item [] = refl
order_stays item (t ∷ ts) =
    elim (cases_Bool (same_event t.event item.event)) [
      | inl is ↦ rw is refl
      | inr un ↦ rw (un, order_stays item ts) (behind (is_among item.event ts))
    ]
  where
    behind : (b : Bool) → t.event ∷ cond b (events ts) (events ts ++ item.event ∷ []) ≡ cond b (t.event ∷ events ts) (t.event ∷ (events ts ++ item.event ∷ []))
    behind b = grind arith

pub firsts_stay : FirstsStay
firsts_stay item [] e = refl
firsts_stay item (t ∷ ts) e =
    elim (cases_Bool (same_event t.event item.event)) [
      | inl is ↦ (let same = same_is t.event item.event is in rw (is, same) (firsts_here (same_event item.event e) (first_of e ts)))
      | inr un ↦ rw (un, firsts_stay item ts e) (firsts_later (same_event t.event e) (first_of e ts) (cond (same_event item.event e) (Some item.first) None))
    ]
  where
    firsts_here : (b : Bool) (o : Option ℕ) → cond b (Some t.first) o ≡ option_or (cond b (Some t.first) o) (cond b (Some item.first) None)
    firsts_here b o = grind arith

    firsts_later : (b : Bool) (o p : Option ℕ) → cond b (Some t.first) (option_or o p) ≡ option_or (cond b (Some t.first) o) p
    firsts_later b o p = grind arith

pub among-merged : (item : Taken) (ts : List Taken) (e : UnixEvent) → is_among e (merged item ts) ≡ is_among e ts || same_event item.event e
among-merged item [] e = alone (same_event item.event e)
  where
    alone : (b : Bool) → b || false ≡ b
    alone b = grind arith
among-merged item (t ∷ ts) e =
    elim (cases_Bool (same_event t.event item.event)) [
      | inl is ↦ (let same = same_is t.event item.event is in rw (is, same) (or_again (same_event item.event e) (is_among e ts)))
      | inr un ↦ rw (un, among-merged item ts e) (or_assoc (same_event t.event e) (is_among e ts) (same_event item.event e))
    ]
  where
    or_again : (a b : Bool) → a || b ≡ a || b || a
    or_again a b = grind arith

    or_assoc : (a b c : Bool) → a || (b || c) ≡ a || b || c
    or_assoc a b c = grind arith

pub stays_tally : StaysTally
stays_tally item [] known h = (known, refl, tt)
stays_tally item (t ∷ ts) known h =
    elim (cases_Bool (same_event t.event item.event)) [
      | inl is ↦ subst IsTally (sym (merged_here item t ts is)) (h.0, h.1, h.2)
      | inr un ↦ subst IsTally (sym (merged_later item t ts un)) (
        h.0,
        among-merged item ts t.event ∙ or_from (is_among t.event ts) (same_event item.event t.event) h.1 (same_comm item.event t.event ∙ un),
        stays_tally item ts known h.2,
      )
    ]

pub stays_counted : StaysCounted
stays_counted item [] more h = (more, tt)
stays_counted item (t ∷ ts) more h =
    elim (cases_Bool (same_event t.event item.event)) [
      | inl is ↦ subst IsCounted (sym (merged_here item t ts is)) (omega arith, h.1)
      | inr un ↦ subst IsCounted (sym (merged_later item t ts un)) (h.0, stays_counted item ts more h.1)
    ]

-- the first and the others make up the list
pub first_and_rest : (ts : List Taken) → NothingLost ts (slice_get ts 0) (drop 1 ts)
first_and_rest [] e = omega arith
first_and_rest (t ∷ ts) e = omega arith

-- an event's slot counts no more than all of its slots
pub counted_at : (e : UnixEvent) (ts : List Taken) (i : ℕ) (d : Taken) → i < length ts → same_event (get_or ts i d).event e ≡ true → (get_or ts i d).count ≤ count_of e ts
counted_at e [] i d h here = absurd (omega arith)
counted_at e (t ∷ ts) zero d h here = rw here (omega arith)
counted_at e (t ∷ ts) (suc i) d h here = omega (arith, counted_at e ts i d (omega arith) here)

pub raised_at : (item : Taken) (ts : List Taken) (i : ℕ) (d : Taken) → i < length ts → same_event (get_or ts i d).event item.event ≡ true
    → ((k : ℕ) → k < i → same_event (get_or ts k d).event item.event ≡ false) → set ts i (raised item (get_or ts i d)) ≡ merged item ts
raised_at item [] i d h here before = absurd (omega arith)
raised_at item (t ∷ ts) zero d h here before = sym (merged_here item t ts here)
raised_at item (t ∷ ts) (suc i) d h here before =
    ap (λ us. t ∷ us) (raised_at item ts i d (omega arith) here (λ k below. before (suc k) (omega arith))) ∙ sym (merged_later item t ts (before 0 (omega arith)))

-- the slot that was found has room for the item's count
pub raised_fits : (item d : Taken) (ts : List Taken) (i : ℕ) → position (λ t. same_event t.event item.event) ts ≡ Some i
    → count_of item.event ts + item.count < 2 ^ 32 → (get_or ts i d).count + item.count < 2 ^ 32
raised_fits item d ts i found fits =
    let at = position-Some (λ t. same_event t.event item.event) ts i d found in
    omega (arith, counted_at item.event ts i d at.0 at.1)

-- the slot that was found, with its count raised
pub raised_is : (item d : Taken) (ts : List Taken) (i : ℕ) → position (λ t. same_event t.event item.event) ts ≡ Some i → set ts i (raised item (get_or ts i d)) ≡ merged item ts
raised_is item d ts i found =
    let at = position-Some (λ t. same_event t.event item.event) ts i d found in
    raised_at item ts i d at.0 at.1 at.2

nowhere : (p : Taken → Bool) (n : ℕ) (ts : List Taken) → position_from p n ts ≡ None → list_any p ts ≡ false
nowhere p n [] h = refl
nowhere p n (t ∷ ts) h =
    elim (cases_Bool (p t)) [
      | inl is ↦ (let e : Some n ≡ None = rw is at h in cc)
      | inr un ↦ rw un (nowhere p (n + 1) ts (rw un at h))
    ]

pub absent : (e : UnixEvent) (ts : List Taken) → position (λ t. same_event t.event e) ts ≡ None → is_among e ts ≡ false
absent e ts h = nowhere (λ t. same_event t.event e) 0 ts (sym (position_from-zero (λ t. same_event t.event e) ts) ∙ h)

pub merged_behind : (item : Taken) (ts : List Taken) → is_among item.event ts ≡ false → merged item ts ≡ ts ++ item ∷ []
merged_behind item [] h = refl
merged_behind item (t ∷ ts) h =
    let parts = or_parts (same_event t.event item.event) (is_among item.event ts) h in
    merged_later item t ts parts.0 ∙ ap (λ us. t ∷ us) (merged_behind item ts parts.1)

-- numbers for the events, all below 33
place_of : UnixEvent → ℕ
place_of (Sig s) = s
place_of Tick = 0
place_of Input = 32

in_range : (s : ℕ) → IsInScope s → (1 ≤ s) × (s ≤ 31)
in_range s h = grind (arith, nat_tests)

places : List Taken → List ℕ
places ts = map (λ t. place_of t.event) ts

place_below : (e : UnixEvent) → IsEvent e → place_of e < 33
unfolding place_of
place_below e h = grind (arith, in_range)

places_apart : (d e : UnixEvent) → IsEvent d → IsEvent e → same_event d e ≡ false → eqb (place_of e) (place_of d) ≡ false
unfolding place_of
places_apart d e g h un = grind (arith, nat_tests, in_range)

apart : (e : UnixEvent) (ts : List Taken) → IsEvent e → IsTally ts → is_among e ts ≡ false → AllByRecursion (λ n. eqb (place_of e) n ≡ false) (places ts)
unfolding places
apart e [] known h un = tt
apart e (t ∷ ts) known h un =
    let parts = or_parts (same_event t.event e) (is_among e ts) un in
    (places_apart t.event e h.0 known parts.0, apart e ts known h.2 parts.1)

distinct : (ts : List Taken) → IsTally ts → IsDistinct eqb (places ts)
unfolding places IsDistinct
distinct [] h = tt
distinct (t ∷ ts) h = (apart t.event ts h.0 h.2 h.1, distinct ts h.2)

below : (ts : List Taken) (q : ℕ) → IsTally ts → list_any (eqb q) (places ts) ≡ true → q < 33
unfolding places
below [] q h e = let x : false ≡ true = e in cc
below (t ∷ ts) q h e =
    elim (or_cases (eqb q (place_of t.event)) (list_any (eqb q) (places ts)) e) [
      | inl is ↦ (let same = eqb-true q (place_of t.event) is in omega (arith, place_below t.event h.0))
      | inr more ↦ below ts q h.2 more
    ]

length-places : (ts : List Taken) → length (places ts) ≡ length ts
unfolding places
length-places [] = refl
length-places (t ∷ ts) = ap suc (length-places ts)

-- where an event is not in it, there is room for it
pub room : (ts : List Taken) (e : UnixEvent) → IsTally ts → IsEvent e → is_among e ts ≡ false → length ts < 33
unfolding places IsDistinct
room ts e h known un =
    let more : List Taken = record { event = e; first = 0; count = 0 } ∷ ts in
    let all = length-le_from_distinct_below (places more) 33 (apart e ts known h un, distinct ts h) (λ q f. below more q (known, un, h) f) in
    omega (arith, length-places ts)
