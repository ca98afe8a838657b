-- Which entries are due, and which of them were presented.
use Rattle.std.proofs.Common.{◌≡◌, ◌∙◌, ap, sym, refl, subst, arith, inl, inr, ℕ, zero, suc, ◌+◌, ◌-◌, ◌*◌, ◌<◌, ◌≤◌, ◌⊎◌, ◌++◌, Bool, true, false, List, [], ◌∷◌, length, take, drop, Option, Some, None}
use Rattle.std.specs.Prelude.{◌==◌, ◌&&◌, ◌||◌, nat_le, min, slice_get, slice_set}
use Rattle.std.specs.List.{AllByRecursion, range_with_len}
use Rattle.std.specs.Option.{option_map}
use Rattle.std.proofs.lemmas.Bool.{cases_Bool, cases_eq, cond_both, cond-true, and_parts, or_cases, or_left, or_right, eq-eqb, eqb-true, leb-true, leb-false, lt-leb}
use Rattle.std.proofs.lemmas.Option.{same_Some, slice_get_within}
use Rattle.std.proofs.lemmas.List.{drop-drop}
use Rattle.thread_base.specs.Orders.{is_in}
use Rattle.thread_base.specs.Deliveries.{signals}
use Rattle.thread_base.specs.declared.Place.{Place}
use Rattle.thread_base.proofs.SearchLemmas.{range_in}
use Rattle.journal_text.specs.Contents.{Contents}
use Rattle.journal_text.specs.Valid.{IsJournal}
use Rattle.journal_text.specs.declared.entry.Entry.{Entry}
use Rattle.unix_process.specs.declared.Taken.{Taken}
use Rattle.unix_process.specs.Merging.{count_of}
use Rattle.posix_model.specs.Journals.{Kind, OfSignal, OfTicks, OfInput, kind_of, is_kind, with_taken, numbers_from, left_of_kind, entry_at, untaken, reached}
use Rattle.posix_model.specs.Laws.{taken_in_all}
use Rattle.posix_model.specs.Runs.{Rules, Moment, due, due_by, is_waiting, taken_by, moved, IsAlone, MayArrive}
use Rattle.posix_model.specs.Weights.{total}
use Rattle.posix_model.specs.declared.Move.TheVariants.{Arrive}
use Rattle.posix_model.proofs.JournalLemmas.{Ascends, first_least, is_kind_refl, place_in, left_ascends, in_untaken, untaken_from, untaken_ascends, in_reached, reached_from, reached_before, in_drop_less, more_taken}
use Rattle.kernel_state.specs.Outside.{OutsideState, is_nothing}
use Rattle.kernel_state.specs.Presented.{kind_of_event, event_of_kind, StandsFor, Stands, AreDue}
use Rattle.kernel_state.proofs.NumberLemmas.{get_drop, get_some, numbers_split, number_in}
use Rattle.kernel_state.proofs.PresentedLemmas.{back_to_kind}
use Rattle.kernel_state.proofs.ArrivalLemmas.{slot_next, slot_each, entry_index}
use Rattle.kernel_state.proofs.LawLemmas.{left_is_next, next_is_due}
use Rattle.dispatcher.specs.Arriving.{is_empty}
use Rattle.process_engine.specs.Engine.{next_place, stop_of}

-- ---- lists

in_behind : (m : ℕ) (xs ys : List ℕ) (n : ℕ) → m ≤ length xs → is_in n ys ≡ true → is_in n (drop m (xs ++ ys)) ≡ true
in_behind zero [] ys n le h = h
in_behind zero (x ∷ xs) ys n le h = or_right (n == x) (is_in n (xs ++ ys)) (in_behind zero xs ys n (omega arith) h)
in_behind (suc m) [] ys n le h = absurd (omega (arith, le))
in_behind (suc m) (x ∷ xs) ys n le h = in_behind m xs ys n (omega (arith, le)) h

-- a list of which nothing is a member has none
nil_of : (xs : List ℕ) → ((x : ℕ) → is_in x xs ≡ true → ⊥) → xs ≡ []
nil_of [] none = refl
nil_of (x ∷ xs) none = absurd (none x (or_left (x == x) (is_in x xs) (eq-eqb x x refl)))

first_in : (xs : List ℕ) (n : ℕ) → slice_get xs 0 ≡ Some n → is_in n xs ≡ true
first_in [] n is = let e : None ≡ Some n = is in absurd (cc)
first_in (x ∷ xs) n is = or_left (n == x) (is_in n xs) (eq-eqb n x (sym (same_Some x n is)))

least_of : (xs : List ℕ) (y m : ℕ) → Ascends xs → slice_get xs 0 ≡ Some y → is_in m xs ≡ true → y ≤ m
least_of [] y m asc first h = let e : false ≡ true = h in absurd (cc)
least_of (x ∷ xs) y m asc first h = let least = first_least x xs m asc h in let same = same_Some x y first in omega (arith, least, same)

not_again : (x : ℕ) (xs : List ℕ) (count : ℕ) → AllByRecursion (λ u. x < u) xs → is_in x (drop count xs) ≡ true → ⊥
not_again x [] zero all h = let e : false ≡ true = h in cc
not_again x [] (suc count) all h = let e : false ≡ true = h in cc
not_again x (y ∷ ys) zero all h =
    elim (or_cases (x == y) (is_in x ys) h) [
      | inl same ↦ (let e = eqb-true x y same in let less = all.0 in omega (arith, e, less))
      | inr rest ↦ not_again x ys zero all.1 rest
    ]
not_again x (y ∷ ys) (suc count) all h = not_again x ys count all.1 h

-- the first of a list whose numbers rise is gone where some are taken off
first_gone : (xs : List ℕ) (first count : ℕ) → Ascends xs → slice_get xs 0 ≡ Some first → 1 ≤ count → is_in first (drop count xs) ≡ true → ⊥
first_gone [] first count asc next some h = let e : None ≡ Some first = next in cc
first_gone (x ∷ xs) first zero asc next some h = omega (arith, some)
first_gone (x ∷ xs) first (suc count) asc next some h =
    not_again x xs count asc.0 (ap (λ n. is_in n (drop count xs)) (same_Some x first next) ∙ h)

first_of_all : (P : ℕ → Type 0) (count : ℕ) (xs : List ℕ) (x : ℕ) → 1 ≤ count → slice_get xs 0 ≡ Some x → AllByRecursion P (take count xs) → P x
first_of_all P zero xs x some first all = absurd (omega (arith, some))
first_of_all P (suc count) [] x some first all = let e : None ≡ Some x = first in absurd (cc)
first_of_all P (suc count) (y ∷ ys) x some first all = subst P (same_Some y x first) all.0

min_le : (a b : ℕ) → min a b ≤ a
min_le a b = omega arith

-- what was set is read, and the others stay
pub set_here : (xs : List Place) (i : ℕ) (x y : Place) → slice_get (slice_set xs i x) i ≡ Some y → y ≡ x
set_here [] i x y h = let e : None ≡ Some y = h in absurd (cc)
set_here (z ∷ zs) zero x y h = sym (same_Some x y h)
set_here (z ∷ zs) (suc i) x y h = set_here zs i x y h

pub set_there : (xs : List Place) (i j : ℕ) (x : Place) → (j ≡ i → ⊥) → slice_get (slice_set xs i x) j ≡ slice_get xs j
set_there [] i j x other = refl
set_there (z ∷ zs) zero zero x other = absurd (other refl)
set_there (z ∷ zs) zero (suc j) x other = refl
set_there (z ∷ zs) (suc i) zero x other = refl
set_there (z ∷ zs) (suc i) (suc j) x other = set_there zs i j x (λ e. other (ap suc e))

-- ---- what was presented and is not taken

module _ (entries : List Entry) (taken : Kind → ℕ) (presented : ℕ) where
  -- of each kind as many are taken at most as were presented
  pub taken_within : (log pending : List Taken) → StandsFor entries taken presented log pending → (k : Kind) → taken k ≤ length (numbers_from k 1 (take presented entries))
  taken_within log pending s k =
      let counts : taken k + (count_of (event_of_kind k) log + count_of (event_of_kind k) pending) ≡ length (numbers_from k 1 (take presented entries)) =
      subst (λ x. taken x + (count_of (event_of_kind k) log + count_of (event_of_kind k) pending) ≡ length (numbers_from x 1 (take presented entries))) (back_to_kind k) (s.counts (event_of_kind k)) in
      omega (arith, counts)

  -- the next entry is not taken
  next_untaken : (log pending : List Taken) → StandsFor entries taken presented log pending → (e : Entry) → slice_get entries presented ≡ Some e
      → is_in (1 + presented) (untaken entries taken) ≡ true
  next_untaken log pending s e here =
      let k = kind_of e.what in
      let within = taken_within log pending s k in
      let none : presented + 0 ≡ presented = omega arith in
      let behind : is_in (1 + presented) (numbers_from k (1 + presented) (drop presented entries)) ≡ true =
      ap (λ n. is_in n (numbers_from k (1 + presented) (drop presented entries))) (let same : 1 + presented ≡ 1 + presented + 0 = omega arith in same)
      ∙ number_in k (1 + presented) (drop presented entries) 0 e (get_drop presented 0 entries ∙ ap (slice_get entries) none ∙ here) (is_kind_refl k) in
      untaken_from entries taken (1 + presented) e (entry_index entries presented ∙ here)
      (ap (λ xs. is_in (1 + presented) (drop (taken k) xs)) (numbers_split k 1 presented entries)
      ∙ in_behind (taken k) (numbers_from k 1 (take presented entries)) (numbers_from k (1 + presented) (drop presented entries)) (1 + presented) within behind)

  -- an entry that was presented and is not taken
  record Waits : Type 0 where
    number : ℕ
    left : is_in number (untaken entries taken) ≡ true
    low : number ≤ presented

  slot_waits : (t : Taken) (ts pending : List Taken) → StandsFor entries taken presented (t ∷ ts) pending → Waits
  slot_waits t ts pending s =
      let some = s.counted_logged.0 in
      let one = slot_each entries taken presented t ts pending s 0 t.first (omega (arith, some)) (slot_next entries taken presented t ts pending s) in
      record { number = t.first; left = one.0; low = one.1 }

  -- where nothing is logged, what pends could be
  logged : (ps : List Taken) → StandsFor entries taken presented [] ps → StandsFor entries taken presented ps []
  logged ps s = record {
    within = s.within;
    once_logged = s.once_pending;
    once_pending = s.once_logged;
    counted_logged = s.counted_pending;
    counted_pending = s.counted_logged;
    counts = λ e. (let c = s.counts e in omega (arith, c));
    first_logged = λ e f is.
        ap (slice_get (numbers_from (kind_of_event e) 1 entries)) (let none : taken (kind_of_event e) ≡ taken (kind_of_event e) + 0 = omega arith in none)
        ∙ s.first_pending e f is;
    first_pending = λ e f is. (let none : None ≡ Some f = is in absurd (cc));
  }

  some_waits : (log pending : List Taken) → StandsFor entries taken presented log pending → (is_nothing log && is_nothing pending) ≡ false → Waits
  some_waits [] [] s h = let e : true ≡ false = h in absurd (cc)
  some_waits [] (t ∷ ts) s h = slot_waits t ts [] (logged (t ∷ ts) s)
  some_waits (t ∷ ts) pending s h = slot_waits t ts pending s

-- ---- what is due

in_due_by : (reached_ones left : List ℕ) (waiting : Bool) (n : ℕ) → is_in n reached_ones ≡ true → is_in n (due_by reached_ones left waiting) ≡ true
in_due_by [] left waiting n h = let e : false ≡ true = h in absurd (cc)
in_due_by (x ∷ xs) left waiting n h = h

-- what is due is reached, or is the first that is left where nothing is reached
abbrev pub IsOnly : (reached_ones left : List ℕ) (waiting : Bool) (n : ℕ) → Type 0
IsOnly reached_ones left waiting n = (is_in n reached_ones ≡ true) ⊎ ((reached_ones ≡ []) × (waiting ≡ true) × (slice_get left 0 ≡ Some n))

due_only : (reached_ones left : List ℕ) (waiting : Bool) (n : ℕ) → is_in n (due_by reached_ones left waiting) ≡ true → IsOnly reached_ones left waiting n
due_only [] [] true n h = let e : false ≡ true = h in absurd (cc)
due_only [] (x ∷ xs) true n h =
    elim (or_cases (n == x) false h) [
      | inl same ↦ inr (refl, refl, ap Some (sym (eqb-true n x same)))
      | inr none ↦ let e : false ≡ true = none in absurd (cc)
    ]
due_only [] left false n h = let e : false ≡ true = h in absurd (cc)
due_only (x ∷ xs) left waiting n h = inl h

-- what is due is an entry
pub due_there : (rules : Rules) (now : Moment) (m : ℕ) → is_in m (due rules now) ≡ true → m ≤ length rules.journal.entries
unfolding due
due_there rules now m h =
    let es = rules.journal.entries in
    let left : is_in m (untaken es now.taken) ≡ true =
    elim (due_only (reached es now.taken now.instructions) (untaken es now.taken) (is_waiting now.state) m h) [
      | inl r ↦ (in_reached es now.taken now.instructions m r).0
      | inr only ↦ first_in (untaken es now.taken) m only.2
    ] in
    let found = in_untaken es now.taken m left in
    let place = place_in es m found.0 found.1 in
    let at = place.1 in
    let within = slice_get_within es place.0 found.0 place.2 in
    omega (arith, at, within)

-- ---- by how many instructions were made, and whether nothing else can happen

-- a place is reached, or nothing else can happen
abbrev pub is_reached_or : Option ℕ → ℕ → Bool → Bool
is_reached_or None instructions waiting = false
is_reached_or (Some n) instructions waiting = nat_le n instructions || waiting

module _ (rules : Rules) (now : Moment) (o : OutsideState) (journal : IsJournal rules.journal) (same : o.journal ≡ rules.journal) (s : Stands o now.taken) where
  abbrev es : List Entry
  es = rules.journal.entries

  abbrev next : ℕ
  next = 1 + o.presented

  there : StandsFor rules.journal.entries now.taken o.presented o.log.slots o.unix.pending
  there = subst (λ (j : Contents). StandsFor j.entries now.taken o.presented o.log.slots o.unix.pending) same s

  -- where nothing waits, those are left that were not presented
  pub behind : is_empty o ≡ true → untaken rules.journal.entries now.taken ≡ range_with_len (1 + o.presented) (length rules.journal.entries - o.presented)
  behind none =
      ap (λ (j : Contents). untaken j.entries now.taken) (sym same) ∙ left_is_next o now.taken s none
      ∙ ap (λ (j : Contents). range_with_len (1 + o.presented) (length j.entries - o.presented)) same

  pub none_presented : is_empty o ≡ true → (n : ℕ) → is_in n (untaken rules.journal.entries now.taken) ≡ true → n ≤ o.presented → ⊥
  none_presented none n left low =
      let inside = range_in next (length es - o.presented) n (sym (ap (is_in n) (behind none)) ∙ left) in
      let above = inside.0 in
      omega (arith, above, low)

  -- the entry of the number that is next
  at_next : (e : Entry) → entry_at es next ≡ Some e → slice_get es o.presented ≡ Some e
  at_next e here = sym (entry_index es o.presented) ∙ here

  -- where nothing waits and the next entry is not reached, none is
  pub none_reached : is_empty o ≡ true → ((e : Entry) → slice_get rules.journal.entries o.presented ≡ Some e → now.instructions < e.place.n)
      → reached rules.journal.entries now.taken now.instructions ≡ []
  none_reached none later = nil_of (reached es now.taken now.instructions) (λ x h.
      let found = in_reached es now.taken now.instructions x h in
      let inside = range_in next (length es - o.presented) x (sym (ap (is_in x) (behind none)) ∙ found.0) in
      let low = inside.0 in
      let high = inside.1 in
      let first = get_some es o.presented (omega (arith, low, high)) in
      let again = in_reached es now.taken now.instructions next
      (reached_before es now.taken now.instructions x next first.0 journal.each (next_untaken es now.taken o.presented o.log.slots o.unix.pending there first.0 first.1)
      (entry_index es o.presented ∙ first.1) low h) in
      let reach = again.1.2 in
      let late = later again.1.0 (at_next again.1.0 again.1.1) in
      omega (arith, reach, late))

  -- the next entry is due: its place is reached
  reached_next : (e : Entry) → slice_get es o.presented ≡ Some e → e.place.n ≤ now.instructions → is_in next (due rules now) ≡ true
  unfolding due
  reached_next e here low =
      in_due_by (reached es now.taken now.instructions) (untaken es now.taken) (is_waiting now.state) next
      (reached_from es now.taken now.instructions next e (next_untaken es now.taken o.presented o.log.slots o.unix.pending there e here) (entry_index es o.presented ∙ here) low)

  -- or nothing else can happen
  awaited_next : (e : Entry) → slice_get es o.presented ≡ Some e → now.instructions < e.place.n → is_empty o ≡ true → is_waiting now.state ≡ true → is_in next (due rules now) ≡ true
  awaited_next e here late none waiting =
      next_is_due rules now o same s none waiting
      (none_reached none (λ x is. subst (λ (y : Entry). now.instructions < y.place.n) (same_Some e x (sym here ∙ is)) late)) next
      (next_untaken es now.taken o.presented o.log.slots o.unix.pending there e here) (omega arith)

  due_is : (n : ℕ) → is_in n (due rules now) ≡ true → IsOnly (reached es now.taken now.instructions) (untaken es now.taken) (is_waiting now.state) n
  unfolding due
  due_is n h = due_only (reached es now.taken now.instructions) (untaken es now.taken) (is_waiting now.state) n h

  -- it is not, where its place is not reached and something waits or can happen
  busy_next : (e : Entry) → slice_get es o.presented ≡ Some e → now.instructions < e.place.n → (is_waiting now.state && is_empty o) ≡ false → is_in next (due rules now) ≡ true → ⊥
  busy_next e here late busy h =
      elim (due_is next h) [
        | inl r ↦
            (let found = in_reached es now.taken now.instructions next r in
            let reach = found.1.2 in
            let is = ap (λ (x : Entry). x.place.n) (same_Some e found.1.0 (sym here ∙ at_next found.1.0 found.1.1)) in
            omega (arith, reach, late, is))
        | inr only ↦
            (let waits = some_waits es now.taken o.presented o.log.slots o.unix.pending there (sym (ap (λ b. b && is_empty o) only.1) ∙ busy) in
            let least = least_of (untaken es now.taken) next waits.number (untaken_ascends es now.taken) only.2 waits.left in
            let low = waits.low in
            omega (arith, least, low))
      ]

  -- nor where there is none
  absent_next : slice_get es o.presented ≡ None → is_in next (due rules now) ≡ true → ⊥
  absent_next none h =
      let left : is_in next (untaken es now.taken) ≡ true =
      elim (due_is next h) [
        | inl r ↦ (in_reached es now.taken now.instructions next r).0
        | inr only ↦ first_in (untaken es now.taken) next only.2
      ] in
      let found = in_untaken es now.taken next left in
      let e : None ≡ Some found.0 = sym none ∙ at_next found.0 found.1 in
      cc

  -- so the next entry is due exactly where its place is reached, or nothing waits and nothing else can happen
  pub next_due : (waiting : Bool) → waiting ≡ (is_waiting now.state && is_empty o)
      → is_reached_or (next_place rules.journal o.presented) now.instructions waiting ≡ is_in (o.presented + 1) (due rules now)
  next_due waiting is = by (slice_get es o.presented) refl ∙ ap (λ n. is_in n (due rules now)) (let e : next ≡ o.presented + 1 = omega arith in e)
    where
      false_of : (b : Bool) → (b ≡ true → ⊥) → false ≡ b
      false_of true h = absurd (h refl)
      false_of false h = refl

      late_is : (e : Entry) → slice_get es o.presented ≡ Some e → now.instructions < e.place.n → (w : Bool) → w ≡ (is_waiting now.state && is_empty o) → w ≡ is_in next (due rules now)
      late_is e here late true w = let both = and_parts (is_waiting now.state) (is_empty o) (sym w) in sym (awaited_next e here late both.1 both.0)
      late_is e here late false w = false_of (is_in next (due rules now)) (busy_next e here late (sym w))

      by : (found : Option Entry) → slice_get es o.presented ≡ found → is_reached_or (option_map (λ (e : Entry). e.place.n) found) now.instructions waiting ≡ is_in next (due rules now)
      by None here = false_of (is_in next (due rules now)) (absent_next here)
      by (Some e) here =
          elim (cases_Bool (nat_le e.place.n now.instructions)) [
            | inl low ↦ ap (λ b. b || waiting) low ∙ sym (reached_next e here (leb-true e.place.n now.instructions low))
            | inr high ↦ ap (λ b. b || waiting) high ∙ late_is e here (leb-false e.place.n now.instructions high) waiting is
          ]

  -- where nothing waits and the next entry is not due, nothing is due
  pub nothing_due : is_empty o ≡ true → is_in (o.presented + 1) (due rules now) ≡ false → due rules now ≡ []
  unfolding due
  nothing_due none not_next = nil_of (due rules now) (λ n h. elim (due_is n h) [
    | inl r ↦ early n (in_reached es now.taken now.instructions n r).0 (λ first left low.
        in_due first (reached_before es now.taken now.instructions n next first.0 journal.each left (entry_index es o.presented ∙ first.1) low r))
    | inr only ↦ early n (first_in (untaken es now.taken) n only.2) (λ first left low.
        (let least = least_of (untaken es now.taken) n next (untaken_ascends es now.taken) only.2 left in
        let is : n ≡ next = omega (arith, least, low) in
        subst (λ m. is_in m (due rules now) ≡ true) is h))
  ])
    where
      in_due : (first : (e : Entry) × (slice_get es o.presented ≡ Some e)) → is_in next (reached es now.taken now.instructions) ≡ true → is_in next (due rules now) ≡ true
      in_due first r = in_due_by (reached es now.taken now.instructions) (untaken es now.taken) (is_waiting now.state) next r

      -- no entry that is left is due, as the next one would be
      early : (n : ℕ) → is_in n (untaken es now.taken) ≡ true
          → ((first : (e : Entry) × (slice_get es o.presented ≡ Some e)) → is_in next (untaken es now.taken) ≡ true → next ≤ n → is_in next (due rules now) ≡ true) → ⊥
      early n left also =
          let inside = range_in next (length es - o.presented) n (sym (ap (is_in n) (behind none)) ∙ left) in
          let low = inside.0 in
          let high = inside.1 in
          let first = get_some es o.presented (omega (arith, low, high)) in
          let here = also first (next_untaken es now.taken o.presented o.log.slots o.unix.pending there first.0 first.1) low in
          let same_number : o.presented + 1 ≡ next = omega arith in
          let e : false ≡ true = sym not_next ∙ ap (λ m. is_in m (due rules now)) same_number ∙ here in
          cc

  -- before the stop the next entry is not due, where a thread can go on
  pub none_before : (budget : ℕ) → is_waiting now.state ≡ false → now.instructions < stop_of budget (next_place rules.journal o.presented) → is_in (o.presented + 1) (due rules now) ≡ false
  none_before budget busy before =
      sym (next_due false (sym (ap (λ b. b && is_empty o) busy))) ∙ by (next_place rules.journal o.presented) before
    where
      by : (place : Option ℕ) → now.instructions < stop_of budget place → is_reached_or place now.instructions false ≡ false
      by None less = refl
      by (Some n) less = ap (λ b. b || false) (lt-leb n now.instructions (let least = min_le n budget in omega (arith, less, least)))

  -- where the next entry is not due, though a thread can go on, its place is not reached
  pub not_reached : is_waiting now.state ≡ false → is_in (o.presented + 1) (due rules now) ≡ false → (n : ℕ) → next_place rules.journal o.presented ≡ Some n → now.instructions < n
  not_reached busy none n is =
      let found : (nat_le n now.instructions || false) ≡ false =
      ap (λ place. is_reached_or place now.instructions false) (sym is) ∙ next_due false (sym (ap (λ b. b && is_empty o) busy)) ∙ none in
      elim (cases_Bool (nat_le n now.instructions)) [
        | inl low ↦ absurd (let e : true ≡ false = sym (ap (λ b. b || false) low) ∙ found in cc)
        | inr high ↦ leb-false n now.instructions high
      ]

  -- an entry more was presented, which is due
  pub due_more : AreDue rules now o.presented → is_in (o.presented + 1) (due rules now) ≡ true → AreDue rules now (o.presented + 1)
  due_more before also n left low =
      elim (cases_eq n (o.presented + 1)) [
        | inl is ↦ ap (λ m. is_in m (due rules now)) is ∙ also
        | inr other ↦ before n left (omega (arith, low, other))
      ]

-- ---- entries arrive

some_arrive : (kind : Kind) (count : ℕ) → IsAlone kind count → 1 ≤ count
some_arrive (OfSignal s) count alone = alone
some_arrive OfTicks count alone = omega (arith, alone)
some_arrive OfInput count alone = omega (arith, alone)

module _ (rules : Rules) (now : Moment) (first count : ℕ) (at : Place) (may : MayArrive rules now first count at) where
  abbrev later : Moment
  later = moved rules now (Arrive first count at)

  taken_is : (moved rules now (Arrive first count at)).taken ≡ with_taken now.taken (kind_of may.entry.what) count
  taken_is = ap (taken_by now.taken count) may.here

  some : 1 ≤ count
  some = some_arrive (kind_of may.entry.what) count may.alone

  -- what is left then was left before
  pub left_before : (n : ℕ) → is_in n (untaken rules.journal.entries (moved rules now (Arrive first count at)).taken) ≡ true → is_in n (untaken rules.journal.entries now.taken) ≡ true
  left_before n left =
      let es = rules.journal.entries in
      let kind = kind_of may.entry.what in
      let found = in_untaken es (with_taken now.taken kind count) n (sym (ap (λ t. is_in n (untaken es t)) taken_is) ∙ left) in
      let k = kind_of found.0.what in
      untaken_from es now.taken n found.0 found.1 (in_drop_less (now.taken k) (with_taken now.taken kind count k) (numbers_from k 1 es) n (more_taken now.taken kind k count) found.2)

  -- the first of them is left no longer
  first_taken : is_in first (untaken rules.journal.entries (moved rules now (Arrive first count at)).taken) ≡ true → ⊥
  first_taken left =
      let es = rules.journal.entries in
      let kind = kind_of may.entry.what in
      let after : Kind → ℕ = with_taken now.taken kind count in
      let found = in_untaken es after first (sym (ap (λ t. is_in first (untaken es t)) taken_is) ∙ left) in
      let among : is_in first (left_of_kind es after kind) ≡ true = ap (λ (e : Entry). is_in first (left_of_kind es after (kind_of e.what))) (same_Some may.entry found.0 (sym may.here ∙ found.1)) ∙ found.2 in
      let so_many : after kind ≡ now.taken kind + count = cond-true (is_kind kind kind) (now.taken kind + count) (now.taken kind) (is_kind_refl kind) in
      let off : left_of_kind es after kind ≡ drop count (left_of_kind es now.taken kind) =
      ap (λ c. drop c (numbers_from kind 1 es)) so_many ∙ sym (drop-drop count (now.taken kind) (numbers_from kind 1 es)) in
      first_gone (left_of_kind es now.taken kind) first count (left_ascends es now.taken kind) may.next some (sym (ap (is_in first) off) ∙ among)

  -- those that were presented and are left stay due
  pub due_later : (presented : ℕ) → AreDue rules now presented → AreDue rules (moved rules now (Arrive first count at)) presented
  unfolding due
  due_later presented before n left low =
      let es = rules.journal.entries in
      let was = left_before n left in
      elim (only n (before n was low)) [
        | inl r ↦ again n left r
        | inr alone ↦ absurd (elim (only first (first_of_all (λ m. is_in m (due rules now) ≡ true) count (left_of_kind es now.taken (kind_of may.entry.what)) first some may.next may.due)) [
          | inl r ↦ (let none : false ≡ true = sym (ap (is_in first) alone.0) ∙ r in cc)
          | inr its ↦ first_taken (subst (λ m. is_in m (untaken es later.taken) ≡ true) (same_Some n first (sym alone.2 ∙ its.2)) left)
        ])
      ]
    where
      only : (n : ℕ) → is_in n (due rules now) ≡ true → IsOnly (reached rules.journal.entries now.taken now.instructions) (untaken rules.journal.entries now.taken) (is_waiting now.state) n
      only n h = due_only (reached rules.journal.entries now.taken now.instructions) (untaken rules.journal.entries now.taken) (is_waiting now.state) n h

      again : (n : ℕ) → is_in n (untaken rules.journal.entries later.taken) ≡ true → is_in n (reached rules.journal.entries now.taken now.instructions) ≡ true → is_in n (due rules later) ≡ true
      again n left r =
          let found = in_reached rules.journal.entries now.taken now.instructions n r in
          in_due_by (reached rules.journal.entries later.taken now.instructions) (untaken rules.journal.entries later.taken) (is_waiting later.state) n
          (reached_from rules.journal.entries later.taken now.instructions n found.1.0 left found.1.1 found.1.2)

-- ---- few are taken

numbers_le : (kind : Kind) (n : ℕ) (es : List Entry) → length (numbers_from kind n es) ≤ length es
numbers_le kind n [] = omega arith
numbers_le kind n (e ∷ es) =
    let rest = numbers_le kind (n + 1) es in
    cond_both (is_kind kind (kind_of e.what)) (n ∷ numbers_from kind (n + 1) es) (numbers_from kind (n + 1) es) (λ xs. length xs ≤ length (e ∷ es)) (λ is. omega (arith, rest)) (λ un. omega (arith, rest))

front_le : (few : ℕ) (es : List Entry) → length (take few es) ≤ length es
front_le zero es = omega arith
front_le (suc few) [] = omega arith
front_le (suc few) (e ∷ es) = let rest = front_le few es in omega (arith, rest)

total_le : (f : ℕ → ℕ) (n : ℕ) (xs : List ℕ) → ((x : ℕ) → f x ≤ n) → total f xs ≤ length xs * n
total_le f n [] h = omega arith
total_le f n (x ∷ xs) h =
    let rest = total_le f n xs h in
    let here = h x in
    omega (arith, rest, here)

length_signals : length signals ≡ 31
unfolding signals
length_signals = refl

-- no more of a kind than there are entries
pub kind_few : (entries : List Entry) (taken : Kind → ℕ) (presented : ℕ) (log pending : List Taken) → StandsFor entries taken presented log pending → length entries ≤ 1000000
    → (k : Kind) → taken k ≤ 1000000
kind_few entries taken presented log pending s few k =
    let within = taken_within entries taken presented log pending s k in
    let numbers = numbers_le k 1 (take presented entries) in
    let front = front_le presented entries in
    omega (arith, within, numbers, front, few)

-- no more of all kinds together than 33 times as many
pub taken_few : (taken : Kind → ℕ) → ((k : Kind) → taken k ≤ 1000000) → taken_in_all taken ≤ 33000000
taken_few taken each =
    let of_signals = total_le (λ sig. taken (OfSignal sig)) 1000000 signals (λ sig. each (OfSignal sig)) in
    let count = length_signals in
    let ticks = each OfTicks in
    let input = each OfInput in
    omega (arith, of_signals, count, ticks, input)
