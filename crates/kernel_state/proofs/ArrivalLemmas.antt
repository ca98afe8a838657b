-- What is drained may arrive, and where nothing is left every entry that was presented is taken.
use Rattle.std.proofs.Common.{◌≡◌, ◌∙◌, refl, sym, ap, subst, arith, inl, inr, ℕ, zero, suc, ◌+◌, ◌-◌, ◌<◌, ◌≤◌, Bool, true, false, List, [], ◌∷◌, ◌++◌, length, take, drop, filter, Option, Some, None}
use Rattle.std.specs.Prelude.{◌==◌, ◌||◌, ◌&&◌, slice_get}
use Rattle.std.specs.List.{AllByRecursion, list_any, range_with_len}
use Rattle.std.proofs.lemmas.Bool.{cases_eq, cond-false, or_left, eq-eqb, ne_eqb}
use Rattle.std.proofs.lemmas.Option.{same_Some}
use Rattle.std.proofs.lemmas.List.{length-append, length-drop}
use Rattle.thread_base.specs.Orders.{is_in}
use Rattle.thread_base.proofs.SearchLemmas.{range_in}
use Rattle.thread_base.specs.declared.Place.{Place}
use Rattle.journal_text.specs.Contents.{Contents}
use Rattle.journal_text.specs.declared.entry.Entry.{Entry}
use Rattle.unix_process.specs.declared.UnixEvent.{UnixEvent}
use Rattle.unix_process.specs.declared.Taken.{Taken}
use Rattle.unix_process.specs.Merging.{IsEvent, one_entry, merged}
use Rattle.posix_model.specs.Journals.{Kind, kind_of, is_kind, with_taken, numbers_from, left_of_kind, entry_at, is_left_as, untaken, reached}
use Rattle.posix_model.specs.Runs.{Rules, Moment, due, due_by, is_waiting, taken_by, moved, IsAlone, MayArrive}
use Rattle.posix_model.specs.declared.Move.TheVariants.{Arrive}
use Rattle.posix_model.proofs.JournalLemmas.{is_kind_refl, place_in, left_entry, in_untaken, untaken_from, reached_from}
use Rattle.kernel_state.specs.Outside.{OutsideState, event_of, is_of, drained, drained_of, left_drained, drain, is_nothing}
use Rattle.kernel_state.specs.Presented.{kind_of_event, event_of_kind, StandsFor, Stands, IsOfEntry, AreDue}
use Rattle.kernel_state.proofs.NumberLemmas.{get_drop, get_in, all_take, get_some, filter_range, early, numbers_split, not_below, number_in}
use Rattle.kernel_state.proofs.PresentedLemmas.{back_to_kind, kind_event, first_slot, slot_fits, stands_drained, stands_accepted, stands_logged, IsPart, is_part}

-- ---- which entries are due

in_due_by : (reached_ones left : List ℕ) (waiting : Bool) (n : ℕ) → is_in n reached_ones ≡ true → is_in n (due_by reached_ones left waiting) ≡ true
in_due_by [] left waiting n h = let e : false ≡ true = h in absurd (cc)
in_due_by (x ∷ xs) left waiting n h = h

first_due : (left : List ℕ) (n : ℕ) → slice_get left 0 ≡ Some n → is_in n (due_by [] left true) ≡ true
first_due [] n h = let e : None ≡ Some n = h in absurd (cc)
first_due (x ∷ xs) n h = or_left (n == x) false (eq-eqb n x (sym (same_Some x n h)))

-- entries whose places are reached are due
pub due_reached : (rules : Rules) (now : Moment) (presented : ℕ)
    → ((n : ℕ) (e : Entry) → is_in n (untaken rules.journal.entries now.taken) ≡ true → n ≤ presented → entry_at rules.journal.entries n ≡ Some e → e.place.n ≤ now.instructions)
    → AreDue rules now presented
unfolding due
due_reached rules now presented places n left low =
    let found = in_untaken rules.journal.entries now.taken n left in
    in_due_by (reached rules.journal.entries now.taken now.instructions) (untaken rules.journal.entries now.taken) (is_waiting now.state) n
    (reached_from rules.journal.entries now.taken now.instructions n found.0 left found.1 (places n found.0 left low found.1))

-- where nothing else can happen and no place is reached, the first entry that is left is due
pub due_waiting : (rules : Rules) (now : Moment) (presented : ℕ) → is_waiting now.state ≡ true → reached rules.journal.entries now.taken now.instructions ≡ []
    → ((n : ℕ) → is_in n (untaken rules.journal.entries now.taken) ≡ true → n ≤ presented → slice_get (untaken rules.journal.entries now.taken) 0 ≡ Some n)
    → AreDue rules now presented
unfolding due
due_waiting rules now presented waiting none first n left low =
    (λ i. is_in n (due_by (none i) (untaken rules.journal.entries now.taken) (waiting i)))
    ∙ first_due (untaken rules.journal.entries now.taken) n (first n left low)

-- ---- what may arrive

module _ (entries : List Entry) (taken : Kind → ℕ) (presented : ℕ) (t : Taken) (ts pending : List Taken) (s : StandsFor entries taken presented (t ∷ ts) pending) where
  abbrev numbers : List ℕ
  numbers = numbers_from (kind_of_event t.event) 1 entries

  abbrev left : List ℕ
  left = left_of_kind entries taken (kind_of_event t.event)

  -- the first entry of the slot is the next of its kind
  pub slot_next : slice_get (left_of_kind entries taken (kind_of_event t.event)) 0 ≡ Some t.first
  slot_next =
      get_drop (taken (kind_of_event t.event)) 0 numbers
      ∙ ap (slice_get numbers) (let e : taken (kind_of_event t.event) + 0 ≡ taken (kind_of_event t.event) = omega arith in e)
      ∙ first_slot entries taken presented t ts pending s

  pub slot_entry : (e : Entry) × (entry_at entries t.first ≡ Some e) × (kind_of_event t.event ≡ kind_of e.what)
  slot_entry = left_entry entries taken (kind_of_event t.event) t.first (get_in left 0 t.first slot_next)

  -- no more are counted than are left
  pub slot_enough : t.count ≤ length (left_of_kind entries taken (kind_of_event t.event))
  slot_enough =
      let fits = slot_fits entries taken presented t ts pending s in
      let split = ap length (numbers_split (kind_of_event t.event) 1 presented entries) ∙ length-append (numbers_from (kind_of_event t.event) 1 (take presented entries)) (numbers_from (kind_of_event t.event) (1 + presented) (drop presented entries)) in
      let off = length-drop (taken (kind_of_event t.event)) numbers in
      omega (arith, fits, split, off)

  -- each of them was presented and is not taken
  pub slot_each : (i n : ℕ) → i < t.count → slice_get (left_of_kind entries taken (kind_of_event t.event)) i ≡ Some n
      → (is_in n (untaken entries taken) ≡ true) × (n ≤ presented)
  slot_each i n low is =
      let fits = slot_fits entries taken presented t ts pending s in
      let among = get_in left i n is in
      let entry = left_entry entries taken (kind_of_event t.event) n among in
      let below = early (kind_of_event t.event) 1 presented entries (taken (kind_of_event t.event) + i) n (omega (arith, fits, low)) (sym (get_drop (taken (kind_of_event t.event)) i numbers) ∙ is) in
      (untaken_from entries taken n entry.0 entry.1 (ap (λ k. is_in n (left_of_kind entries taken k)) (sym entry.2) ∙ among), omega (arith, below))

-- some entries of the first slot may arrive, where all that were presented are due
slot_may : (rules : Rules) (now : Moment) (presented : ℕ) (t : Taken) (ts pending : List Taken) (count : ℕ) (at : Place)
    → StandsFor rules.journal.entries now.taken presented (t ∷ ts) pending → AreDue rules now presented
    → IsAlone (kind_of_event t.event) count → count ≤ t.count → now.state.over ≡ None → at.n ≡ now.instructions → MayArrive rules now t.first count at
slot_may rules now presented t ts pending count at s due_ones alone few going place =
    let entries = rules.journal.entries in
    let entry = slot_entry entries now.taken presented t ts pending s in
    let kind = entry.2 in
    let enough = slot_enough entries now.taken presented t ts pending s in
    record {
      going_on = going;
      entry = entry.0;
      here = entry.1;
      next = ap (λ k. slice_get (left_of_kind entries now.taken k) 0) (sym kind) ∙ slot_next entries now.taken presented t ts pending s;
      alone = subst (λ k. IsAlone k count) kind alone;
      enough = subst (λ k. count ≤ length (left_of_kind entries now.taken k)) kind (omega (arith, few, enough));
      due =
          subst (λ k. AllByRecursion (λ n. is_in n (due rules now) ≡ true) (take count (left_of_kind entries now.taken k))) kind
          (all_take (λ n. is_in n (due rules now) ≡ true) count (left_of_kind entries now.taken (kind_of_event t.event)) (λ i n low is.
          let one = slot_each entries now.taken presented t ts pending s i n (omega (arith, low, few)) is in
          due_ones n one.0 one.1));
      place = place;
    }

-- what is drained is the next of its kind, and counts no more than are left
module _ (o : OutsideState) (taken : Kind → ℕ) (d : Taken) (s : Stands o taken) (is : drained o.log.slots ≡ Some d) where
  -- the first slot
  pub record IsFirst : Type 0 where
    pub t : Taken
    pub ts : List Taken
    pub all : o.log.slots ≡ t ∷ ts
    pub drained_so : drained_of t ≡ d
    pub part : IsPart t d

  of_slots : (slots : List Taken) → o.log.slots ≡ slots → drained slots ≡ Some d → IsFirst
  of_slots [] e h = absurd (let x : None ≡ Some d = h in cc)
  of_slots (t ∷ ts) e h =
      let same = same_Some (drained_of t) d h in
      let counted = (subst (λ ls. StandsFor o.journal.entries taken o.presented ls o.unix.pending) e s).counted_logged.0 in
      record { t = t; ts = ts; all = e; drained_so = same; part = subst (IsPart t) same (is_part t.event t.first t.count counted) }

  pub first_of_log : IsFirst
  first_of_log = of_slots o.log.slots refl is

  -- all that is drained may arrive, where every entry that was presented is due
  pub drained_may : (rules : Rules) (now : Moment) (at : Place) → o.journal ≡ rules.journal → taken ≡ now.taken → AreDue rules now o.presented
      → now.state.over ≡ None → at.n ≡ now.instructions → MayArrive rules now d.first d.count at
  drained_may rules now at journal same due_ones going place =
      let f = first_of_log in
      let there : StandsFor rules.journal.entries now.taken o.presented (f.t ∷ f.ts) o.unix.pending =
      subst (λ (j : Contents). StandsFor j.entries now.taken o.presented (f.t ∷ f.ts) o.unix.pending) journal
      (subst (λ k. StandsFor o.journal.entries k o.presented (f.t ∷ f.ts) o.unix.pending) same
      (subst (λ ls. StandsFor o.journal.entries taken o.presented ls o.unix.pending) f.all s)) in
      subst (λ n. MayArrive rules now n d.count at) (sym f.part.first)
      (slot_may rules now o.presented f.t f.ts o.unix.pending d.count at there due_ones f.part.alone f.part.fits going place)

  -- the rest stands for what is left then
  pub drained_stands : Stands (drain o) (with_taken taken (kind_of_event d.event) d.count)
  drained_stands =
      let f = first_of_log in
      subst (λ ls. StandsFor o.journal.entries (with_taken taken (kind_of_event d.event) d.count) o.presented (left_drained o ls) o.unix.pending) (sym f.all)
      (subst (λ e. StandsFor o.journal.entries (with_taken taken (kind_of_event e) d.count) o.presented (left_drained o (f.t ∷ f.ts)) o.unix.pending) (sym f.part.event)
      (subst (λ (x : Taken). StandsFor o.journal.entries (with_taken taken (kind_of_event f.t.event) x.count) o.presented (left_drained o (f.t ∷ f.ts)) o.unix.pending) f.drained_so
      (stands_drained o taken f.t.event f.t.first f.t.count f.ts o.unix.pending
      (subst (λ ls. StandsFor o.journal.entries taken o.presented ls o.unix.pending) f.all s))))

  -- the entry that is told
  pub drained_entry : (e : Entry) × (entry_at o.journal.entries d.first ≡ Some e) × (kind_of_event d.event ≡ kind_of e.what)
  drained_entry =
      let f = first_of_log in
      let found = slot_entry o.journal.entries taken o.presented f.t f.ts o.unix.pending (subst (λ ls. StandsFor o.journal.entries taken o.presented ls o.unix.pending) f.all s) in
      (found.0, ap (entry_at o.journal.entries) f.part.first ∙ found.1, ap kind_of_event f.part.event ∙ found.2)

  -- it was presented, and is of the event
  pub drained_of_entry : IsOfEntry o d
  drained_of_entry =
      let f = first_of_log in
      let there = subst (λ ls. StandsFor o.journal.entries taken o.presented ls o.unix.pending) f.all s in
      let one = slot_each o.journal.entries taken o.presented f.t f.ts o.unix.pending there 0 f.t.first (let some = f.part.some in let fits = f.part.fits in omega (arith, some, fits))
      (slot_next o.journal.entries taken o.presented f.t f.ts o.unix.pending there) in
      let found = drained_entry in
      let at = place_in o.journal.entries d.first found.0 found.1 in
      let from = at.1 in
      let low = one.1 in
      let same = f.part.first in
      record {
        low = omega (arith, from);
        presented = omega (arith, low, same);
        event =
            ap (is_of d.event) found.1
            ∙ sym (kind_event d.event found.0.what)
            ∙ ap (is_kind (kind_of_event d.event)) (sym found.2)
            ∙ is_kind_refl (kind_of_event d.event);
      }

  -- so it is after the move by which they arrive
  pub moved_stands : (rules : Rules) (now : Moment) (at : Place) → o.journal ≡ rules.journal → taken ≡ now.taken
      → Stands (drain o) (moved rules now (Arrive d.first d.count at)).taken
  moved_stands rules now at journal same =
      let found = drained_entry in
      subst (Stands (drain o))
      ((λ i. with_taken (same i) (found.2 i) d.count)
      ∙ (λ i. taken_by now.taken d.count (sym found.1 i))
      ∙ ap (λ (j : Contents). taken_by now.taken d.count (entry_at j.entries d.first)) journal)
      drained_stands

-- ---- nothing is left

flip_eq : (a b : ℕ) → (a == b) ≡ (b == a)
flip_eq a b =
    elim (cases_eq a b) [
      | inl same ↦ eq-eqb a b same ∙ sym (eq-eqb b a (sym same))
      | inr other ↦ ne_eqb a b other ∙ sym (ne_eqb b a (λ e. other (sym e)))
    ]

flip_in : (n : ℕ) (xs : List ℕ) → list_any (λ x. x == n) xs ≡ is_in n xs
flip_in n [] = refl
flip_in n (x ∷ xs) = λ i. flip_eq x n i || flip_in n xs i

-- an entry is left as the numbers of its kind say
left_as_kind : (entries : List Entry) (taken : Kind → ℕ) (n : ℕ) (b : Bool) (o : Option Entry)
    → ((e : Entry) → o ≡ Some e → is_in n (left_of_kind entries taken (kind_of e.what)) ≡ b) → (o ≡ None → false ≡ b) → is_left_as entries taken n o ≡ b
left_as_kind entries taken n b None some none = none refl
left_as_kind entries taken n b (Some e) some none = flip_in n (left_of_kind entries taken (kind_of e.what)) ∙ some e refl

seam : (xs ys : List ℕ) → drop (length xs) (xs ++ ys) ≡ ys
seam [] ys = refl
seam (x ∷ xs) ys = seam xs ys

pub entry_index : (entries : List Entry) (j : ℕ) → entry_at entries (1 + j) ≡ slice_get entries j
entry_index entries j =
    cond-false (1 + j == 0) None (slice_get entries (1 + j - 1)) (ne_eqb (1 + j) 0 (λ e. omega (arith, e)))
    ∙ ap (slice_get entries) (let e : 1 + j - 1 ≡ j = omega arith in e)

module _ (entries : List Entry) (taken : Kind → ℕ) (presented : ℕ) (s : StandsFor entries taken presented [] []) where
  -- of each kind those are left that were not presented
  left_is : (k : Kind) → left_of_kind entries taken k ≡ numbers_from k (1 + presented) (drop presented entries)
  left_is k =
      let all : taken k ≡ length (numbers_from k 1 (take presented entries)) =
      subst (λ x. taken x ≡ length (numbers_from x 1 (take presented entries))) (back_to_kind k) (let c = s.counts (event_of_kind k) in omega (arith, c)) in
      ap (λ xs. drop (taken k) xs) (numbers_split k 1 presented entries)
      ∙ ap (λ n. drop n (numbers_from k 1 (take presented entries) ++ numbers_from k (1 + presented) (drop presented entries))) all
      ∙ seam (numbers_from k 1 (take presented entries)) (numbers_from k (1 + presented) (drop presented entries))

  none_before : (n : ℕ) → 1 ≤ n → n < 1 + presented → is_left_as entries taken n (entry_at entries n) ≡ false
  none_before n low high =
      left_as_kind entries taken n false (entry_at entries n)
      (λ e is. ap (is_in n) (left_is (kind_of e.what)) ∙ not_below (kind_of e.what) (1 + presented) (drop presented entries) n high)
      (λ none. refl)

  there_after : (n j : ℕ) (x : Entry) → n ≡ 1 + presented + j → slice_get entries (presented + j) ≡ Some x → is_left_as entries taken n (entry_at entries n) ≡ true
  there_after n j x at is =
      left_as_kind entries taken n true (entry_at entries n)
      (λ e also.
      ap (is_in n) (left_is (kind_of e.what))
      ∙ ap (λ m. is_in m (numbers_from (kind_of e.what) (1 + presented) (drop presented entries))) at
      ∙ number_in (kind_of e.what) (1 + presented) (drop presented entries) j e (get_drop presented j entries ∙ is ∙ sym here ∙ also) (is_kind_refl (kind_of e.what)))
      (λ none. absurd (let e : Some x ≡ None = sym here ∙ none in cc))
    where
      here : entry_at entries n ≡ Some x
      here = ap (entry_at entries) (let e : n ≡ 1 + (presented + j) = omega (arith, at) in e) ∙ entry_index entries (presented + j) ∙ is

  all_after : (n : ℕ) → 1 + presented ≤ n → n < 1 + presented + (length entries - presented) → is_left_as entries taken n (entry_at entries n) ≡ true
  all_after n low high =
      let found = get_some entries (presented + (n - 1 - presented)) (omega (arith, low, high)) in
      there_after n (n - 1 - presented) found.0 (omega (arith, low)) found.1

  -- where nothing is logged and nothing pends, those are left that were not presented
  pub nothing_left : untaken entries taken ≡ range_with_len (1 + presented) (length entries - presented)
  unfolding untaken
  nothing_left =
      let within = s.within in
      ap (λ c. filter (λ n. is_left_as entries taken n (entry_at entries n)) (range_with_len 1 c)) (let e : length entries ≡ presented + (length entries - presented) = omega (arith, within) in e)
      ∙ filter_range (λ n. is_left_as entries taken n (entry_at entries n)) 1 presented (length entries - presented) none_before all_after

  -- then the next entry is due where nothing else can happen and no place is reached
  pub idle_due : (rules : Rules) (now : Moment) → entries ≡ rules.journal.entries → taken ≡ now.taken → is_waiting now.state ≡ true
      → reached rules.journal.entries now.taken now.instructions ≡ [] → AreDue rules now (presented + 1)
  idle_due rules now journal same waiting none =
      due_waiting rules now (presented + 1) waiting none (λ n left low.
      head_only (untaken rules.journal.entries now.taken) n (sym (λ i. untaken (journal i) (same i)) ∙ nothing_left) left low)
    where
      low_head : (first count n : ℕ) → is_in n (range_with_len first count) ≡ true → n ≤ first → slice_get (range_with_len first count) 0 ≡ Some n
      low_head first zero n h le = absurd (let e : false ≡ true = h in cc)
      low_head first (suc count) n h le = ap Some (let in_it = range_in first (suc count) n h in omega (arith, in_it.0, le))

      head_only : (left : List ℕ) (n : ℕ) → left ≡ range_with_len (1 + presented) (length entries - presented) → is_in n left ≡ true → n ≤ presented + 1
          → slice_get left 0 ≡ Some n
      head_only left n is among le =
          ap (λ xs. slice_get xs 0) is ∙ low_head (1 + presented) (length entries - presented) n (sym (ap (is_in n) is) ∙ among) (omega (arith, le))

-- nothing is logged and nothing pends
are_nothing : (a b : List Taken) → (is_nothing a && is_nothing b) ≡ true → (a ≡ []) × (b ≡ [])
are_nothing [] [] h = (refl, refl)
are_nothing [] (t ∷ ts) h = let e : false ≡ true = h in absurd (cc)
are_nothing (t ∷ ts) b h = let e : false ≡ true = h in absurd (cc)

pub stands_empty : (o : OutsideState) (taken : Kind → ℕ) → (is_nothing o.log.slots && is_nothing o.unix.pending) ≡ true → Stands o taken
    → StandsFor o.journal.entries taken o.presented [] []
stands_empty o taken h s =
    let none = are_nothing o.log.slots o.unix.pending h in
    subst (λ ls. StandsFor o.journal.entries taken o.presented ls []) none.0
    (subst (λ ps. StandsFor o.journal.entries taken o.presented o.log.slots ps) none.1 s)

-- ---- an entry is presented

there_at : (entries : List Entry) (presented number : ℕ) (entry : Entry) → number ≡ presented + 1 → entry_at entries number ≡ Some entry → slice_get entries presented ≡ Some entry
there_at entries presented number entry next here =
    sym (entry_index entries presented) ∙ ap (entry_at entries) (omega (arith, next)) ∙ here

module _ (o : OutsideState) (taken : Kind → ℕ) (number : ℕ) (event : UnixEvent) (entry : Entry) (next : number ≡ o.presented + 1)
    (here : entry_at o.journal.entries number ≡ Some entry) (is : event ≡ event_of entry.what) (known : IsEvent event) (s : Stands o taken) where
  pub accept_stands : StandsFor o.journal.entries taken number o.log.slots (merged (one_entry event number) o.unix.pending)
  accept_stands =
      subst (λ n. StandsFor o.journal.entries taken n o.log.slots (merged (one_entry event n) o.unix.pending)) (sym next)
      (subst (λ d. StandsFor o.journal.entries taken (o.presented + 1) o.log.slots (merged (one_entry d (o.presented + 1)) o.unix.pending)) (sym is)
      (stands_accepted o.journal.entries taken o.presented entry (there_at o.journal.entries o.presented number entry next here) (subst IsEvent is known) o.log.slots o.unix.pending s))

  pub log_stands : o.unix.pending ≡ [] → StandsFor o.journal.entries taken number (merged (one_entry event number) o.log.slots) o.unix.pending
  log_stands none =
      subst (λ n. StandsFor o.journal.entries taken n (merged (one_entry event n) o.log.slots) o.unix.pending) (sym next)
      (subst (λ d. StandsFor o.journal.entries taken (o.presented + 1) (merged (one_entry d (o.presented + 1)) o.log.slots) o.unix.pending) (sym is)
      (subst (λ ps. StandsFor o.journal.entries taken (o.presented + 1) (merged (one_entry (event_of entry.what) (o.presented + 1)) o.log.slots) ps) (sym none)
      (stands_logged o.journal.entries taken o.presented entry (there_at o.journal.entries o.presented number entry next here) (subst IsEvent is known) o.log.slots
      (subst (λ ps. StandsFor o.journal.entries taken o.presented o.log.slots ps) none s))))
