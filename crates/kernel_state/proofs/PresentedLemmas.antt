-- What pends and is logged stands for the entries that were presented and are not taken: at the start, where an entry is
-- presented, where all is gathered, and where some are drained.
use Rattle.std.proofs.Common.{◌≡◌, ◌∙◌, refl, sym, ap, subst, arith, inl, inr, ℕ, zero, suc, ◌+◌, ◌-◌, ◌<◌, ◌≤◌, Bool, true, false, cond, List, [], ◌∷◌, length, take, drop, find, Option, Some, None}
use Rattle.std.specs.Prelude.{slice_get, nat_lt}
use Rattle.std.specs.List.{range_with_len}
use Rattle.std.specs.Option.{option_or}
use Rattle.std.proofs.lemmas.Bool.{cases_Bool, cond-true, cond-false, or_parts, eq-eqb, ltb-false, ltb-true}
use Rattle.std.proofs.lemmas.Option.{same_Some}
use Rattle.std.proofs.lemmas.List.{length-append}
use Rattle.journal_text.specs.declared.entry.Entry.{Entry}
use Rattle.journal_text.specs.declared.entry.What.{What}
use Rattle.journal_text.specs.declared.entry.What.TheVariants as what
use Rattle.unix_process.specs.declared.UnixEvent.{UnixEvent}
use Rattle.unix_process.specs.declared.UnixEvent.TheVariants.{Sig, Tick, Input}
use Rattle.unix_process.specs.declared.Taken.{Taken}
use Rattle.unix_process.specs.Merging.{same_event, IsEvent, one_entry, merged, count_of, first_of, is_among, IsTally}
use Rattle.unix_process.proofs.MergingLemmas.{same_comm, same_is, counts_add_up, firsts_stay, stays_tally, stays_counted}
use Rattle.monitor_log.specs.Log.{left_after_one}
use Rattle.posix_model.specs.Journals.{Kind, OfSignal, OfTicks, OfInput, kind_of, is_kind, with_taken, nothing_taken, numbers_from}
use Rattle.posix_model.specs.Runs.{IsAlone}
use Rattle.kernel_state.specs.Outside.{OutsideState, event_of, is_of, gathered, next_of, number_at, drained_of, left_drained}
use Rattle.kernel_state.specs.Presented.{kind_of_event, event_of_kind, StandsFor}
use Rattle.kernel_state.proofs.NumberLemmas.{one_longer, new_number, get_some, find_at, of_kind, are_next, numbers_split, early}

-- ---- events and kinds

pub same_refl : (e : UnixEvent) → same_event e e ≡ true
same_refl (Sig s) = eq-eqb s s refl
same_refl Tick = refl
same_refl Input = refl

-- an entry's kind is that of its event
same_kind : (e : UnixEvent) (w : What) → is_kind (kind_of_event e) (kind_of w) ≡ same_event e (event_of w)
same_kind (Sig s) (what.Sig r) = refl
same_kind (Sig s) what.Tick = refl
same_kind (Sig s) (what.Data start len) = refl
same_kind (Sig s) what.Eof = refl
same_kind Tick (what.Sig r) = refl
same_kind Tick what.Tick = refl
same_kind Tick (what.Data start len) = refl
same_kind Tick what.Eof = refl
same_kind Input (what.Sig r) = refl
same_kind Input what.Tick = refl
same_kind Input (what.Data start len) = refl
same_kind Input what.Eof = refl

pub kind_event : (e : UnixEvent) (w : What) → is_kind (kind_of_event e) (kind_of w) ≡ same_event (event_of w) e
kind_event e w = same_kind e w ∙ same_comm e (event_of w)

kinds_agree : (e d : UnixEvent) → is_kind (kind_of_event e) (kind_of_event d) ≡ same_event e d
kinds_agree (Sig s) (Sig r) = refl
kinds_agree (Sig s) Tick = refl
kinds_agree (Sig s) Input = refl
kinds_agree Tick (Sig r) = refl
kinds_agree Tick Tick = refl
kinds_agree Tick Input = refl
kinds_agree Input (Sig r) = refl
kinds_agree Input Tick = refl
kinds_agree Input Input = refl

pub back_to_kind : (k : Kind) → kind_of_event (event_of_kind k) ≡ k
back_to_kind (OfSignal s) = refl
back_to_kind OfTicks = refl
back_to_kind OfInput = refl

-- what an entry of a kind is
pub signal_what : (sig : ℕ) (w : What) → kind_of_event (Sig sig) ≡ kind_of w → w ≡ what.Sig sig
signal_what sig (what.Sig r) h = ap what.Sig (sym (ap number h))
  where
    number : Kind → ℕ
    number (OfSignal s) = s
    number OfTicks = 0
    number OfInput = 0
signal_what sig what.Tick h = absurd (cc)
signal_what sig (what.Data start len) h = absurd (cc)
signal_what sig what.Eof h = absurd (cc)

pub tick_what : (w : What) → kind_of_event Tick ≡ kind_of w → w ≡ what.Tick
tick_what (what.Sig r) h = absurd (cc)
tick_what what.Tick h = refl
tick_what (what.Data start len) h = absurd (cc)
tick_what what.Eof h = absurd (cc)

-- how many of an event's kind are taken, where more of another's are
taken_other : (taken : Kind → ℕ) (e d : UnixEvent) (count : ℕ) → same_event d e ≡ false → with_taken taken (kind_of_event d) count (kind_of_event e) ≡ taken (kind_of_event e)
taken_other taken e d count un =
    cond-false (is_kind (kind_of_event e) (kind_of_event d)) (taken (kind_of_event e) + count) (taken (kind_of_event e)) (kinds_agree e d ∙ same_comm e d ∙ un)

taken_same : (taken : Kind → ℕ) (e d : UnixEvent) (count : ℕ) → same_event d e ≡ true → with_taken taken (kind_of_event d) count (kind_of_event e) ≡ taken (kind_of_event e) + count
taken_same taken e d count is =
    cond-true (is_kind (kind_of_event e) (kind_of_event d)) (taken (kind_of_event e) + count) (taken (kind_of_event e)) (kinds_agree e d ∙ same_comm e d ∙ is)

-- ---- counts and firsts of a tally

first_here : (t : Taken) (ts : List Taken) (e : UnixEvent) → same_event t.event e ≡ true → first_of e (t ∷ ts) ≡ Some t.first
first_here t ts e is = ap (λ b. cond b (Some t.first) (first_of e ts)) is

first_later : (t : Taken) (ts : List Taken) (e : UnixEvent) → same_event t.event e ≡ false → first_of e (t ∷ ts) ≡ first_of e ts
first_later t ts e un = ap (λ b. cond b (Some t.first) (first_of e ts)) un

count_here : (t : Taken) (ts : List Taken) (e : UnixEvent) → same_event t.event e ≡ true → count_of e (t ∷ ts) ≡ t.count + count_of e ts
count_here t ts e is = let one = cond-true (same_event t.event e) t.count 0 is in omega (arith, one)

count_later : (t : Taken) (ts : List Taken) (e : UnixEvent) → same_event t.event e ≡ false → count_of e (t ∷ ts) ≡ count_of e ts
count_later t ts e un = let none = cond-false (same_event t.event e) t.count 0 un in omega (arith, none)

-- an event without a first entry has no count
no_first : (ts : List Taken) (e : UnixEvent) → first_of e ts ≡ None → count_of e ts ≡ 0
no_first [] e h = refl
no_first (t ∷ ts) e h =
    elim (cases_Bool (same_event t.event e)) [
      | inl is ↦ absurd (let x : Some t.first ≡ None = sym (first_here t ts e is) ∙ h in cc)
      | inr un ↦ count_later t ts e un ∙ no_first ts e (sym (first_later t ts e un) ∙ h)
    ]

-- nor has one that is not among them a first entry
absent_first : (ts : List Taken) (e : UnixEvent) → is_among e ts ≡ false → first_of e ts ≡ None
absent_first [] e h = refl
absent_first (t ∷ ts) e h =
    let parts = or_parts (same_event t.event e) (is_among e ts) h in
    first_later t ts e parts.0 ∙ absent_first ts e parts.1

-- an event that stands first stands once
first_only : (t : Taken) (ts : List Taken) (e : UnixEvent) → IsTally (t ∷ ts) → same_event t.event e ≡ true → first_of e ts ≡ None
first_only t ts e once is = absent_first ts e (ap (λ d. is_among d ts) (sym (same_is t.event e is)) ∙ once.1)

-- the first entry after a merge
merged_first : (numbers : List ℕ) (base : ℕ) (item : Taken) (ts : List Taken) (e : UnixEvent) (f : ℕ)
    → ((g : ℕ) → first_of e ts ≡ Some g → slice_get numbers base ≡ Some g)
    → (first_of e ts ≡ None → same_event item.event e ≡ true → slice_get numbers base ≡ Some item.first)
    → first_of e (merged item ts) ≡ Some f → slice_get numbers base ≡ Some f
merged_first numbers base item ts e f old new h = by (first_of e ts) refl
  where
    added : (b : Bool) → cond b (Some item.first) None ≡ Some f → (b ≡ true) × (Some item.first ≡ Some f)
    added true x = (refl, x)
    added false x = absurd (let y : None ≡ Some f = x in cc)

    by : (o : Option ℕ) → first_of e ts ≡ o → slice_get numbers base ≡ Some f
    by (Some g) is =
        old g is ∙ ap (λ o. option_or o (cond (same_event item.event e) (Some item.first) None)) (sym is) ∙ sym (firsts_stay item ts e) ∙ h
    by None is =
        let one = added (same_event item.event e) (ap (λ o. option_or o (cond (same_event item.event e) (Some item.first) None)) (sym is) ∙ sym (firsts_stay item ts e) ∙ h) in
        new is one.0 ∙ one.1

-- ---- what stands for the entries

-- at the start nothing was presented and nothing taken
pub stands_first : (entries : List Entry) → StandsFor entries nothing_taken 0 [] []
stands_first entries = record {
  within = omega arith;
  once_logged = tt;
  once_pending = tt;
  counted_logged = tt;
  counted_pending = tt;
  counts = λ e. refl;
  first_logged = λ e f h. absurd (let x : None ≡ Some f = h in cc);
  first_pending = λ e f h. absurd (let x : None ≡ Some f = h in cc);
}

module _ (entries : List Entry) (taken : Kind → ℕ) (presented : ℕ) where
  module _ (entry : Entry) (there : slice_get entries presented ≡ Some entry) (known : IsEvent (event_of entry.what)) where
    abbrev item : Taken
    item = one_entry (event_of entry.what) (presented + 1)

    within_more : (x : Entry) (es : List Entry) (n : ℕ) → slice_get es n ≡ Some x → n + 1 ≤ length es
    within_more x [] n h = absurd (let e : None ≡ Some x = h in cc)
    within_more x (y ∷ ys) zero h = omega arith
    within_more x (y ∷ ys) (suc n) h = let rest = within_more x ys n h in omega (arith, rest)

    -- the counts with an entry more
    count_more : (e : UnixEvent) (before a b : ℕ) (ts : List Taken) → a ≡ b + count_of e ts → before + a ≡ length (numbers_from (kind_of_event e) 1 (take presented entries))
        → before + (b + count_of e (merged item ts)) ≡ length (numbers_from (kind_of_event e) 1 (take (presented + 1) entries))
    count_more e before a b ts parts was =
        let longer = one_longer (kind_of_event e) 1 presented entries entry there in
        let added = counts_add_up item ts e in
        let same : ◌≡◌ {A = ℕ} (cond (is_kind (kind_of_event e) (kind_of entry.what)) 1 0) (cond (same_event (event_of entry.what) e) 1 0) = ap (λ (x : Bool). cond x 1 0) (kind_event e entry.what) in
        omega (arith, longer, added, same, parts, was)

    -- its number is the next of its kind
    new_first : (e : UnixEvent) (base : ℕ) → base ≡ length (numbers_from (kind_of_event e) 1 (take presented entries)) → same_event (event_of entry.what) e ≡ true
        → slice_get (numbers_from (kind_of_event e) 1 entries) base ≡ Some (presented + 1)
    new_first e base all is =
        ap (slice_get (numbers_from (kind_of_event e) 1 entries)) all
        ∙ new_number (kind_of_event e) 1 presented entries entry there (kind_event e entry.what ∙ is)
        ∙ ap Some (let x : 1 + presented ≡ presented + 1 = omega arith in x)

    -- an entry is presented and pends
    pub stands_accepted : (log pending : List Taken) → StandsFor entries taken presented log pending → StandsFor entries taken (presented + 1) log (merged item pending)
    stands_accepted log pending s = record {
      within = within_more entry entries presented there;
      once_logged = s.once_logged;
      once_pending = stays_tally item pending known s.once_pending;
      counted_logged = s.counted_logged;
      counted_pending = stays_counted item pending (omega arith) s.counted_pending;
      counts = λ e. count_more e (taken (kind_of_event e)) (count_of e log + count_of e pending) (count_of e log) pending refl (s.counts e);
      first_logged = s.first_logged;
      first_pending = λ e f h.
          merged_first (numbers_from (kind_of_event e) 1 entries) (taken (kind_of_event e) + count_of e log) item pending e f (s.first_pending e)
          (λ none is.
          let nothing = no_first pending e none in
          let all = s.counts e in
          new_first e (taken (kind_of_event e) + count_of e log) (omega (arith, nothing, all)) is) h;
    }

    -- an entry is presented and logged, where nothing pends
    pub stands_logged : (log : List Taken) → StandsFor entries taken presented log [] → StandsFor entries taken (presented + 1) (merged item log) []
    stands_logged log s = record {
      within = within_more entry entries presented there;
      once_logged = stays_tally item log known s.once_logged;
      once_pending = tt;
      counted_logged = stays_counted item log (omega arith) s.counted_logged;
      counted_pending = tt;
      counts = λ e.
          let more = count_more e (taken (kind_of_event e)) (count_of e log + 0) 0 log (omega arith) (s.counts e) in
          omega (arith, more);
      first_logged = λ e f h.
          merged_first (numbers_from (kind_of_event e) 1 entries) (taken (kind_of_event e)) item log e f (s.first_logged e)
          (λ none is.
          let nothing = no_first log e none in
          let all = s.counts e in
          new_first e (taken (kind_of_event e)) (omega (arith, nothing, all)) is) h;
      first_pending = λ e f h. absurd (let x : None ≡ Some f = h in cc);
    }

  -- what pended first goes to the log
  stands_moved : (t : Taken) (log ts : List Taken) → StandsFor entries taken presented log (t ∷ ts) → StandsFor entries taken presented (merged t log) ts
  stands_moved t log ts s = record {
    within = s.within;
    once_logged = stays_tally t log s.once_pending.0 s.once_logged;
    once_pending = s.once_pending.2;
    counted_logged = stays_counted t log s.counted_pending.0 s.counted_logged;
    counted_pending = s.counted_pending.1;
    counts = λ e.
        let added = counts_add_up t log e in
        let all = s.counts e in
        omega (arith, added, all);
    first_logged = λ e f h.
        merged_first (numbers_from (kind_of_event e) 1 entries) (taken (kind_of_event e)) t log e f (s.first_logged e)
        (λ none is.
        let nothing = no_first log e none in
        ap (slice_get (numbers_from (kind_of_event e) 1 entries)) (omega (arith, nothing)) ∙ s.first_pending e t.first (first_here t ts e is)) h;
    first_pending = λ e f h.
        elim (cases_Bool (same_event t.event e)) [
          | inl is ↦ absurd (let x : None ≡ Some f = sym (first_only t ts e s.once_pending is) ∙ h in cc)
          | inr un ↦
              (let none = cond-false (same_event t.event e) t.count 0 un in
              let added = counts_add_up t log e in
              ap (slice_get (numbers_from (kind_of_event e) 1 entries)) (omega (arith, none, added)) ∙ s.first_pending e f (first_later t ts e un ∙ h))
        ];
  }

  -- so does all that pends
  pub stands_gathered : (log pending : List Taken) → StandsFor entries taken presented log pending → StandsFor entries taken presented (gathered log pending) []
  stands_gathered log [] s = s
  stands_gathered log (t ∷ ts) s = stands_gathered (merged t log) ts (stands_moved t log ts s)

-- ---- what is drained

module _ (entries : List Entry) (taken : Kind → ℕ) (presented : ℕ) (t : Taken) (ts pending : List Taken) (s : StandsFor entries taken presented (t ∷ ts) pending) where
  -- the first slot stands for the first entries of its kind
  pub first_slot : slice_get (numbers_from (kind_of_event t.event) 1 entries) (taken (kind_of_event t.event)) ≡ Some t.first
  first_slot = s.first_logged t.event t.first (first_here t ts t.event (same_refl t.event))

  pub slot_fits : taken (kind_of_event t.event) + t.count ≤ length (numbers_from (kind_of_event t.event) 1 (take presented entries))
  slot_fits =
      let all = s.counts t.event in
      let here = count_here t ts t.event (same_refl t.event) in
      omega (arith, all, here)

  -- all of it is taken
  pub stands_whole : StandsFor entries (with_taken taken (kind_of_event t.event) t.count) presented ts pending
  stands_whole = record {
    within = s.within;
    once_logged = s.once_logged.2;
    once_pending = s.once_pending;
    counted_logged = s.counted_logged.1;
    counted_pending = s.counted_pending;
    counts = λ e.
        let all = s.counts e in
        elim (cases_Bool (same_event t.event e)) [
          | inl is ↦
              (let more = taken_same taken e t.event t.count is in
              let here = count_here t ts e is in
              omega (arith, all, more, here))
          | inr un ↦
              (let same = taken_other taken e t.event t.count un in
              let there = count_later t ts e un in
              omega (arith, all, same, there))
        ];
    first_logged = λ e f h.
        elim (cases_Bool (same_event t.event e)) [
          | inl is ↦ absurd (let x : None ≡ Some f = sym (first_only t ts e s.once_logged is) ∙ h in cc)
          | inr un ↦
              ap (slice_get (numbers_from (kind_of_event e) 1 entries)) (taken_other taken e t.event t.count un)
              ∙ s.first_logged e f (first_later t ts e un ∙ h)
        ];
    first_pending = λ e f h.
        elim (cases_Bool (same_event t.event e)) [
          | inl is ↦
              (let more = taken_same taken e t.event t.count is in
              let here = count_here t ts e is in
              ap (slice_get (numbers_from (kind_of_event e) 1 entries)) (omega (arith, more, here)) ∙ s.first_pending e f h)
          | inr un ↦
              (let same = taken_other taken e t.event t.count un in
              let there = count_later t ts e un in
              ap (slice_get (numbers_from (kind_of_event e) 1 entries)) (omega (arith, same, there)) ∙ s.first_pending e f h)
        ];
  }

  -- one entry of it is taken, and more are left
  abbrev pub less : ℕ → Taken
  less next = record t { first = next; count = t.count - 1 }

  pub stands_less : (next : ℕ) → 1 < t.count → slice_get (numbers_from (kind_of_event t.event) 1 entries) (taken (kind_of_event t.event) + 1) ≡ Some next
      → StandsFor entries (with_taken taken (kind_of_event t.event) 1) presented (less next ∷ ts) pending
  stands_less next more is = record {
    within = s.within;
    once_logged = s.once_logged;
    once_pending = s.once_pending;
    counted_logged = (omega (arith, more), s.counted_logged.1);
    counted_pending = s.counted_pending;
    counts = λ e.
        let all = s.counts e in
        elim (cases_Bool (same_event t.event e)) [
          | inl same ↦
              (let one = taken_same taken e t.event 1 same in
              let was = count_here t ts e same in
              let now = count_here (less next) ts e same in
              omega (arith, all, one, was, now, more))
          | inr un ↦
              (let one = taken_other taken e t.event 1 un in
              let was = count_later t ts e un in
              let now = count_later (less next) ts e un in
              omega (arith, all, one, was, now))
        ];
    first_logged = λ e f h.
        elim (cases_Bool (same_event t.event e)) [
          | inl same ↦
              (let here = same_Some next f (sym (first_here (less next) ts e same) ∙ h) in
              let event = same_is t.event e same in
              ap (slice_get (numbers_from (kind_of_event e) 1 entries)) (taken_same taken e t.event 1 same)
              ∙ ap (λ d. slice_get (numbers_from (kind_of_event d) 1 entries) (taken (kind_of_event d) + 1)) (sym event)
              ∙ is
              ∙ ap Some here)
          | inr un ↦
              ap (slice_get (numbers_from (kind_of_event e) 1 entries)) (taken_other taken e t.event 1 un)
              ∙ s.first_logged e f (first_later t ts e un ∙ sym (first_later (less next) ts e un) ∙ h)
        ];
    first_pending = λ e f h.
        elim (cases_Bool (same_event t.event e)) [
          | inl same ↦
              (let one = taken_same taken e t.event 1 same in
              let was = count_here t ts e same in
              let now = count_here (less next) ts e same in
              ap (slice_get (numbers_from (kind_of_event e) 1 entries)) (omega (arith, one, was, now, more)) ∙ s.first_pending e f h)
          | inr un ↦
              (let one = taken_other taken e t.event 1 un in
              let was = count_later t ts e un in
              let now = count_later (less next) ts e un in
              ap (slice_get (numbers_from (kind_of_event e) 1 entries)) (omega (arith, one, was, now)) ∙ s.first_pending e f h)
        ];
  }

  -- one entry of it is taken, and where more are left they begin with the next
  pub stands_one : (next : ℕ) → (1 < t.count → slice_get (numbers_from (kind_of_event t.event) 1 entries) (taken (kind_of_event t.event) + 1) ≡ Some next)
      → StandsFor entries (with_taken taken (kind_of_event t.event) 1) presented (left_after_one next (t ∷ ts)) pending
  stands_one next is =
      elim (cases_Bool (nat_lt 1 t.count)) [
        | inl more ↦
            subst (λ ls. StandsFor entries (with_taken taken (kind_of_event t.event) 1) presented ls pending) (sym (cond-true (nat_lt 1 t.count) (less next ∷ ts) ts more))
            (let some = ltb-true 1 t.count more in stands_less next some (is some))
        | inr last ↦
            subst (λ ls. StandsFor entries (with_taken taken (kind_of_event t.event) 1) presented ls pending) (sym (cond-false (nat_lt 1 t.count) (less next ∷ ts) ts last))
            (subst (λ c. StandsFor entries (with_taken taken (kind_of_event t.event) c) presented ts pending)
            (let few = ltb-false 1 t.count last in let some = s.counted_logged.0 in omega (arith, few, some)) stands_whole)
      ]

-- an entry is of an event where it is of its kind
of_event : (e : UnixEvent) (o : Option Entry) → is_of e o ≡ of_kind (kind_of_event e) o
of_event e None = refl
of_event e (Some entry) = sym (kind_event e entry.what)

-- where a slot counts more than one entry, the next of its kind was presented, and is found behind the first
module _ (o : OutsideState) (taken : Kind → ℕ) (t : Taken) (ts pending : List Taken)
    (s : StandsFor o.journal.entries taken o.presented (t ∷ ts) pending) (more : 1 < t.count) where
  next_found : (g : ℕ) → slice_get (numbers_from (kind_of_event t.event) 1 o.journal.entries) (taken (kind_of_event t.event) + 1) ≡ Some g
      → g ≤ o.presented → next_of o t.event t.first ≡ g
  next_found g is low =
      let entries = o.journal.entries in
      let next = are_next (kind_of_event t.event) 1 entries (taken (kind_of_event t.event)) t.first g (first_slot entries taken o.presented t ts pending s) is in
      let rise = next.rise in
      let test : ℕ → Bool = λ i. is_of t.event (slice_get entries i) in
      let found : find test (range_with_len t.first (o.presented - t.first)) ≡ Some (g - 1) =
      find_at test t.first (o.presented - t.first) (g - 1)
      (of_event t.event (slice_get entries (g - 1)) ∙ next.here (g - 1) (omega (arith, rise)))
      (λ u a b. of_event t.event (slice_get entries u) ∙ next.between u (omega (arith, a)) (omega (arith, b)))
      (omega (arith, rise)) (omega (arith, rise, low)) in
      ap number_at found ∙ omega (arith, rise)

  -- so it is given to the log
  pub next_stands : slice_get (numbers_from (kind_of_event t.event) 1 o.journal.entries) (taken (kind_of_event t.event) + 1) ≡ Some (next_of o t.event t.first)
  next_stands =
      let entries = o.journal.entries in
      let fits = slot_fits entries taken o.presented t ts pending s in
      let split = ap length (numbers_split (kind_of_event t.event) 1 o.presented entries) ∙ length-append (numbers_from (kind_of_event t.event) 1 (take o.presented entries)) (numbers_from (kind_of_event t.event) (1 + o.presented) (drop o.presented entries)) in
      let one = get_some (numbers_from (kind_of_event t.event) 1 entries) (taken (kind_of_event t.event) + 1) (omega (arith, fits, split, more)) in
      let low = early (kind_of_event t.event) 1 o.presented entries (taken (kind_of_event t.event) + 1) one.0 (omega (arith, fits, more)) one.1 in
      one.1 ∙ ap Some (sym (next_found one.0 one.1 (omega (arith, low))))

-- what is drained is taken
pub stands_drained : (o : OutsideState) (taken : Kind → ℕ) (event : UnixEvent) (first count : ℕ) (ts pending : List Taken)
    → StandsFor o.journal.entries taken o.presented (record { event = event; first = first; count = count } ∷ ts) pending
    → StandsFor o.journal.entries (with_taken taken (kind_of_event event) (drained_of (record { event = event; first = first; count = count })).count) o.presented
    (left_drained o (record { event = event; first = first; count = count } ∷ ts)) pending
stands_drained o taken (Sig sig) first count ts pending s =
    stands_whole o.journal.entries taken o.presented (record { event = Sig sig; first = first; count = count }) ts pending s
stands_drained o taken Tick first count ts pending s =
    let t : Taken = record { event = Tick; first = first; count = count } in
    stands_one o.journal.entries taken o.presented t ts pending s (next_of o Tick first) (λ more. next_stands o taken t ts pending s more)
stands_drained o taken Input first count ts pending s =
    let t : Taken = record { event = Input; first = first; count = count } in
    stands_one o.journal.entries taken o.presented t ts pending s (next_of o Input first) (λ more. next_stands o taken t ts pending s more)

-- what is drained of a slot
pub record IsPart (t d : Taken) : Type 0 where
  pub event : d.event ≡ t.event
  pub first : d.first ≡ t.first
  pub some : 1 ≤ d.count
  pub fits : d.count ≤ t.count
  pub alone : IsAlone (kind_of_event t.event) d.count

pub is_part : (event : UnixEvent) (first count : ℕ) → 1 ≤ count → IsPart (record { event = event; first = first; count = count }) (drained_of (record { event = event; first = first; count = count }))
is_part (Sig sig) first count some = record { event = refl; first = refl; some = some; fits = omega arith; alone = some }
is_part Tick first count some = record { event = refl; first = refl; some = omega arith; fits = some; alone = refl }
is_part Input first count some = record { event = refl; first = refl; some = omega arith; fits = some; alone = refl }
