-- Which entries of a journal are left and due: the lowest one is the next of its kind, and where entries are apart one at most is due.
use Rattle.std.proofs.Common.{◌≡◌, ◌∙◌, ap, sym, refl, subst, ℕ, zero, suc, ◌+◌, ◌≤◌, inl, inr, List, [], ◌∷◌, length, take, Bool, true, false, Some, arith}
use Rattle.std.specs.Prelude.{◌==◌}
use Rattle.std.specs.List.{AllByRecursion}
use Rattle.std.proofs.lemmas.Bool.{cases_lt, or_cases, or_left, or_right, eq-eqb, eqb-true}
use Rattle.thread_base.specs.Orders.{is_in}
use Rattle.journal_text.specs.declared.entry.Entry.{Entry}
use Rattle.journal_text.specs.Valid.{IsJournal}
use Rattle.posix_model.specs.Journals.{Kind, kind_of, Taken, with_taken, numbers_from, left_of_kind, untaken, reached, entry_at, is_reached_as}
use Rattle.posix_model.specs.Runs.{Rules, Moment, Allowed, due, due_by, is_waiting, moved, taken_by}
use Rattle.posix_model.specs.Start.{start}
use Rattle.posix_model.specs.declared.Move.{Move}
use Rattle.posix_model.specs.declared.Move.TheVariants.{Instr, Arrive, Deliver}
use Rattle.posix_model.proofs.JournalLemmas.{Ascends, ascend_filter, first_least, in_drop_less, first_member, left_entry, left_ascends, reached_before, more_taken, in_untaken, untaken_from, untaken_ascends, in_reached, reached_from}
use Rattle.run_laws.specs.Course.{AreApart}

-- ---- lists of numbers

-- the first of a list is in it
first_in : (x : ℕ) (xs : List ℕ) → is_in x (x ∷ xs) ≡ true
first_in x xs = or_left (x == x) (is_in x xs) (eq-eqb x x refl)

-- the only member of a list
only : (n x : ℕ) → is_in n (x ∷ []) ≡ true → n ≡ x
only n x h =
    elim (or_cases (n == x) false h) [
      | inl same ↦ eqb-true n x same
      | inr none ↦ let e : false ≡ true = none in absurd (cc)
    ]

-- no two numbers are in a list
abbrev pub NoTwo : List ℕ → Type 0
NoTwo ns = (m n : ℕ) → is_in m ns ≡ true → is_in n ns ≡ true → m ≡ n

-- a list of one member at most has no two
no_two : (ns : List ℕ) → length ns ≤ 1 → NoTwo ns
no_two [] few m n h k = let e : false ≡ true = h in absurd (cc)
no_two (x ∷ []) few m n h k = only m x h ∙ sym (only n x k)
no_two (x ∷ y ∷ ns) few m n h k = absurd (omega (arith, few))

-- numbers that ascend are one at most where no two are there
one_at_most : (ns : List ℕ) → Ascends ns → NoTwo ns → length ns ≤ 1
one_at_most [] asc none = omega arith
one_at_most (x ∷ []) asc none = omega arith
one_at_most (x ∷ y ∷ ns) asc none =
    absurd (let same = none x y (first_in x (y ∷ ns)) (or_right (y == x) (is_in y (y ∷ ns)) (first_in y ns)) in
    let less = asc.0.0 in
    omega (arith, same, less))

-- of numbers that ascend one alone has a property that no two have
pub one_alone : (P : ℕ → Type 0) (ns : List ℕ) (count : ℕ) → 1 ≤ count → count ≤ length ns → Ascends ns → AllByRecursion P (take count ns)
    → ((m n : ℕ) → P m → P n → m ≡ n) → 1 ≡ count
one_alone P ns zero some enough asc all none = absurd (omega (arith, some))
one_alone P ns (suc zero) some enough asc all none = refl
one_alone P [] (suc (suc count)) some enough asc all none = absurd (omega (arith, enough))
one_alone P (x ∷ []) (suc (suc count)) some enough asc all none = absurd (omega (arith, enough))
one_alone P (x ∷ y ∷ ns) (suc (suc count)) some enough asc all none =
    absurd (let same = none x y all.0 all.1.0 in
    let less = asc.0.0 in
    omega (arith, same, less))

-- ---- the entries whose places are reached

reached_ascends : (es : List Entry) (taken : Taken) (instructions : ℕ) → Ascends (reached es taken instructions)
unfolding reached
reached_ascends es taken instructions = ascend_filter (λ n. is_reached_as instructions (entry_at es n)) (untaken es taken) (untaken_ascends es taken)

-- ---- the lowest entry that is due

-- the first that is due is left
due_left : (at_once left : List ℕ) (waiting : Bool) (n : ℕ) (ns : List ℕ) → (is_in n at_once ≡ true → is_in n left ≡ true)
    → due_by at_once left waiting ≡ n ∷ ns → is_in n left ≡ true
due_left [] [] true n ns sub e = absurd (let f : [] ≡ n ∷ ns = e in cc)
due_left [] (x ∷ xs) true n ns sub e =
    let same : x ≡ n = (let f : x ∷ [] ≡ n ∷ ns = e in cc) in
    ap (λ m. is_in m (x ∷ xs)) (sym same) ∙ first_in x xs
due_left [] left false n ns sub e = absurd (let f : [] ≡ n ∷ ns = e in cc)
due_left (x ∷ xs) left waiting n ns sub e =
    let same : x ≡ n = (let f : x ∷ xs ≡ n ∷ ns = e in cc) in
    sub (ap (λ m. is_in m (x ∷ xs)) (sym same) ∙ first_in x xs)

-- nothing that is left comes before the first that is due, where what comes before an entry that is reached is reached
due_lowest : (at_once left : List ℕ) (waiting : Bool) (n m : ℕ) (ns : List ℕ) → Ascends at_once → Ascends left
    → due_by at_once left waiting ≡ n ∷ ns → m ≤ n → is_in m left ≡ true → (is_in n at_once ≡ true → is_in m at_once ≡ true) → m ≡ n
due_lowest [] [] true n m ns up asc e low here also = absurd (let f : [] ≡ n ∷ ns = e in cc)
due_lowest [] (x ∷ xs) true n m ns up asc e low here also =
    let same : x ≡ n = (let f : x ∷ [] ≡ n ∷ ns = e in cc) in
    let least = first_least x xs m asc here in
    omega (arith, same, least, low)
due_lowest [] left false n m ns up asc e low here also = absurd (let f : [] ≡ n ∷ ns = e in cc)
due_lowest (x ∷ xs) left waiting n m ns up asc e low here also =
    let same : x ≡ n = (let f : x ∷ xs ≡ n ∷ ns = e in cc) in
    let least = first_least x xs m up (also (ap (λ k. is_in k (x ∷ xs)) (sym same) ∙ first_in x xs)) in
    omega (arith, same, least, low)

-- the first that is left of a kind, where an entry is left
record IsFirstLeft (es : List Entry) (taken : Taken) (kind : Kind) (n : ℕ) : Type 0 where
  first : ℕ
  rest : List ℕ
  all : left_of_kind es taken kind ≡ first ∷ rest
  low : first ≤ n
  entry : Entry
  here : entry_at es first ≡ Some entry
  left : is_in first (untaken es taken) ≡ true

first_left : (es : List Entry) (taken : Taken) (kind : Kind) (n m : ℕ) (ms : List ℕ) → left_of_kind es taken kind ≡ m ∷ ms
    → is_in n (left_of_kind es taken kind) ≡ true → IsFirstLeft es taken kind n
first_left es taken kind n m ms all among =
    let one : is_in m (left_of_kind es taken kind) ≡ true = ap (is_in m) all ∙ first_in m ms in
    let its = left_entry es taken kind m one in
    let its_kind : kind_of its.0.what ≡ kind = sym its.2 in
    record {
      first = m;
      rest = ms;
      all = all;
      low = first_least m ms n (subst Ascends all (left_ascends es taken kind)) (sym (ap (is_in n) all) ∙ among);
      entry = its.0;
      here = its.1;
      left = untaken_from es taken m its.0 its.1 (ap (λ k. is_in m (left_of_kind es taken k)) its_kind ∙ one);
    }

-- an entry is the next of its kind
pub record IsNextOfKind (es : List Entry) (taken : Taken) (n : ℕ) : Type 0 where
  pub entry : Entry
  pub here : entry_at es n ≡ Some entry
  pub rest : List ℕ
  pub next : left_of_kind es taken (kind_of entry.what) ≡ n ∷ rest

-- the first entry that is due is left
first_due_left : (rules : Rules) (now : Moment) (n : ℕ) (ns : List ℕ) → due rules now ≡ n ∷ ns → is_in n (untaken rules.journal.entries now.taken) ≡ true
unfolding due
first_due_left rules now n ns e =
    due_left (reached rules.journal.entries now.taken now.instructions) (untaken rules.journal.entries now.taken) (is_waiting now.state) n ns
    (λ r. (in_reached rules.journal.entries now.taken now.instructions n r).0) e

-- nothing that is left comes before it
none_before : (rules : Rules) (now : Moment) (n m : ℕ) (ns : List ℕ) (entry : Entry) → IsJournal rules.journal → due rules now ≡ n ∷ ns → m ≤ n
    → entry_at rules.journal.entries m ≡ Some entry → is_in m (untaken rules.journal.entries now.taken) ≡ true → m ≡ n
unfolding due
none_before rules now n m ns entry journal e low here left =
    due_lowest (reached rules.journal.entries now.taken now.instructions) (untaken rules.journal.entries now.taken) (is_waiting now.state) n m ns
    (reached_ascends rules.journal.entries now.taken now.instructions) (untaken_ascends rules.journal.entries now.taken) e low left
    (reached_before rules.journal.entries now.taken now.instructions n m entry journal.each left here low)

next_of_kind : (es : List Entry) (taken : Taken) (n : ℕ) (entry : Entry) → entry_at es n ≡ Some entry → (first : IsFirstLeft es taken (kind_of entry.what) n)
    → first.first ≡ n → IsNextOfKind es taken n
next_of_kind es taken n entry here first same =
    record { entry = entry; here = here; rest = first.rest; next = subst (λ m. left_of_kind es taken (kind_of entry.what) ≡ m ∷ first.rest) same first.all }

-- the lowest entry that is due is the next of its kind
pub lowest_is_next : (rules : Rules) (now : Moment) (n : ℕ) (ns : List ℕ) → IsJournal rules.journal → due rules now ≡ n ∷ ns
    → IsNextOfKind rules.journal.entries now.taken n
lowest_is_next rules now n ns journal e =
    let es = rules.journal.entries in
    let found = in_untaken es now.taken n (first_due_left rules now n ns e) in
    let kind = kind_of found.0.what in
    let member = first_member (left_of_kind es now.taken kind) n found.2 in
    let first : IsFirstLeft es now.taken kind n = first_left es now.taken kind n member.0 member.1 member.2 found.2 in
    next_of_kind es now.taken n found.0 found.1 first (none_before rules now n first.first ns first.entry journal e first.low first.here first.left)

-- ---- at most one entry is due

-- no two entries are reached that are not taken
abbrev pub NoTwoReached : Rules → Moment → Type 0
NoTwoReached rules now = NoTwo (reached rules.journal.entries now.taken now.instructions)

due_no_two : (at_once left : List ℕ) (waiting : Bool) → NoTwo at_once → NoTwo (due_by at_once left waiting)
due_no_two [] [] true none m n h k = let e : false ≡ true = h in absurd (cc)
due_no_two [] (x ∷ xs) true none m n h k = only m x h ∙ sym (only n x k)
due_no_two [] left false none m n h k = let e : false ≡ true = h in absurd (cc)
due_no_two (x ∷ xs) left waiting none m n h k = none m n h k

-- then no two are due
pub no_two_due : (rules : Rules) (now : Moment) → NoTwoReached rules now → NoTwo (due rules now)
unfolding due
no_two_due rules now none =
    due_no_two (reached rules.journal.entries now.taken now.instructions) (untaken rules.journal.entries now.taken) (is_waiting now.state) none

due_few : (at_once left : List ℕ) (waiting : Bool) → length (due_by at_once left waiting) ≤ 1 → length at_once ≤ 1
due_few [] left waiting few = omega arith
due_few (x ∷ xs) left waiting few = few

-- where one is due at most, no two are reached
pub no_two_reached : (rules : Rules) (now : Moment) → length (due rules now) ≤ 1 → NoTwoReached rules now
unfolding due
no_two_reached rules now few =
    no_two (reached rules.journal.entries now.taken now.instructions)
    (due_few (reached rules.journal.entries now.taken now.instructions) (untaken rules.journal.entries now.taken) (is_waiting now.state) few)

few_due : (at_once left : List ℕ) (waiting : Bool) → length at_once ≤ 1 → length (due_by at_once left waiting) ≤ 1
few_due [] [] true few = omega arith
few_due [] (x ∷ xs) true few = omega arith
few_due [] left false few = omega arith
few_due (x ∷ xs) left waiting few = few

due_none : (at_once left : List ℕ) (waiting : Bool) → due_by at_once left waiting ≡ [] → at_once ≡ []
due_none [] left waiting e = refl
due_none (x ∷ xs) left waiting e = e

-- where nothing is due, nothing is reached
none_reached : (rules : Rules) (now : Moment) → due rules now ≡ [] → reached rules.journal.entries now.taken now.instructions ≡ []
unfolding due
none_reached rules now e = due_none (reached rules.journal.entries now.taken now.instructions) (untaken rules.journal.entries now.taken) (is_waiting now.state) e

-- what is reached where more is taken was reached before
still_reached : (es : List Entry) (taken : Taken) (kind : Kind) (count instructions n : ℕ) → is_in n (reached es (with_taken taken kind count) instructions) ≡ true
    → is_in n (reached es taken instructions) ≡ true
still_reached es taken kind count instructions n h =
    let found = in_reached es (with_taken taken kind count) instructions n h in
    let its = in_untaken es (with_taken taken kind count) n found.0 in
    let k = kind_of its.0.what in
    let left = in_drop_less (taken k) (with_taken taken kind count k) (numbers_from k 1 es) n (more_taken taken kind k count) its.2 in
    reached_from es taken instructions n found.1.0 (untaken_from es taken n its.0 its.1 left) found.1.1 found.1.2

-- where nothing was reached, what one instruction more reaches comes after that very number
reached_now : (es : List Entry) (taken : Taken) (instructions n : ℕ) → reached es taken instructions ≡ []
    → is_in n (reached es taken (instructions + 1)) ≡ true → (e : Entry) × (entry_at es n ≡ Some e) × (e.place.n ≡ instructions + 1)
reached_now es taken instructions n none h =
    let found = in_reached es taken (instructions + 1) n h in
    let its = found.1 in
    let low = its.2 in
    elim (cases_lt instructions its.0.place.n) [
      | inl more ↦ (its.0, its.1, omega (arith, low, more))
      | inr less ↦
          absurd (let e : false ≡ true = sym (ap (is_in n) none) ∙ reached_from es taken instructions n its.0 found.0 its.1 less in cc)
    ]

-- a move leaves no two entries reached, where entries are apart
pub still_no_two : (rules : Rules) (now : Moment) (move : Move) → AreApart rules.journal.entries → NoTwoReached rules now → Allowed rules now move
    → NoTwoReached rules (moved rules now move)
still_no_two rules now (Instr t) apart none a m n h k =
    let clear = none_reached rules now a.0.nothing_due in
    let one = reached_now rules.journal.entries now.taken now.instructions m clear h in
    let other = reached_now rules.journal.entries now.taken now.instructions n clear k in
    apart m n one.0 other.0 one.1 other.1 (one.2 ∙ sym other.2)
still_no_two rules now Deliver apart none a m n h k = none m n h k
still_no_two rules now (Arrive first count at) apart none a m n h k =
    let es = rules.journal.entries in
    let before : (u : ℕ) → is_in u (reached es (taken_by now.taken count (entry_at es first)) now.instructions) ≡ true
    → is_in u (reached es now.taken now.instructions) ≡ true =
    λ u l. still_reached es now.taken (kind_of a.entry.what) count now.instructions u
    (ap (λ o. is_in u (reached es (taken_by now.taken count o) now.instructions)) (sym a.here) ∙ l) in
    none m n (before m h) (before n k)

-- at the start no two entries are reached
start_no_two : (es : List Entry) (taken : Taken) → AreApart es → NoTwo (reached es taken 0)
start_no_two es taken apart m n h k =
    let one = (in_reached es taken 0 m h).1 in
    let other = (in_reached es taken 0 n k).1 in
    let a = one.2 in
    let b = other.2 in
    apart m n one.0 other.0 one.1 other.1 (omega (arith, a, b))

-- at the machine's start one entry at most is due
pub starts_calm : (rules : Rules) (memory : List ℕ) (entry : ℕ) → AreApart rules.journal.entries → length (due rules (start memory entry)) ≤ 1
unfolding due
starts_calm rules memory entry apart =
    let now = start memory entry in
    let es = rules.journal.entries in
    few_due (reached es now.taken 0) (untaken es now.taken) (is_waiting now.state)
    (one_at_most (reached es now.taken 0) (reached_ascends es now.taken 0) (start_no_two es now.taken apart))
