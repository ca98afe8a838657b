-- Every whole run under a calm journal follows the course.
use Rattle.std.proofs.Common.{◌≡◌, ◌∙◌, ap, sym, refl, subst, ℕ, eqb, List, [], ◌∷◌, ◌++◌, Option, Some, None, arith, append_assoc, inl, inr}
use Rattle.std.specs.Prelude.{true, false, nat_lt}
use Rattle.std.specs.List.{AllZip}
use Rattle.std.proofs.lemmas.Bool.{lt-ltb, le-ltb, or_left, eq-eqb}
use Rattle.std.proofs.lemmas.Option.{same_Some}
use Rattle.thread_base.specs.Orders.{is_in}
use Rattle.thread_base.specs.declared.Place.{Place}
use Rattle.journal_text.specs.declared.entry.Entry.{Entry}
use Rattle.journal_text.specs.declared.entry.What.{What}
use Rattle.journal_text.specs.declared.entry.What.TheVariants.{Sig, Tick, Data, Eof}
use Rattle.posix_model.specs.State.{State}
use Rattle.posix_model.specs.Scheduling.{chosen}
use Rattle.posix_model.specs.Deliveries.{Delivery, next_delivery}
use Rattle.posix_model.specs.Journals.{kind_of, left_of_kind, entry_at}
use Rattle.posix_model.specs.Laws.{IsSameMove, IsWholeRun, whole_text}
use Rattle.posix_model.specs.Lines.{lines}
use Rattle.posix_model.specs.Runs.{Rules, Moment, Allowed, MayArrive, Ends, due, moved, after, arrived, taken_by}
use Rattle.posix_model.specs.Trace.{switch_line, text, move_text, end_text}
use Rattle.posix_model.specs.declared.Ending.{Ending}
use Rattle.posix_model.specs.declared.Move.{Move}
use Rattle.posix_model.specs.declared.Move.TheVariants.{Instr, Arrive, Deliver}
use Rattle.posix_model.proofs.EndLemmas.{some_arrive, first_is_due, nothing_arrives, none_due, one_ending}
use Rattle.posix_model.proofs.JournalLemmas.{left_ascends}
use Rattle.posix_model.proofs.OneRun.{same_state, same_lines}
use Rattle.trace_text.specs.Texts.{written, move_plain, plain_text}
use Rattle.run_laws.specs.Course.{turn, first_of, unless_over, next_move, IsCourse, AreApart, IsSettledFor, ArriveSettled, Follows, OneCourse, AllAlike}
use Rattle.run_laws.proofs.EntryLemmas.{NoTwo, NoTwoReached, no_two_due, no_two_reached, still_no_two, one_alone}

-- ---- where an entry was presented changes neither the state nor what is told

written_by : (rules : Rules) (s : State) (first count : ℕ) (at other place : Place) (what : What) (memory : List ℕ)
    → written (arrived rules s first count at (Some (record { place = place; what = what }))).report memory
    ≡ written (arrived rules s first count other (Some (record { place = place; what = what }))).report memory
written_by rules s first count at other place (Sig sig) memory = refl
written_by rules s first count at other place Tick memory = refl
written_by rules s first count at other place (Data start len) memory = refl
written_by rules s first count at other place Eof memory = refl

same_written : (rules : Rules) (s : State) (first count : ℕ) (at other : Place) (entry : Option Entry) (memory : List ℕ)
    → written (arrived rules s first count at entry).report memory ≡ written (arrived rules s first count other entry).report memory
same_written rules s first count at other None memory = refl
same_written rules s first count at other (Some entry) memory = written_by rules s first count at other entry.place entry.what memory

-- two moves are the same but for where entries were presented, lead to one moment, and tell and write the same
record IsSameStep (rules : Rules) (now : Moment) (move other : Move) : Type 0 where
  same : IsSameMove move other
  leads : moved rules now move ≡ moved rules now other
  tells : move_text rules now other ≡ move_text rules now move
  writes : move_plain rules now other ≡ move_plain rules now move

module _ (rules : Rules) (now : Moment) where
  -- the place of an arrival changes nothing else
  same_arrival : (first count : ℕ) (at other : Place) → IsSameStep rules now (Arrive first count at) (Arrive first count other)
  same_arrival first count at other =
      let entry : Option Entry = entry_at rules.journal.entries first in
      let line = switch_line now.last now.last in
      record {
        same = (refl, refl);
        leads = ap (λ s. record now { state = s; taken = taken_by now.taken count entry }) (same_state rules now.state first count at other entry);
        tells =
            ap (λ s. line ++ lines (arrived rules now.state first count other entry).report s.memory) (same_state rules now.state first count other at entry)
            ∙ ap (λ t. line ++ t) (same_lines rules now.state first count other at entry (arrived rules now.state first count at entry).state.memory);
        writes =
            ap (λ s. written (arrived rules now.state first count other entry).report s.memory) (same_state rules now.state first count other at entry)
            ∙ same_written rules now.state first count other at entry (arrived rules now.state first count at entry).state.memory;
      }

  same_step : (move : Move) → IsSameStep rules now move move
  same_step (Instr t) = record { same = refl; leads = refl; tells = refl; writes = refl }
  same_step Deliver = record { same = refl; leads = refl; tells = refl; writes = refl }
  same_step (Arrive first count at) = same_arrival first count at at

  -- ---- the next move of the course

  -- where an arrival of the course is presented
  abbrev pub place : Place
  place = record { n = now.instructions; k = 0 }

  abbrev its_turn : Option Move
  its_turn = turn (chosen now.state) (nat_lt now.instructions rules.settings.budget)

  -- where an instruction is allowed, it is next
  next_instr : (t : ℕ) → Allowed rules now (Instr t) → next_move rules now ≡ Some (Instr t)
  next_instr t a =
      let room : nat_lt now.instructions rules.settings.budget ≡ true = lt-ltb now.instructions rules.settings.budget a.1 in
      λ i. unless_over (a.0.going_on i) (first_of place (a.0.nothing_due i) (a.0.settled i) (turn (a.0.first i) (room i)))

  -- where an entry is due, the lowest is next
  next_entry : (n : ℕ) (ns : List ℕ) → now.state.over ≡ None → due rules now ≡ n ∷ ns → next_move rules now ≡ Some (Arrive n 1 place)
  next_entry n ns over some = λ i. unless_over (over i) (first_of place (some i) (next_delivery now.state) its_turn)

  -- else a delivery is next, if there is one
  next_given : (d : Delivery) → now.state.over ≡ None → due rules now ≡ [] → next_delivery now.state ≡ Some d → next_move rules now ≡ Some Deliver
  next_given d over none next = λ i. unless_over (over i) (first_of place (none i) (next i) its_turn)

  -- where a run has ended, no move is next
  pub none_at_end : (ending : Ending) → Ends rules now ending → next_move rules now ≡ None
  none_at_end ending (inl over) = ap (λ o. unless_over o (first_of place (due rules now) (next_delivery now.state) its_turn)) over
  none_at_end ending (inr (inl idle)) =
      let none = none_due rules now idle.1.taken in
      λ i. unless_over (idle.1.going_on i) (first_of place (none i) (idle.1.settled i) (turn (idle.1.nobody i) (nat_lt now.instructions rules.settings.budget)))
  none_at_end ending (inr (inr spent)) =
      let used = spent.1.used_up in
      let full : nat_lt now.instructions rules.settings.budget ≡ false = le-ltb now.instructions rules.settings.budget (omega (arith, used)) in
      let its = spent.1.turn in
      λ i. unless_over (its.going_on i) (first_of place (its.nothing_due i) (its.settled i) (turn (its.first i) (full i)))

  -- where a move is allowed, one is next
  pub one_is_next : (move : Move) → Allowed rules now move → (next : Move) × (next_move rules now ≡ Some next)
  one_is_next (Instr t) a = (Instr t, next_instr t a)
  one_is_next Deliver a = by (due rules now) refl
    where
      by : (ns : List ℕ) → due rules now ≡ ns → (next : Move) × (next_move rules now ≡ Some next)
      by [] none = (Deliver, next_given a.1 a.0 none a.2)
      by (n ∷ ns) some = (Arrive n 1 place, next_entry n ns a.0 some)
  one_is_next (Arrive first count at) a = by (due rules now) refl
    where
      by : (ns : List ℕ) → due rules now ≡ ns → (next : Move) × (next_move rules now ≡ Some next)
      by [] none = absurd (nothing_arrives rules now first count at none a)
      by (n ∷ ns) some = (Arrive n 1 place, next_entry n ns a.going_on some)

  -- an entry that arrives where no two are due arrives alone
  arrives_alone : (first count : ℕ) (at : Place) → NoTwo (due rules now) → MayArrive rules now first count at → 1 ≡ count
  arrives_alone first count at none a =
      let kind = kind_of a.entry.what in
      one_alone (λ n. is_in n (due rules now) ≡ true) (left_of_kind rules.journal.entries now.taken kind) count (some_arrive kind count a.alone) a.enough
      (left_ascends rules.journal.entries now.taken kind) a.due none

  -- where no two entries are due, and the state is settled where one arrives, the next move of the course is the only one
  only_step : (next move : Move) → NoTwo (due rules now) → next_move rules now ≡ Some next → IsSettledFor now.state next → Allowed rules now move
      → IsSameStep rules now next move
  only_step next (Instr t) none is settled a =
      let same : next ≡ Instr t = same_Some next (Instr t) (sym is ∙ next_instr t a) in
      subst (λ m. IsSameStep rules now m (Instr t)) (sym same) (same_step (Instr t))
  only_step next Deliver none is settled a = by (due rules now) refl
    where
      by : (ns : List ℕ) → due rules now ≡ ns → IsSameStep rules now next Deliver
      by [] clear =
          let same : next ≡ Deliver = same_Some next Deliver (sym is ∙ next_given a.1 a.0 clear a.2) in
          subst (λ m. IsSameStep rules now m Deliver) (sym same) (same_step Deliver)
      by (n ∷ ns) some =
          let same : next ≡ Arrive n 1 place = same_Some next (Arrive n 1 place) (sym is ∙ next_entry n ns a.0 some) in
          absurd (let e : None ≡ Some a.1 = sym (subst (IsSettledFor now.state) same settled) ∙ a.2 in cc)
  only_step next (Arrive first count at) none is settled a = by (due rules now) refl
    where
      by : (ns : List ℕ) → due rules now ≡ ns → IsSameStep rules now next (Arrive first count at)
      by [] clear = absurd (nothing_arrives rules now first count at clear a)
      by (n ∷ ns) some =
          let lowest : is_in n (due rules now) ≡ true = ap (is_in n) some ∙ or_left (eqb n n) (is_in n ns) (eq-eqb n n refl) in
          let firsts : n ≡ first = none n first lowest (first_is_due rules now first count at a) in
          let counts : 1 ≡ count = arrives_alone first count at none a in
          let same : next ≡ Arrive first count place =
          same_Some next (Arrive n 1 place) (sym is ∙ next_entry n ns a.going_on some) ∙ (λ i. Arrive (firsts i) (counts i) place) in
          subst (λ m. IsSameStep rules now m (Arrive first count at)) (sym same) (same_arrival first count place at)

-- ---- whole runs

-- where no two entries are reached, and entries are apart, a whole run follows the course
follows : (rules : Rules) (now : Moment) (course moves : List Move) (ending : Ending) → AreApart rules.journal.entries → NoTwoReached rules now
    → IsCourse rules now course → ArriveSettled rules now course → IsWholeRun rules now moves ending → Follows rules now course moves ending
follows rules now [] [] ending apart none is settled run = record { same = tt; ends = run.ends; told = refl; plain = refl }
follows rules now [] (k ∷ ks) ending apart none is settled run =
    absurd (let next = one_is_next rules now k run.run.0 in
    let e : None ≡ Some next.0 = sym is ∙ next.1 in cc)
follows rules now (m ∷ ms) [] ending apart none is settled run =
    absurd (let e : None ≡ Some m = sym (none_at_end rules now ending run.ends) ∙ is.0 in cc)
follows rules now (m ∷ ms) (k ∷ ks) ending apart none is settled run =
    let step = only_step rules now m k (no_two_due rules now none) is.0 settled.0 run.run.0 in
    let rest_run : IsWholeRun rules (moved rules now k) ks ending = record { run = run.run.1; ends = run.ends } in
    let still = still_no_two rules now k apart none run.run.0 in
    let rest =
    follows rules (moved rules now m) ms ks ending apart (subst (NoTwoReached rules) (sym step.leads) still) is.1 settled.1
    (subst (λ n. IsWholeRun rules n ks ending) (sym step.leads) rest_run) in
    let later = moved rules now m in
    record {
      same = (step.same, rest.same);
      ends = rest.ends;
      told =
          append_assoc (move_text rules now k) (text rules (moved rules now k) ks) (end_text (after rules (moved rules now k) ks) ending)
          ∙ ap (λ n. move_text rules now k ++ whole_text rules n ks ending) (sym step.leads)
          ∙ ap (λ t. t ++ whole_text rules later ks ending) step.tells
          ∙ ap (λ t. move_text rules now m ++ t) rest.told
          ∙ sym (append_assoc (move_text rules now m) (text rules later ms) (end_text (after rules later ms) ending));
      plain =
          ap (λ n. move_plain rules now k ++ plain_text rules n ks) (sym step.leads)
          ∙ ap (λ t. t ++ plain_text rules later ks) step.writes
          ∙ ap (λ t. move_plain rules now m ++ t) rest.plain;
    }

-- place independence
pub one_course : OneCourse
one_course rules now course moves ending is calm run =
    follows rules now course moves ending calm.apart (no_two_reached rules now calm.one) is calm.settled run

itself : (move : Move) → IsSameMove move move
itself (Instr t) = refl
itself Deliver = refl
itself (Arrive first count at) = (refl, refl)

-- two moves that are the same as a third are the same
same_both : (c a b : Move) → IsSameMove c a → IsSameMove c b → IsSameMove a b
same_both (Instr t) a b p q = subst (λ m. IsSameMove a m) (sym p ∙ q) (itself a)
same_both Deliver a b p q = subst (λ m. IsSameMove a m) (sym p ∙ q) (itself a)
same_both (Arrive first count at) (Arrive n many place) (Arrive m few there) p q = (sym p.0 ∙ q.0, sym p.1 ∙ q.1)
same_both (Arrive first count at) (Arrive n many place) (Instr t) p q = absurd (let e : Arrive first count at ≡ Instr t = q in cc)
same_both (Arrive first count at) (Arrive n many place) Deliver p q = absurd (let e : Arrive first count at ≡ Deliver = q in cc)
same_both (Arrive first count at) (Instr t) b p q = absurd (let e : Arrive first count at ≡ Instr t = p in cc)
same_both (Arrive first count at) Deliver b p q = absurd (let e : Arrive first count at ≡ Deliver = p in cc)

all_same : (course moves others : List Move) → AllZip IsSameMove course moves → AllZip IsSameMove course others → AllZip IsSameMove moves others
all_same [] [] [] p q = tt
all_same [] [] (k ∷ ks) p q = absurd q
all_same [] (k ∷ ks) others p q = absurd p
all_same (c ∷ cs) [] others p q = absurd p
all_same (c ∷ cs) (m ∷ ms) [] p q = absurd q
all_same (c ∷ cs) (m ∷ ms) (k ∷ ks) p q = (same_both c m k p.0 q.0, all_same cs ms ks p.1 q.1)

-- any two whole runs are alike
pub all_alike : AllAlike
all_alike rules now course moves others ending other is calm run also =
    let one = one_course rules now course moves ending is calm run in
    let two = one_course rules now course others other is calm also in
    let same = one_ending rules (after rules now course) ending other one.ends two.ends in (
      all_same course moves others one.same two.same,
      same,
      one.told ∙ ap (whole_text rules now course) same ∙ sym two.told,
      one.plain ∙ sym two.plain,
    )
