-- From a good state within the budget there is one course, and it is a whole run.
use Rattle.std.proofs.Common.{◌≡◌, ◌∙◌, ap, sym, refl, subst, ℕ, zero, suc, ◌≤◌, List, [], ◌∷◌, length, take, Option, Some, None, arith, inl, inr, ◌⊎◌, eqb}
use Rattle.std.specs.Prelude.{Bool, true, false, nat_lt, slice_get}
use Rattle.std.specs.List.{AllByRecursion}
use Rattle.std.proofs.lemmas.Bool.{ltb-true, or_left, eq-eqb}
use Rattle.std.proofs.lemmas.Option.{same_Some}
use Rattle.thread_base.specs.Orders.{is_in}
use Rattle.journal_text.specs.Valid.{IsJournal}
use Rattle.posix_model.specs.Scheduling.{chosen}
use Rattle.posix_model.specs.Deliveries.{Delivery, next_delivery}
use Rattle.posix_model.specs.Good.{IsGood}
use Rattle.posix_model.specs.Journals.{kind_of}
use Rattle.posix_model.specs.Laws.{IsWholeRun}
use Rattle.posix_model.specs.Runs.{Rules, Moment, Allowed, IsTurnOf, MayArrive, Ends, due, moved, after}
use Rattle.posix_model.specs.Start.{start}
use Rattle.posix_model.specs.declared.Ending.{Ending}
use Rattle.posix_model.specs.declared.Move.{Move}
use Rattle.posix_model.specs.declared.Move.TheVariants.{Instr, Arrive, Deliver}
use Rattle.posix_model.proofs.GoodMoves.{goodness}
use Rattle.posix_model.proofs.EndLemmas.{one_ending}
use Rattle.posix_model.proofs.RunLaws.{progress, one_alone, still_within}
use Rattle.posix_model.proofs.TraceLemmas.{moves_left, moves_fall}
use Rattle.run_laws.specs.Course.{turn, first_of, unless_over, next_move, IsCourse, IsCalm, CourseExists, OneCourseFromStart}
use Rattle.run_laws.proofs.EntryLemmas.{lowest_is_next, starts_calm}
use Rattle.run_laws.proofs.CourseLemmas.{place, one_is_next, one_course}

-- ---- the next move of the course is allowed

-- the lowest entry that is due may arrive alone
lowest_arrives : (rules : Rules) (now : Moment) (n : ℕ) (ns : List ℕ) → IsJournal rules.journal → now.state.over ≡ None → due rules now ≡ n ∷ ns
    → MayArrive rules now n 1 (place rules now)
lowest_arrives rules now n ns journal over some =
    let its = lowest_is_next rules now n ns journal some in
    let here : is_in n (due rules now) ≡ true = ap (is_in n) some ∙ or_left (eqb n n) (is_in n ns) (eq-eqb n n refl) in
    record {
      going_on = over;
      entry = its.entry;
      here = its.here;
      next = ap (λ xs. slice_get xs 0) its.next;
      alone = one_alone (kind_of its.entry.what);
      enough = subst (λ xs. 1 ≤ length xs) (sym its.next) (omega arith);
      due = subst (λ xs. AllByRecursion (λ m. is_in m (due rules now) ≡ true) (take 1 xs)) (sym its.next) (here, tt);
      place = refl;
    }

-- the cases of the next move: over, an entry that is due, a delivery, nobody, a thread within the budget or at its end
by_cases : (rules : Rules) (now : Moment) (move : Move) (over : Option Ending) (ns : List ℕ) (delivery : Option Delivery) (first : Option ℕ) (room : Bool)
    → now.state.over ≡ over → due rules now ≡ ns → next_delivery now.state ≡ delivery → chosen now.state ≡ first
    → nat_lt now.instructions rules.settings.budget ≡ room → IsJournal rules.journal
    → unless_over over (first_of (place rules now) ns delivery (turn first room)) ≡ Some move → Allowed rules now move
by_cases rules now move (Some e) ns delivery first room over some next is low journal h = absurd (let f : None ≡ Some move = h in cc)
by_cases rules now move None (n ∷ ns) delivery first room over some next is low journal h =
    subst (Allowed rules now) (same_Some (Arrive n 1 (place rules now)) move h) (lowest_arrives rules now n ns journal over some)
by_cases rules now move None [] (Some d) first room over some next is low journal h =
    subst (Allowed rules now) (same_Some Deliver move h) (over, d, next)
by_cases rules now move None [] None None room over some next is low journal h = absurd (let f : None ≡ Some move = h in cc)
by_cases rules now move None [] None (Some t) false over some next is low journal h = absurd (let f : None ≡ Some move = h in cc)
by_cases rules now move None [] None (Some t) true over some next is low journal h =
    let its : IsTurnOf rules now t = record { going_on = over; nothing_due = some; settled = next; first = is } in
    subst (Allowed rules now) (same_Some (Instr t) move h) (its, ltb-true now.instructions rules.settings.budget low)

next_is_allowed : (rules : Rules) (now : Moment) (move : Move) → IsJournal rules.journal → next_move rules now ≡ Some move → Allowed rules now move
next_is_allowed rules now move journal h =
    by_cases rules now move now.state.over (due rules now) (next_delivery now.state) (chosen now.state) (nat_lt now.instructions rules.settings.budget)
    refl refl refl refl refl journal h

-- where no move is next, the run has ended
none_ends : (rules : Rules) (now : Moment) → IsJournal rules.journal → now.instructions ≤ rules.settings.budget → next_move rules now ≡ None
    → (ending : Ending) × Ends rules now ending
none_ends rules now journal within none =
    elim (progress rules now journal within) [
      | inl done ↦ (done.ending, done.ends)
      | inr more ↦
          absurd (let next = one_is_next rules now more.move more.allowed in
          let e : None ≡ Some next.0 = sym none ∙ next.1 in cc)
    ]

-- ---- the course

-- two courses are one
one_list : (rules : Rules) (now : Moment) (course other : List Move) → IsCourse rules now course → IsCourse rules now other → other ≡ course
one_list rules now [] [] p q = refl
one_list rules now [] (k ∷ ks) p q = absurd (let e : None ≡ Some k = sym p ∙ q.0 in cc)
one_list rules now (m ∷ ms) [] p q = absurd (let e : None ≡ Some m = sym q ∙ p.0 in cc)
one_list rules now (m ∷ ms) (k ∷ ks) p q =
    let same : k ≡ m = same_Some k m (sym q.0 ∙ p.0) in
    let rest = one_list rules (moved rules now m) ms ks p.1 (subst (λ n. IsCourse rules (moved rules now n) ks) same q.1) in
    λ i. same i ∷ rest i

some_or_none : (next : Option Move) → (next ≡ None) ⊎ ((move : Move) × (next ≡ Some move))
some_or_none None = inl refl
some_or_none (Some move) = inr (move, refl)

-- a course that is a whole run
record IsWholeCourse (rules : Rules) (now : Moment) : Type 0 where
  course : List Move
  ending : Ending
  is : IsCourse rules now course
  run : IsWholeRun rules now course ending

module _ (rules : Rules) (journal : IsJournal rules.journal) where
  -- the course is at its end
  ends_here : (now : Moment) → now.instructions ≤ rules.settings.budget → next_move rules now ≡ None → IsWholeCourse rules now
  ends_here now within none =
      let end = none_ends rules now journal within none in
      record { course = []; ending = end.0; is = none; run = record { run = tt; ends = end.1 } }

  -- the course goes on with its next move
  goes_on : (now : Moment) (move : Move) → next_move rules now ≡ Some move → Allowed rules now move → IsWholeCourse rules (moved rules now move)
      → IsWholeCourse rules now
  goes_on now move is allowed rest = record {
    course = move ∷ rest.course;
    ending = rest.ending;
    is = (is, rest.is);
    run = record { run = (allowed, rest.run.run); ends = rest.run.ends };
  }

  -- so many moves may follow at most
  course_of : (fuel : ℕ) (now : Moment) → IsGood now.state → now.instructions ≤ rules.settings.budget → moves_left rules now ≤ fuel → IsWholeCourse rules now
  course_of zero now good within few =
      elim (some_or_none (next_move rules now)) [
        | inl none ↦ ends_here now within none
        | inr some ↦ absurd (let less = moves_fall rules now some.0 journal good (next_is_allowed rules now some.0 journal some.1) in omega (arith, less, few))
      ]
  course_of (suc fuel) now good within few =
      elim (some_or_none (next_move rules now)) [
        | inl none ↦ ends_here now within none
        | inr some ↦
            (let move = some.0 in
            let allowed = next_is_allowed rules now move journal some.1 in
            let less = moves_fall rules now move journal good allowed in
            goes_on now move some.1 allowed
            (course_of fuel (moved rules now move) (goodness.1 rules now move good allowed) (still_within rules now move within allowed) (omega (arith, less, few))))
      ]

pub course_exists : CourseExists
course_exists rules now journal good within =
    let whole = course_of rules journal (moves_left rules now) now good within (omega arith) in
    (whole.course, whole.ending, whole.is, whole.run, λ other q. one_list rules now whole.course other whole.is q)

-- from the start of the machine, where entries are apart
pub one_course_from_start : OneCourseFromStart
one_course_from_start rules memory entry journal apart =
    let now : Moment = start memory entry in
    let found = course_exists rules now journal (goodness.0 memory entry) (omega arith) in
    let course : List Move = found.0 in
    let ending : Ending = found.1 in (
      course,
      ending,
      found.2,
      found.3,
      λ settled moves other run.
          let calm : IsCalm rules now course = record { apart = apart; one = starts_calm rules memory entry apart; settled = settled } in
          let same = one_course rules now course moves other found.2 calm run in
          (same, one_ending rules (after rules now course) other ending same.ends found.3.ends),
    )
