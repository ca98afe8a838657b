use Rattle.std.proofs.Common.{refl, ◌≡◌, sym, subst, ℕ, List, [], ◌∷◌, Some, true, false, arith, slice_get, take}
use Rattle.std.specs.List.{AllByRecursion}
use Rattle.thread_base.specs.Deliveries.{signals}
use Rattle.thread_base.specs.Maps.{put}
use Rattle.thread_base.specs.Orders.{is_in}
use Rattle.thread_base.specs.Priority.{tids, leads, effective}
use Rattle.journal_text.specs.declared.entry.Entry.{Entry}
use Rattle.journal_text.specs.declared.entry.What.TheVariants.{Sig, Tick}
use Rattle.posix_model.specs.Deliveries.{Gives, next_delivery}
use Rattle.posix_model.specs.Journals.{kind_of, left_of_kind, untaken, reached}
use Rattle.posix_model.specs.Examples.{six_threads}
use Rattle.posix_model.specs.JournalExamples.{five_entries, moment_of, with_delivery, entry_with, after_instructions}
use Rattle.posix_model.specs.Runs.{Moment, MayArrive, IsAlone, due}
use Rattle.posix_model.specs.Scheduling.{eff, chosen}
use Rattle.posix_model.proofs.examples.all_arrive_first.Goals as goal

-- nothing is taken yet, and five instructions were made
abbrev now : Moment
now = moment_of with_delivery 5 0

-- the entries of an entry's kind
abbrev left_of : Entry → List ℕ
left_of entry = left_of_kind five_entries.journal.entries now.taken (kind_of entry.what)

-- a list with a member is not empty
not_nil : (n : ℕ) (ns : List ℕ) → n ∷ ns ≡ [] → ⊥
not_nil n ns e = cc

-- two ticks do not come together
tick_waits : MayArrive five_entries (moment_of six_threads 7 0) 2 2 (after_instructions 7) → ⊥
tick_waits may =
    let which : entry_with 5 Tick ≡ may.entry = let e : Some (entry_with 5 Tick) ≡ Some may.entry = may.here in cc in
    let two : ℕ = 2 in
    let alone : two ≡ 1 = subst (λ entry. IsAlone (kind_of entry.what) 2) (sym which) may.alone in
    omega (arith, alone)

-- the second signal does not come before the first
second_waits : MayArrive five_entries now 3 1 (after_instructions 5) → ⊥
second_waits may =
    let which : entry_with 5 (Sig 10) ≡ may.entry = let e : Some (entry_with 5 (Sig 10)) ≡ Some may.entry = may.here in cc in
    let one : ℕ = 1 in
    let first : Some one ≡ Some 3 = subst (λ entry. slice_get (left_of entry) 0 ≡ Some 3) (sym which) may.next in
    cc

-- a signal whose place is not reached does not come with the others
third_waits : MayArrive five_entries now 1 3 (after_instructions 5) → ⊥
unfolding put tids leads effective signals eff chosen next_delivery untaken reached due
third_waits may =
    let which : entry_with 5 (Sig 10) ≡ may.entry = let e : Some (entry_with 5 (Sig 10)) ≡ Some may.entry = may.here in cc in
    let all = subst (λ entry. AllByRecursion (λ n. is_in n (due five_entries now) ≡ true) (take 3 (left_of entry))) (sym which) may.due in
    let last : false ≡ true = all.1.1.0 in
    cc

pub returns : goal.returns
unfolding put tids leads effective signals eff chosen next_delivery untaken reached due
returns c = (
  refl,
  record {
    going_on = refl;
    entry = entry_with 5 (Sig 10);
    here = refl;
    next = refl;
    alone = omega arith;
    enough = omega arith;
    due = (refl, (refl, tt));
    place = refl;
  },
  record {
    going_on = refl;
    entry = entry_with 5 Tick;
    here = refl;
    next = refl;
    alone = refl;
    enough = omega arith;
    due = (refl, tt);
    place = refl;
  },
  (refl, Gives 1 12 0, refl),
  tick_waits,
  second_waits,
  third_waits,
  λ allowed. not_nil 1 (2 ∷ 3 ∷ []) allowed.0.nothing_due,
  (record { going_on = refl; nothing_due = refl; settled = refl; first = refl }, omega arith),
  refl,
  refl,
  refl,
  refl,
  refl,
  refl,
  refl,
  refl,
  refl,
)
