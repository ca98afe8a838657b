use Rattle.std.proofs.Common.{refl, ◌≡◌, ◌∙◌, sym, ℕ, List, [], ◌∷◌, Some, None, arith, inl, inr}
use Rattle.thread_base.specs.Deliveries.{signals}
use Rattle.thread_base.specs.Maps.{put}
use Rattle.thread_base.specs.Priority.{tids, leads, effective}
use Rattle.journal_text.specs.declared.entry.What.TheVariants.{Sig}
use Rattle.posix_model.specs.Deliveries.{Gives, next_delivery, set_pending}
use Rattle.posix_model.specs.Journals.{untaken, reached}
use Rattle.posix_model.specs.Runs.{Moment, Ends, IsIdle, IsSpent, due}
use Rattle.posix_model.specs.Scheduling.{eff, chosen}
use Rattle.posix_model.specs.Examples.{six_threads}
use Rattle.posix_model.specs.JournalExamples.{five_entries, moment_of, all_taken, asleep, entry_with}
use Rattle.posix_model.specs.declared.Ending.TheVariants.{Idle, Budget}
use Rattle.posix_model.proofs.examples.runs_end.Goals as goal

-- where a run goes on and is not idle, it does not end so
not_idle : (now : Moment) → now.state.over ≡ None → (IsIdle five_entries now → ⊥) → Ends five_entries now Idle → ⊥
not_idle now going never (inl over) = let e : None ≡ Some Idle = sym going ∙ over in cc
not_idle now going never (inr (inl idle)) = never idle.1
not_idle now going never (inr (inr spent)) = let e : Idle ≡ Budget = spent.0 in cc

-- where a run goes on and an instruction is not next, it does not end with its budget
not_spent : (now : Moment) → now.state.over ≡ None → (IsSpent five_entries now → ⊥) → Ends five_entries now Budget → ⊥
not_spent now going never (inl over) = let e : None ≡ Some Budget = sym going ∙ over in cc
not_spent now going never (inr (inl idle)) = let e : Budget ≡ Idle = idle.0 in cc
not_spent now going never (inr (inr spent)) = never spent.1

-- a list with a member is not empty
not_nil : (n : ℕ) (ns : List ℕ) → n ∷ ns ≡ [] → ⊥
not_nil n ns e = cc

-- who is there is somebody
not_none : (t : ℕ) → Some t ≡ None → ⊥
not_none t e = cc

-- entries are left
entries_left : IsIdle five_entries (moment_of asleep 4 0) → ⊥
unfolding put tids leads effective signals eff chosen next_delivery untaken reached due
entries_left idle = not_nil 1 (2 ∷ 3 ∷ 4 ∷ 5 ∷ []) idle.taken

-- a thread is ready
thread_left : IsIdle five_entries (all_taken six_threads 4) → ⊥
unfolding put tids leads effective signals eff chosen next_delivery untaken reached due
thread_left idle = not_none 1 idle.nobody

-- a delivery is next
delivery_left : IsIdle five_entries (all_taken (set_pending asleep 1 12 1) 4) → ⊥
unfolding put tids leads effective signals eff chosen next_delivery untaken reached due
delivery_left idle = let e : Some (Gives 1 12 1) ≡ None = idle.settled in cc

-- entries are due
entries_due : IsSpent five_entries (moment_of six_threads 100 0) → ⊥
unfolding put tids leads effective signals eff chosen next_delivery untaken reached due
entries_due spent = not_nil 1 (2 ∷ 3 ∷ 4 ∷ 5 ∷ []) spent.turn.nothing_due

pub returns : goal.returns
unfolding put tids leads effective signals eff chosen next_delivery untaken reached due
returns c = (
  inr (inl (refl, record { going_on = refl; settled = refl; nobody = refl; taken = refl })),
  not_idle (moment_of asleep 4 0) refl entries_left,
  not_idle (all_taken six_threads 4) refl thread_left,
  not_idle (all_taken (set_pending asleep 1 12 1) 4) refl delivery_left,
  record {
    going_on = refl;
    entry = entry_with 5 (Sig 10);
    here = refl;
    next = refl;
    alone = omega arith;
    enough = omega arith;
    due = (refl, tt);
    place = refl;
  },
  inr (inr (refl, record { used_up = refl; tid = 1; turn = record { going_on = refl; nothing_due = refl; settled = refl; first = refl } })),
  not_spent (moment_of six_threads 100 0) refl entries_due,
  λ allowed. omega (arith, allowed.1),
)
