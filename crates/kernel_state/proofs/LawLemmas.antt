-- The laws of what came from outside.
use Rattle.std.proofs.Common.{◌≡◌, ap, refl, true, arith, take}
use Rattle.std.specs.Prelude.{◌&&◌}
use Rattle.std.proofs.lemmas.List.{length-drop}
use Rattle.journal_text.specs.Contents.{Contents}
use Rattle.posix_model.specs.Journals.{numbers_from}
use Rattle.kernel_state.specs.Laws.{StartStands, CountsLeft, TakenFollows, DrainedMayArrive, ReachedAreDue, NothingLeft, NextIsDue}
use Rattle.kernel_state.specs.Outside.{OutsideState, is_nothing}
use Rattle.kernel_state.specs.Presented.{kind_of_event, IsSound, IsLeftBehind, taken_of}
use Rattle.kernel_state.proofs.PresentedLemmas.{stands_first}
use Rattle.kernel_state.proofs.SoundLemmas.{taken_is}
use Rattle.kernel_state.proofs.ArrivalLemmas.{due_reached, drained_may, moved_stands, stands_empty, nothing_left, idle_due}

pub start_stands : StartStands
start_stands = stands_first

pub counts_left : CountsLeft
counts_left o taken e s =
    let all = s.counts e in
    let off = length-drop (taken (kind_of_event e)) (numbers_from (kind_of_event e) 1 (take o.presented o.journal.entries)) in
    omega (arith, all, off)

pub taken_follows : TakenFollows
taken_follows = taken_is

pub drained_may_arrive : DrainedMayArrive
drained_may_arrive rules now o d at journal s is due_ones going place =
    (drained_may o now.taken d s is rules now at journal refl due_ones going place, moved_stands o now.taken d s is rules now at journal refl)

pub reached_are_due : ReachedAreDue
reached_are_due = due_reached

pub left_is_next : NothingLeft
left_is_next o taken s none = nothing_left o.journal.entries taken o.presented (stands_empty o taken none s)

pub next_is_due : NextIsDue
next_is_due rules now o journal s none waiting nothing =
    idle_due o.journal.entries now.taken o.presented (stands_empty o now.taken none s) rules now (ap (λ (j : Contents). j.entries) journal) refl waiting nothing

pub left_behind : (o : OutsideState) → IsSound o → (is_nothing o.log.slots && is_nothing o.unix.pending) ≡ true → IsLeftBehind o
left_behind o sound = left_is_next o (taken_of o) sound.stands
