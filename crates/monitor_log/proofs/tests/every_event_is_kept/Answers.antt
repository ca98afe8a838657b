use Rattle.std.proofs.Common.{◌≡◌, ◌≤◌, ◌+◌, ◌∙◌, ℕ, cond, sym, ap, subst, inl, inr, arith}
use Rattle.std.proofs.lemmas.Bool.{cases_Bool}
use Rattle.unix_process.specs.declared.UnixEvent.{UnixEvent}
use Rattle.unix_process.specs.declared.UnixEvent.TheVariants.{Sig, Tick}
use Rattle.unix_process.specs.declared.Taken.{Taken}
use Rattle.unix_process.specs.Merging.{same_event, one_entry, merged, count_of}
use Rattle.unix_process.proofs.MergingLemmas.{counts_add_up}
use Rattle.monitor_log.specs.Log.{LogState}
use Rattle.monitor_log.proofs.tests.every_event_is_kept.Goals as goal
use Rattle.monitor_log.proofs.tests.every_event_is_kept.Goals.{in-Some, in_default}

-- an entry more raises no count by more than 1
one_more : (d e : UnixEvent) (first n : ℕ) (item : Taken) (old new : LogState) → item ≡ one_entry d first → new ≡ record old { slots = merged item old.slots } → count_of e old.slots ≤ n → count_of e new.slots ≤ n + 1
one_more d e first n item old new one is few =
    let all = ap (λ (u : LogState). count_of e u.slots) is ∙ ap (λ t. count_of e (merged t old.slots)) one ∙ counts_add_up (one_entry d first) old.slots e in
    elim (cases_Bool (same_event d e)) [
      | inl same ↦ (let more = all ∙ ap (λ b. count_of e old.slots + cond b 1 0) same in omega arith)
      | inr other ↦ (let more = all ∙ ap (λ b. count_of e old.slots + cond b 1 0) other in omega arith)
    ]

pub loop-number-preserved : goal.loop-number-preserved
loop-number-preserved g c =
    λ e. elim c.match-new.branch [
      | in-Some w ↦ subst (λ (u : LogState). count_of e u.slots ≤ c.loop-number.number + 1) (sym w.log-is) (one_more (Sig w.in-Some.sig) e c.loop-number.number c.loop-number.number w.taken.result c.loop-number.log w.add.new.self w.taken.ensures w.add.ensures.slots (c.loop-number.invariant e))
      | in_default w ↦ subst (λ (u : LogState). count_of e u.slots ≤ c.loop-number.number + 1) (sym w.log-is) (omega (arith, c.loop-number.invariant e))
    ]

pub add-requires-3 : goal.add-requires-3
add-requires-3 g c =
    let few = one_more Tick c.taken-3.result.event 32 c.loop-number.number c.taken-2.result c.loop-number.log c.add-2.new.self c.taken-2.ensures c.add-2.ensures.slots (c.loop-number.invariant c.taken-3.result.event) in
    let one = ap (λ (t : Taken). t.count) c.taken-3.ensures in
    omega arith
