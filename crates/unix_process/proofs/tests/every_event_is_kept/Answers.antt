use Rattle.std.proofs.Common.{◌≡◌, ◌≤◌, ◌+◌, ◌∙◌, ℕ, cond, sym, ap, subst, inl, inr, arith}
use Rattle.std.proofs.lemmas.Bool.{cases_Bool}
use Rattle.unix_process.specs.declared.UnixEvent.{UnixEvent}
use Rattle.unix_process.specs.declared.UnixEvent.TheVariants.{Sig, Tick, Input}
use Rattle.unix_process.specs.Merging.{same_event, one_entry, merged, count_of}
use Rattle.unix_process.specs.Unix.{UnixState}
use Rattle.unix_process.proofs.MergingLemmas.{counts_add_up}
use Rattle.unix_process.proofs.tests.every_event_is_kept.Goals as goal
use Rattle.unix_process.proofs.tests.every_event_is_kept.Goals.{in-Some, in_default}

-- an entry more raises no count by more than 1
one_more : (d e : UnixEvent) (first n : ℕ) (old new : UnixState) → new ≡ record old { pending = merged (one_entry d first) old.pending } → count_of e old.pending ≤ n → count_of e new.pending ≤ n + 1
one_more d e first n old new is few =
    let all = ap (λ (u : UnixState). count_of e u.pending) is ∙ counts_add_up (one_entry d first) old.pending e in
    elim (cases_Bool (same_event d e)) [
      | inl same ↦ (let more = all ∙ ap (λ b. count_of e old.pending + cond b 1 0) same in omega arith)
      | inr other ↦ (let more = all ∙ ap (λ b. count_of e old.pending + cond b 1 0) other in omega arith)
    ]

pub loop-number-preserved : goal.loop-number-preserved
loop-number-preserved g c =
    λ e. elim c.match-new.branch [
      | in-Some w ↦ subst (λ (u : UnixState). count_of e u.pending ≤ c.loop-number.number + 1) (sym w.unix-is) (one_more (Sig w.in-Some.sig) e c.loop-number.number c.loop-number.number c.loop-number.unix w.accept.new.self w.accept.ensures (c.loop-number.invariant e))
      | in_default w ↦ subst (λ (u : UnixState). count_of e u.pending ≤ c.loop-number.number + 1) (sym w.unix-is) (omega (arith, c.loop-number.invariant e))
    ]

pub accept-requires-3 : goal.accept-requires-3
accept-requires-3 g c = omega (arith, one_more Tick Input 32 c.loop-number.number c.loop-number.unix c.accept-2.new.self c.accept-2.ensures (c.loop-number.invariant Input))
