use Rattle.std.proofs.Common.{◌≡◌, ◌∙◌, ◌+◌, sym, subst, arith, ap, true, is_some}
use Rattle.posix_model.specs.State.{wait_of, deadline_by}
use Rattle.kernel_state.specs.View.{view}
use Rattle.kernel_state.specs.declared.tables.Tables.{Tables}
use Rattle.dispatcher.proofs.TickNotes.{ExpiresBelow, expires_within, expires_timed, expires_more, expires_all}
use Rattle.dispatcher.proofs.ticking.expire.Goals as goal

pub end_wait-requires-clause-timed : goal.end_wait-requires-clause-timed
end_wait-requires-clause-timed g c =
    subst (λ (x : Tables _). is_some (deadline_by (wait_of ((view g.R.Ready.order x).threads c.in-Some.t).standing)) ≡ true) c.tables.ensures.tables
    (expires_timed g.R.Ready.order c.args.k.now c.loop-t.k c.tables.result.now c.loop-t.from c.args.now c.loop-t.invariant c.tables.ensures.tables c.requires.now c.in-Some.t (sym c.due_from.ensures ∙ c.in-Some.is))

pub loop-t-smaller : goal.loop-t-smaller
loop-t-smaller g c =
    let range = expires_within g.R.Ready.order c.args.k.now c.loop-t.k c.tables.result.now c.loop-t.from c.args.now c.loop-t.invariant c.tables.ensures.tables c.requires.now c.in-Some.t (sym c.due_from.ensures ∙ c.in-Some.is) in
    let low = range.0 in
    let high = range.1 in
    let same = c.number-from.ensures.value in
    omega (arith, low, high, same)

pub loop-t-preserved : goal.loop-t-preserved
loop-t-preserved g c =
    let order = g.R.Ready.order in
    let k = c.args.k.now in
    let range = expires_within order k c.loop-t.k c.tables.result.now c.loop-t.from c.args.now c.loop-t.invariant c.tables.ensures.tables c.requires.now c.in-Some.t (sym c.due_from.ensures ∙ c.in-Some.is) in
    let low = range.0 in
    let high = range.1 in
    let same = c.number-from.ensures.value in
    let few = c.loop-t.invariant.3 in
    let count = c.end_wait.ensures.length in (
      omega arith,
      omega (arith, high, same),
      c.end_wait.ensures.idle,
      omega (arith, low, few, count, same),
      subst (ExpiresBelow order k c.end_wait.new.k) (ap (λ n. n + 1) (sym same))
          (expires_more order k c.loop-t.k c.tables.result.now c.loop-t.from c.args.now c.loop-t.invariant c.tables.ensures.tables c.requires.now c.in-Some.t (sym c.due_from.ensures ∙ c.in-Some.is) c.end_wait.new.k c.end_wait.ensures.noted),
    )

pub returns-clause-noted : goal.returns-clause-noted
returns-clause-noted g c =
    expires_all g.R.Ready.order c.args.k.now c.loop-t.k c.tables.result.now c.loop-t.from c.args.now c.loop-t.invariant c.tables.ensures.tables c.requires.now (sym c.due_from.ensures ∙ c.in_default.is)
