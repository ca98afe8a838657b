use Rattle.std.proofs.Common.{◌≡◌, ◌∙◌, sym, ap, ℕ, Bool, true, false, is_none, ◌+◌, arith, Some, subst, not}
use Rattle.thread_base.proofs.SearchLemmas.{found_from_one, found_here, found_later, found_no_more}
use Rattle.thread_table.specs.Rows.{rows}
use Rattle.thread_table.proofs.Threads.least_free.Goals as goal

pub loop-index-init : goal.loop-index-init
loop-index-init c = found_from_one (λ t. is_none (rows c.args.self.now t))

pub returns-then-is_none : goal.returns-then-is_none
returns-then-is_none c =
    let free : ℕ → Bool = λ t. is_none (rows c.args.self.now t) in
    let read = c.row.ensures ∙ ap (rows c.args.self.now) c.at-t.ensures in
    let here : free (c.loop-index.index + 1) ≡ true = subst (λ o. is_none o ≡ true) read (ap not c.if-is_none.ensures) in
    ap Some c.at-t.ensures ∙ sym (c.loop-index.invariant ∙ found_here free (c.loop-index.index + 1) (omega arith) here)

pub loop-index-preserved : goal.loop-index-preserved
loop-index-preserved c =
    let free : ℕ → Bool = λ t. is_none (rows c.args.self.now t) in
    let read = c.row.ensures ∙ ap (rows c.args.self.now) c.at-t.ensures in
    let here : free (c.loop-index.index + 1) ≡ false = subst (λ o. is_none o ≡ false) read (ap not c.if-is_none.ensures) in
    c.loop-index.invariant ∙ found_later free (c.loop-index.index + 1) (omega arith) here

pub returns : goal.returns
returns c = sym (c.loop-index.invariant ∙ found_no_more (λ t. is_none (rows c.args.self.now t)) (c.loop-index.index + 1) (omega arith))
