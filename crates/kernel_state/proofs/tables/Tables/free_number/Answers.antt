use Rattle.std.proofs.Common.{◌≡◌, ◌∙◌, sym, ap, refl, ℕ, Bool, true, false, not, ◌+◌, arith, Some}
use Rattle.std.proofs.lemmas.Bool.{not-false}
use Rattle.thread_base.proofs.SearchLemmas.{found_from_one, found_here, found_later, found_no_more}
use Rattle.posix_model.specs.State.{is_absent}
use Rattle.kernel_state.specs.View.{view}
use Rattle.kernel_state.proofs.tables.Tables.free_number.Goals as goal

not_true : (b : Bool) → not b ≡ true → b ≡ false
not_true true h = let e : true ≡ false = sym h in absurd (let f : false ≡ true = sym e in cc)
not_true false h = refl

pub loop-index-init : goal.loop-index-init
loop-index-init g c = found_from_one (λ t. is_absent ((view g.R.Ready.order c.args.self.now).threads t).standing)

pub returns-then-not-exists : goal.returns-then-not-exists
returns-then-not-exists g c =
    let p : ℕ → Bool = λ t. is_absent ((view g.R.Ready.order c.args.self.now).threads t).standing in
    let here : p (c.loop-index.index + 1) ≡ true = ap p (sym c.at-t.ensures) ∙ not-false (p c.at-t.result) (sym c.exists.ensures ∙ c.if-not-exists.true) in
    ap Some c.at-t.ensures ∙ sym (c.loop-index.invariant ∙ found_here p (c.loop-index.index + 1) (omega arith) here)

pub loop-index-preserved : goal.loop-index-preserved
loop-index-preserved g c =
    let p : ℕ → Bool = λ t. is_absent ((view g.R.Ready.order c.args.self.now).threads t).standing in
    let here : p (c.loop-index.index + 1) ≡ false = ap p (sym c.at-t.ensures) ∙ not_true (p c.at-t.result) (sym c.exists.ensures ∙ c.if-not-exists.false) in
    c.loop-index.invariant ∙ found_later p (c.loop-index.index + 1) (omega arith) here

pub returns : goal.returns
returns g c = sym (c.loop-index.invariant ∙ found_no_more (λ t. is_absent ((view g.R.Ready.order c.args.self.now).threads t).standing) (c.loop-index.index + 1) (omega arith))
