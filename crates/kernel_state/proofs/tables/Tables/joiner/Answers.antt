use Rattle.std.proofs.Common.{◌≡◌, ◌∙◌, sym, ap, ℕ, Bool, true, false, ◌+◌, arith, Some}
use Rattle.thread_base.proofs.SearchLemmas.{found_from_one, found_here, found_later, found_no_more}
use Rattle.posix_model.specs.State.{joins}
use Rattle.kernel_state.specs.View.{view}
use Rattle.kernel_state.proofs.tables.Tables.joiner.Goals as goal

pub loop-index-init : goal.loop-index-init
loop-index-init g c = found_from_one (λ u. joins c.args.t ((view g.R.Ready.order c.args.self.now).threads u).standing)

pub returns-then-joins : goal.returns-then-joins
returns-then-joins g c =
    let p : ℕ → Bool = λ u. joins c.args.t ((view g.R.Ready.order c.args.self.now).threads u).standing in
    let here : p (c.loop-index.index + 1) ≡ true = ap p (sym c.at-u.ensures) ∙ sym c.joins.ensures ∙ c.if-joins.true in
    ap Some c.at-u.ensures ∙ sym (c.loop-index.invariant ∙ found_here p (c.loop-index.index + 1) (omega arith) here)

pub loop-index-preserved : goal.loop-index-preserved
loop-index-preserved g c =
    let p : ℕ → Bool = λ u. joins c.args.t ((view g.R.Ready.order c.args.self.now).threads u).standing in
    let here : p (c.loop-index.index + 1) ≡ false = ap p (sym c.at-u.ensures) ∙ sym c.joins.ensures ∙ c.if-joins.false in
    c.loop-index.invariant ∙ found_later p (c.loop-index.index + 1) (omega arith) here

pub returns : goal.returns
returns g c = sym (c.loop-index.invariant ∙ found_no_more (λ u. joins c.args.t ((view g.R.Ready.order c.args.self.now).threads u).standing) (c.loop-index.index + 1) (omega arith))
