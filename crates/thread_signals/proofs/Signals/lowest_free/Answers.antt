use Rattle.std.proofs.Common.{◌≡◌, ◌∙◌, ◌+◌, ap, sym, arith, ℕ, Bool, Some, true, false}
use Rattle.thread_base.proofs.SearchLemmas.{found_from_one, found_here, found_later, found_no_more}
use Rattle.thread_signals.specs.SignalState.{state_of, free_in}
use Rattle.thread_signals.proofs.Signals.lowest_free.Goals as goal

pub loop-index-init : goal.loop-index-init
loop-index-init c = found_from_one (λ t. free_in (state_of c.args.self.now) t c.args.s)

pub returns-then-is_free : goal.returns-then-is_free
returns-then-is_free c =
    let test : ℕ → Bool = λ t. free_in (state_of c.args.self.now) t c.args.s in
    let passes : test (c.loop-index.index + 1) ≡ true = sym (ap test c.at-t.ensures) ∙ sym c.is_free.ensures ∙ c.if-is_free.true in
    ap Some c.at-t.ensures ∙ sym (c.loop-index.invariant ∙ found_here test (c.loop-index.index + 1) (omega arith) passes)

pub loop-index-preserved : goal.loop-index-preserved
loop-index-preserved c =
    let test : ℕ → Bool = λ t. free_in (state_of c.args.self.now) t c.args.s in
    let fails : test (c.loop-index.index + 1) ≡ false = sym (ap test c.at-t.ensures) ∙ sym c.is_free.ensures ∙ c.if-is_free.false in
    c.loop-index.invariant ∙ found_later test (c.loop-index.index + 1) (omega arith) fails

pub returns : goal.returns
returns c = sym (c.loop-index.invariant ∙ found_no_more (λ t. free_in (state_of c.args.self.now) t c.args.s) (c.loop-index.index + 1) (omega arith))
