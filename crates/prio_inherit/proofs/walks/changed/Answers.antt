use Rattle.std.proofs.Common.{◌≡◌, ◌∙◌, ◌+◌, sym, refl, ℕ, not, eqb, arith}
use Rattle.thread_base.specs.Maps.{numbered}
use Rattle.thread_base.proofs.MapLemmas.{numbered_get}
use Rattle.prio_inherit.proofs.SetLemmas.{changed_skip, changed_add, apart, alike}
use Rattle.prio_inherit.proofs.walks.changed.Goals as goal
use Rattle.prio_inherit.proofs.walks.changed.Goals.{then-ne, else-ne}

pub loop-index-preserved : goal.loop-index-preserved
loop-index-preserved c =
    let old : ℕ → ℕ = numbered 0 c.args.before.now in
    let new : ℕ → ℕ = numbered 0 c.args.now.now in
    let n : ℕ = c.loop-index.index in
    let was = numbered_get 0 c.index-before-index.result c.args.before.now n (n + 1) refl (omega arith) in
    let is = numbered_get 0 c.index-now-index.result c.args.now.now n (n + 1) refl (omega arith) in
    let test : not (eqb (old (n + 1)) (new (n + 1))) ≡ c.ne.result = sym (λ k. not (eqb (was k) (is k))) ∙ sym c.ne.ensures in
    elim c.if-ne.branch [
      | then-ne w ↦ rw w.set-is
          (changed_add n c.loop-index.set old new (omega arith) c.loop-index.invariant (apart (old (n + 1)) (new (n + 1)) (test ∙ w.if-ne.true)))
      | else-ne w ↦ rw w.set-is
          (changed_skip n c.loop-index.set old new c.loop-index.invariant (alike (old (n + 1)) (new (n + 1)) (test ∙ w.if-ne.false)))
    ]
