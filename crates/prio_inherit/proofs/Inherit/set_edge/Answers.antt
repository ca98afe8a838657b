use Rattle.std.proofs.Common.{◌≡◌, ℕ, subst, Some, arith}
use Rattle.thread_base.specs.Numbers.{IsTid}
use Rattle.prio_inherit.proofs.TableLemmas.{within_set}
use Rattle.prio_inherit.proofs.Inherit.set_edge.Goals as goal
use Rattle.prio_inherit.proofs.Inherit.set_edge.Goals.{in-Some, in_default}

pub invariant_of-self : goal.invariant_of-self
invariant_of-self c =
    let range : (u : ℕ) → c.args.to ≡ Some u → IsTid u = λ u e. elim c.match-to.branch [
      | in-Some w ↦ (let same : w.in-Some.to ≡ u = cc in subst (λ n. IsTid n) same w.number-in_range.ensures.range)
      | in_default w ↦ absurd (w.in_default.not-Some u e)
    ] in
    record { within = within_set c.args.self.now.edges c.index.result c.args.t c.args.to c.args.self.now.within range c.index.ensures.value (omega arith) }
