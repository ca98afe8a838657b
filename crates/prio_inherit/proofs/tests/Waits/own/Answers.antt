use Rattle.std.proofs.Common.{◌∙◌, ◌≤◌, None, arith}
use Rattle.thread_base.proofs.MapLemmas.{numbered_read}
use Rattle.prio_inherit.specs.Stored.{own_of}
use Rattle.prio_inherit.proofs.MirrorLemmas.{mirror_set}
use Rattle.prio_inherit.proofs.AfterLemmas.{own_raised, own_lowered}
use Rattle.prio_inherit.proofs.tests.Waits.own.Goals as goal

pub raise_along-requires : goal.raise_along-requires
raise_along-requires c =
    let was = numbered_read 0 _ c.args.self.now.own _ c.args.t c.index-self-index.is c.index-index.ensures.value (omega arith) in
    let higher : own_of c.args.self.now.table c.args.t ≤ c.args.p = omega (arith, was, c.args.self.now.own_is c.args.t) in
    rw (c.set_own.ensures.own, c.set_own.ensures.edge, c.set_own.ensures.prio) (own_raised _ _ _ c.args.t c.args.self.now.effective c.args.p higher)

pub lower_along-requires : goal.lower_along-requires
lower_along-requires c =
    rw (c.set_own.ensures.own, c.set_own.ensures.edge, c.set_own.ensures.prio) (own_lowered _ _ _ c.args.t c.args.self.now.effective c.args.p None)

pub invariant_of-self : goal.invariant_of-self
invariant_of-self c = record {
  own_is = λ u. (λ k. (c.raise_along.ensures.own ∙ c.set_own.ensures.own) k u)
      ∙ mirror_set 0 (own_of c.args.self.now.table) c.args.self.now.own c.index-index.result c.args.t c.args.p c.args.self.now.own_is c.index-index.ensures.value (omega arith) u;
  edge_is = λ u. (λ k. (c.raise_along.ensures.edge ∙ c.set_own.ensures.edge) k u) ∙ c.args.self.now.edge_is u;
  effective = c.raise_along.ensures.prio;
}

pub invariant_of-self-else-number : goal.invariant_of-self-else-number
invariant_of-self-else-number c = record {
  own_is = λ u. (λ k. (c.lower_along.ensures.own ∙ c.set_own.ensures.own) k u)
      ∙ mirror_set 0 (own_of c.args.self.now.table) c.args.self.now.own c.index-index.result c.args.t c.args.p c.args.self.now.own_is c.index-index.ensures.value (omega arith) u;
  edge_is = λ u. (λ k. (c.lower_along.ensures.edge ∙ c.set_own.ensures.edge) k u) ∙ c.args.self.now.edge_is u;
  effective = c.lower_along.ensures.prio;
}
