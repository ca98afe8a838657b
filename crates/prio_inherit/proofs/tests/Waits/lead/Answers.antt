use Rattle.std.proofs.Common.{◌≡◌, ◌∙◌, ℕ, Some, None, sym, ap, arith, set, get_or, get_or-set_same}
use Rattle.thread_base.specs.Maps.{put, numbered}
use Rattle.thread_base.proofs.MapLemmas.{numbered_get}
use Rattle.prio_inherit.specs.Stored.{own_of, edge_of}
use Rattle.prio_inherit.proofs.MirrorLemmas.{mirror_set}
use Rattle.prio_inherit.proofs.AfterLemmas.{edge_added, edge_removed}
use Rattle.prio_inherit.proofs.tests.Waits.lead.Goals as goal
use Rattle.prio_inherit.proofs.tests.Waits.lead.Goals.{After-set_edge}

-- the edge before
led : (c : After-set_edge) → edge_of c.args.self.now.table c.args.t ≡ get_or c.args.self.now.edges c.index-index.result c.index-edges-index.result
led c =
    c.args.self.now.edge_is c.args.t
    ∙ sym (numbered_get None _ c.args.self.now.edges c.index-index.result c.args.t c.index-index.ensures.value (omega arith))

-- the edge that was read back
back : (c : After-set_edge) → get_or (set c.args.self.now.edges c.index-index.result c.args.to) c.index-index.result c.index-edges-index-3.result ≡ c.args.to
back c = get_or-set_same c.args.self.now.edges c.index-index.result c.args.to c.index-edges-index-3.result (omega arith)

edges_are : (c : After-set_edge) → (u : ℕ) → edge_of c.set_edge.new.self u ≡ numbered None (set c.args.self.now.edges c.index-index.result c.args.to) u
edges_are c = λ u. (λ k. (c.set_edge.ensures.edge ∙ ap (put (edge_of c.args.self.now.table) c.args.t) (back c)) k u)
    ∙ mirror_set None (edge_of c.args.self.now.table) c.args.self.now.edges c.index-index.result c.args.t c.args.to c.args.self.now.edge_is c.index-index.ensures.value (omega arith) u

owns_are : (c : After-set_edge) → (u : ℕ) → own_of c.set_edge.new.self u ≡ numbered 0 c.args.self.now.own u
owns_are c = λ u. (λ k. c.set_edge.ensures.own k u) ∙ c.args.self.now.own_is u

pub raise_along-requires : goal.raise_along-requires
raise_along-requires c =
    rw (c.set_edge.ensures.own, c.set_edge.ensures.edge, c.set_edge.ensures.prio)
    (edge_added _ _ _ c.args.t c.args.self.now.effective _ (led (goal.at.raise_along-requires c).After-set_edge ∙ c.in-None.is))

pub lower_along-requires : goal.lower_along-requires
lower_along-requires c =
    rw (c.set_edge.ensures.own, c.set_edge.ensures.edge, c.set_edge.ensures.prio)
    (edge_removed _ _ _ c.args.t c.args.self.now.effective _ (Some c.in-Some.old) (led (goal.at.lower_along-requires c).After-set_edge ∙ c.in-Some.is))

pub invariant_of-self : goal.invariant_of-self
invariant_of-self c = record {
  own_is = λ u. (λ k. c.raise_along.ensures.own k u) ∙ owns_are (goal.at.invariant_of-self c).After-set_edge u;
  edge_is = λ u. (λ k. c.raise_along.ensures.edge k u) ∙ edges_are (goal.at.invariant_of-self c).After-set_edge u;
  effective = c.raise_along.ensures.prio;
}

pub invariant_of-self-in-Some : goal.invariant_of-self-in-Some
invariant_of-self-in-Some c = record {
  own_is = λ u. (λ k. c.lower_along.ensures.own k u) ∙ owns_are (goal.at.invariant_of-self-in-Some c).After-set_edge u;
  edge_is = λ u. (λ k. c.lower_along.ensures.edge k u) ∙ edges_are (goal.at.invariant_of-self-in-Some c).After-set_edge u;
  effective = c.lower_along.ensures.prio;
}
