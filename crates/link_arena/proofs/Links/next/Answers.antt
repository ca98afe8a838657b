use Rattle.std.proofs.Common.{◌∙◌, sym, ap, arith}
use Rattle.link_arena.specs.Rings.{node_of}
use Rattle.link_arena.proofs.ChangeLemmas.{node_low, places_count, homes_count, shown_next, shown_next_none, shown_apart}
use Rattle.link_arena.proofs.Links.next.Goals as goal

pub home-requires : goal.home-requires
home-requires c =
    let low = node_low c.self.invariant c.self.view_is c.args.node c.requires in
    omega (arith, places_count c.self.invariant c.self.view_is, homes_count c.self.invariant c.self.view_is)

pub returns-in_err-_head-clause-next : goal.returns-in_err-_head-clause-next
returns-in_err-_head-clause-next c = c.from_residual.ensures ∙ shown_next_none c.self.invariant c.self.view_is c.args.node c.requires (sym c.in_err-_head.ensures)

pub returns-in_err-_head-clause-apart : goal.returns-in_err-_head-clause-apart
returns-in_err-_head-clause-apart c = shown_apart c.self.invariant c.self.view_is

pub returns-clause-next : goal.returns-clause-next
returns-clause-next c =
    c.node_at.ensures
    ∙ ap (node_of c.self.inside.nodes) c.next.ensures
    ∙ shown_next c.self.invariant c.self.view_is c.args.node c.in_ok-_head._head c.requires (sym c.in_ok-_head.ensures)

pub returns-clause-apart : goal.returns-clause-apart
returns-clause-apart c = shown_apart c.self.invariant c.self.view_is
