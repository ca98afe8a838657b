use Rattle.std.proofs.Common.{◌∙◌, arith}
use Rattle.link_arena.proofs.ChangeLemmas.{node_low, places_count, homes_count, shown_head, head_has, no_head, shown_apart}
use Rattle.link_arena.proofs.Links.head_of.Goals as goal

pub home-requires : goal.home-requires
home-requires c =
    let low = node_low c.self.invariant c.self.view_is c.args.node c.requires in
    omega (arith, places_count c.self.invariant c.self.view_is, homes_count c.self.invariant c.self.view_is)

pub returns-clause-head : goal.returns-clause-head
returns-clause-head c = c.home.ensures ∙ shown_head c.self.invariant c.self.view_is c.args.node c.requires

pub returns-clause-apart : goal.returns-clause-apart
returns-clause-apart c = shown_apart c.self.invariant c.self.view_is

pub returns-clause-list : goal.returns-clause-list
returns-clause-list c = head_has c.self.invariant c.self.view_is c.args.node c.requires c.home.result c.home.ensures

pub returns-clause-none : goal.returns-clause-none
returns-clause-none c = no_head c.self.invariant c.self.view_is c.args.node c.requires c.home.result c.home.ensures
