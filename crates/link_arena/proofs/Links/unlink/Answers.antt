use Rattle.std.proofs.Common.{sym, subst}
use Rattle.link_arena.specs.Chains.{AreApart}
use Rattle.link_arena.proofs.ChangeLemmas.{placed_low, unlink_fits, previous_count, homes_count, unlink_keeps, unlink_shows, unlink_apart}
use Rattle.link_arena.proofs.Links.unlink.Goals as goal

pub unlink-requires : goal.unlink-requires
unlink-requires c = record {
  range = unlink_fits c.self.invariant c.self.view_is c.args.node (placed_low c.self.invariant c.self.view_is c.args.node c.requires) c.requires;
  same = (previous_count c.self.invariant c.self.view_is, homes_count c.self.invariant c.self.view_is);
}

pub invariant_of-self : goal.invariant_of-self
invariant_of-self c = unlink_keeps c.self.invariant c.self.view_is c.args.node (placed_low c.self.invariant c.self.view_is c.args.node c.requires) c.requires c.unlink.ensures.next c.unlink.ensures.previous c.unlink.ensures.homes

pub returns-clause-lists : goal.returns-clause-lists
returns-clause-lists c = unlink_shows c.self.invariant c.self.view_is c.args.node (placed_low c.self.invariant c.self.view_is c.args.node c.requires) c.requires c.unlink.ensures.next

pub returns-clause-apart : goal.returns-clause-apart
returns-clause-apart c = subst AreApart (sym (unlink_shows c.self.invariant c.self.view_is c.args.node (placed_low c.self.invariant c.self.view_is c.args.node c.requires) c.requires c.unlink.ensures.next)) (unlink_apart c.self.invariant c.self.view_is c.args.node (placed_low c.self.invariant c.self.view_is c.args.node c.requires) c.requires)
