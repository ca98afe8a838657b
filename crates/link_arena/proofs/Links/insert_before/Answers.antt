use Rattle.std.proofs.Common.{sym, subst}
use Rattle.link_arena.specs.Chains.{AreApart}
use Rattle.link_arena.proofs.ChangeLemmas.{insert_fits, previous_count, homes_count, insert_keeps, insert_shows, insert_apart}
use Rattle.link_arena.proofs.Links.insert_before.Goals as goal

pub link-requires : goal.link-requires
link-requires c = record {
  range = insert_fits c.self.invariant c.self.view_is c.args.node c.args.at c.requires.range.0 c.requires.range.1 c.requires.free c.requires.placed;
  same = (previous_count c.self.invariant c.self.view_is, homes_count c.self.invariant c.self.view_is);
}

pub invariant_of-self : goal.invariant_of-self
invariant_of-self c = insert_keeps c.self.invariant c.self.view_is c.args.node c.args.at c.requires.range.0 c.requires.range.1 c.requires.free c.requires.placed c.link.ensures.next c.link.ensures.previous c.link.ensures.homes

pub returns-clause-lists : goal.returns-clause-lists
returns-clause-lists c = insert_shows c.self.invariant c.self.view_is c.args.node c.args.at c.requires.range.0 c.requires.range.1 c.requires.free c.requires.placed c.link.ensures.next

pub returns-clause-apart : goal.returns-clause-apart
returns-clause-apart c = subst AreApart (sym (insert_shows c.self.invariant c.self.view_is c.args.node c.args.at c.requires.range.0 c.requires.range.1 c.requires.free c.requires.placed c.link.ensures.next)) (insert_apart c.self.invariant c.self.view_is c.args.node c.args.at c.requires.range.0 c.requires.range.1 c.requires.free c.requires.placed)
