use Rattle.std.proofs.Common.{sym, subst, arith}
use Rattle.link_arena.specs.Chains.{AreApart}
use Rattle.link_arena.proofs.ChangeLemmas.{head_low, few, push_fits, previous_count, homes_count, push_keeps, push_shows, push_apart}
use Rattle.link_arena.proofs.Links.push_back.Goals as goal

pub overflow_add-end : goal.overflow_add-end
overflow_add-end c =
    let low = head_low c.self.invariant c.self.view_is c.args.head c.requires.range.0 in
    omega (arith, few c.self.invariant c.self.view_is)

pub link-requires : goal.link-requires
link-requires c = record {
  range = push_fits c.self.invariant c.self.view_is c.args.head c.args.node c.requires.range.0 c.requires.range.1 c.requires.free;
  same = (previous_count c.self.invariant c.self.view_is, homes_count c.self.invariant c.self.view_is);
}

pub invariant_of-self : goal.invariant_of-self
invariant_of-self c = push_keeps c.self.invariant c.self.view_is c.args.head c.args.node c.requires.range.0 c.requires.range.1 c.requires.free c.link.ensures.next c.link.ensures.previous c.link.ensures.homes

pub returns-clause-lists : goal.returns-clause-lists
returns-clause-lists c = push_shows c.self.invariant c.self.view_is c.args.head c.args.node c.requires.range.0 c.requires.range.1 c.requires.free c.link.ensures.next

pub returns-clause-apart : goal.returns-clause-apart
returns-clause-apart c =
    subst AreApart (sym (push_shows c.self.invariant c.self.view_is c.args.head c.args.node c.requires.range.0 c.requires.range.1 c.requires.free c.link.ensures.next))
    (push_apart c.self.invariant c.self.view_is c.args.head c.args.node c.requires.range.0 c.requires.range.1 c.requires.free)
