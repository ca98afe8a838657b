use Rattle.std.proofs.Common.{◌∙◌, sym, ap}
use Rattle.link_arena.specs.Chains.{list_of}
use Rattle.link_arena.proofs.ListLemmas.{has_place, first_is_in}
use Rattle.link_arena.proofs.StackLemmas.{front_lists}
use Rattle.link_arena.proofs.Links.push_front.Goals as goal

pub insert_before-requires-clause-range : goal.insert_before-requires-clause-range
insert_before-requires-clause-range c =
    (c.requires.range.1, c.first.ensures.apart.below c.args.head c.in-Some.at (first_is_in (list_of c.args.self.now.lists c.args.head) c.in-Some.at (sym c.first.ensures.first ∙ c.in-Some.is)))

pub insert_before-requires-clause-placed : goal.insert_before-requires-clause-placed
insert_before-requires-clause-placed c =
    has_place c.args.self.now.lists c.in-Some.at c.args.head (first_is_in (list_of c.args.self.now.lists c.args.head) c.in-Some.at (sym c.first.ensures.first ∙ c.in-Some.is))

pub returns-in-Some-clause-lists : goal.returns-in-Some-clause-lists
returns-in-Some-clause-lists c = λ h.
    ap (λ l. list_of l.lists h) c.insert_before.ensures.lists
    ∙ front_lists c.args.self.now c.args.head c.args.node c.in-Some.at h c.first.ensures.apart (sym c.first.ensures.first ∙ c.in-Some.is)
