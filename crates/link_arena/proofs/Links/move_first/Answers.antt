use Rattle.std.proofs.Common.{◌≡◌, ◌∙◌, sym, ap, subst, arith, true, Some, length, map, ◌<◌}
use Rattle.std.proofs.lemmas.List.{length-map}
use Rattle.thread_base.specs.Orders.{without}
use Rattle.link_arena.specs.Chains.{list_of, head_in}
use Rattle.link_arena.proofs.ListLemmas.{has_place, first_is_in}
use Rattle.link_arena.proofs.StackLemmas.{both_lists, unlinked_free}
use Rattle.link_arena.proofs.Links.move_first.Goals as goal

pub unlink-requires : goal.unlink-requires
unlink-requires c =
    has_place c.args.self.now.lists c.in_ok-node.node c.args.from
    (first_is_in (list_of c.args.self.now.lists c.args.from) c.in_ok-node.node (sym c.first.ensures.first ∙ c.in_ok-node.was))

pub push_front-requires-clause-range : goal.push_front-requires-clause-range
push_front-requires-clause-range c =
    let there = first_is_in (list_of c.args.self.now.lists c.args.from) c.in_ok-node.node (sym c.first.ensures.first ∙ c.in_ok-node.was) in
    let count = ap (λ l. length l.lists) c.unlink.ensures.lists ∙ length-map c.args.self.now.lists (without c.in_ok-node.node) in
    let nodes = ap (λ l. l.nodes) c.unlink.ensures.lists in
    (omega (arith, count, c.requires.range.1), omega (arith, nodes, c.first.ensures.apart.below c.args.from c.in_ok-node.node there))

pub push_front-requires-clause-free : goal.push_front-requires-clause-free
push_front-requires-clause-free c = ap (λ l. head_in l.lists c.in_ok-node.node) c.unlink.ensures.lists ∙ unlinked_free c.args.self.now c.in_ok-node.node

pub returns-clause-lists : goal.returns-clause-lists
returns-clause-lists c =
    both_lists c.args.self.now c.push_front.new.self.lists c.args.from c.args.to c.in_ok-node.node c.requires.two c.first.ensures.apart (sym c.first.ensures.first ∙ c.in_ok-node.was)
    (λ h. c.push_front.ensures.lists h ∙ ap (λ l. Rattle.std.specs.Bool.if◌then◌else◌ (Rattle.std.specs.Bool.◌==◌ h c.args.to) (Rattle.std.proofs.Common.◌∷◌ c.in_ok-node.node (list_of l.lists c.args.to)) (list_of l.lists h)) c.unlink.ensures.lists)
