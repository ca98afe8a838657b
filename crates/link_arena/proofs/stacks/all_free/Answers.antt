use Rattle.std.proofs.Common.{sym, subst, arith, ◌+◌}
use Rattle.link_arena.specs.Chains.{AreApart}
use Rattle.link_arena.proofs.StackLemmas.{Fills, fills_first, fills_free, fills_more}
use Rattle.link_arena.proofs.stacks.all_free.Goals as goal

pub loop-node-init : goal.loop-node-init
loop-node-init c = fills_first c.in_ok-links.links c.in_ok-links.ensures

pub push_back-requires-clause-range : goal.push_back-requires-clause-range
push_back-requires-clause-range c = (omega (arith, c.loop-node.invariant.count), omega (arith, c.loop-node.invariant.nodes))

pub push_back-requires-clause-free : goal.push_back-requires-clause-free
push_back-requires-clause-free c = fills_free c.loop-node.links c.loop-node.node c.loop-node.invariant

pub loop-node-preserved : goal.loop-node-preserved
loop-node-preserved c =
    subst (λ l. Fills l (c.loop-node.node + 1)) (sym c.push_back.ensures.lists)
    (fills_more c.loop-node.links c.loop-node.node c.loop-node.invariant (omega arith) (subst AreApart c.push_back.ensures.lists c.push_back.ensures.apart))
