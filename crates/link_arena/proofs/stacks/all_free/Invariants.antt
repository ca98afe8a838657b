use Rattle.link_arena.proofs.StackLemmas.{Fills}
use Rattle.link_arena.proofs.stacks.all_free.Given as goal

abbrev pub invariant-loop-node : goal.invariant-loop-node
invariant-loop-node l = Fills l.links l.node
