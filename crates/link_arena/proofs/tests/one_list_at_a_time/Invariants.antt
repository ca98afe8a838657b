use Rattle.std.proofs.Common.{◌≡◌, length}
use Rattle.link_arena.proofs.tests.one_list_at_a_time.Given as goal

abbrev pub invariant-loop-change : goal.invariant-loop-change
invariant-loop-change g l = (l.links.nodes ≡ 8) × (length l.links.lists ≡ 3)

abbrev pub invariant-loop-change-2 : goal.invariant-loop-change-2
invariant-loop-change-2 g l = (l.links.nodes ≡ 8) × (length l.links.lists ≡ 3)
