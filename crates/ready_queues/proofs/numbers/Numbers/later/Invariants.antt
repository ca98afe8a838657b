use Rattle.std.proofs.Common.{◌≡◌, ◌<◌, ltb, true, find, length, IfSome}
use Rattle.thread_base.specs.Orders.{is_in}
use Rattle.link_arena.specs.Chains.{list_of}
use Rattle.link_arena.proofs.ListLemmas.{from_node}
use Rattle.ready_queues.specs.Ranks.{number_of}
use Rattle.ready_queues.proofs.numbers.Numbers.later.Given as goal

abbrev pub invariant-loop-at : goal.invariant-loop-at
invariant-loop-at l = record {
  within : IfSome l.at (λ u. (u < 65) × (is_in u (list_of l.lists l.fn.p) ≡ true));
  same : find (λ u. ltb l.number (number_of l.self.given u)) (list_of l.lists l.fn.p) ≡ find (λ u. ltb l.number (number_of l.self.given u)) (from_node l.at (list_of l.lists l.fn.p));
}

abbrev pub decreases-loop-at : goal.decreases-loop-at
decreases-loop-at l = length (from_node l.at (list_of l.lists l.fn.p))
