use Rattle.std.proofs.Common.{◌≡◌, true, length, IfSome}
use Rattle.thread_base.specs.Maps.{numbered}
use Rattle.thread_base.specs.Orders.{is_in}
use Rattle.thread_base.specs.Priority.{first_greatest}
use Rattle.link_arena.specs.Waiting.{queue_of}
use Rattle.link_arena.proofs.ChoiceLemmas.{best_over}
use Rattle.link_arena.proofs.ListLemmas.{from_node}
use Rattle.link_arena.proofs.waits.WaitQueues.best.Given as goal

abbrev pub invariant-loop-at : goal.invariant-loop-at
invariant-loop-at l = record {
  within : IfSome l.at (λ t. is_in t (queue_of l.self-inside.links.lists l.fn.n) ≡ true);
  over : best_over (numbered 0 l.levels) l.best (from_node l.at (queue_of l.self-inside.links.lists l.fn.n)) ≡ first_greatest (numbered 0 l.levels) (queue_of l.self-inside.links.lists l.fn.n);
}

abbrev pub decreases-loop-at : goal.decreases-loop-at
decreases-loop-at l = length (from_node l.at (queue_of l.self-inside.links.lists l.fn.n))
