use Rattle.std.proofs.Common.{◌≡◌, ◌-◌, ◌&&◌, ltb, is_some, length, filter, take}
use Rattle.thread_base.specs.Priority.{tids}
use Rattle.link_arena.specs.Chains.{head_in}
use Rattle.ready_queues.specs.Ranks.{number_of}
use Rattle.ready_queues.proofs.numbers.rank.Given as goal

abbrev pub invariant-loop-u : goal.invariant-loop-u
invariant-loop-u l = l.lower ≡ length (filter (λ u. is_some (head_in l.lists u) && ltb (number_of l.given u) (number_of l.given l.t)) (take (l.u - 1) tids))
