use Rattle.std.proofs.Common.{◌≡◌, ◌<◌, ℕ, length}
use Rattle.ready_queues.specs.Ranks.{number_of, rank_of}
use Rattle.ready_queues.proofs.numbers.ranks.Given as goal

abbrev pub invariant-loop-t : goal.invariant-loop-t
invariant-loop-t l = (length l.ranks ≡ 65) × ((t : ℕ) → t < l.t → number_of l.ranks t ≡ rank_of l.given l.lists t)
