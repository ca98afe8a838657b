use Rattle.std.proofs.Common.{◌≡◌, drop}
use Rattle.thread_base.specs.Maps.{put}
use Rattle.link_arena.specs.Stacking.{stack_at}
use Rattle.link_arena.proofs.stacks.Stacks.clear.Given as goal

abbrev pub invariant-loop-node : goal.invariant-loop-node
invariant-loop-node l = stack_at l.self ≡ put (stack_at l.fn.self) l.fn.t (drop l.node (stack_at l.fn.self l.fn.t))
