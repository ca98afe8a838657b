use Rattle.std.proofs.Common.{subst, refl, arith}
use Rattle.ready_queues.specs.Ranks.{IsTop}
use Rattle.ready_queues.proofs.LevelLemmas.{top_is}
use Rattle.ready_queues.proofs.levels.Levels.top.Goals as goal

pub returns : goal.returns
returns c =
    subst (λ ls. IsTop ls c.first.result) c.self.view_is
    (top_is c.self.inside.links c.self.inside.bits _ c.first.result c.self.invariant (omega arith) (omega arith) refl c.first.ensures.first)
