use Rattle.std.proofs.Common.{◌∙◌, ap}
use Rattle.thread_base.specs.Orders.{is_in}
use Rattle.link_arena.specs.Chains.{list_of, after_in}
use Rattle.ready_queues.proofs.LevelLemmas.{next_is, next_in_range}
use Rattle.ready_queues.proofs.levels.Levels.next.Goals as goal

pub returns-clause-next : goal.returns-clause-next
returns-clause-next c = λ h stands.
    next_is c.self.inside.links c.self.inside.bits c.args.t c.next.result c.self.invariant c.next.ensures.next h
    (ap (λ ls. is_in c.args.t (list_of ls h)) c.self.view_is ∙ stands)
    ∙ ap (λ ls. after_in c.args.t (list_of ls h)) c.self.view_is

pub returns-clause-range : goal.returns-clause-range
returns-clause-range c = next_in_range c.self.inside.links c.self.inside.bits c.args.t c.next.result c.self.invariant c.next.ensures.next
