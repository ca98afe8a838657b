use Rattle.std.proofs.Common.{◌≡◌, subst, true, IfSome, IfNone}
use Rattle.thread_base.specs.Orders.{is_in}
use Rattle.link_arena.specs.Waiting.{queue_of, StandsInNone}
use Rattle.link_arena.proofs.waits.WaitQueues.awaited.Goals as goal

pub returns-clause-one : goal.returns-clause-one
unfolding queue_of
returns-clause-one c =
    subst (λ lists. IfSome c.head_of.result (λ n. is_in c.args.t (queue_of lists n) ≡ true)) c.self.view_is
    (subst (λ t. IfSome c.head_of.result (λ n. is_in t (queue_of c.self.inside.links.lists n) ≡ true)) c.number.ensures.value c.head_of.ensures.list)

pub returns-clause-none : goal.returns-clause-none
unfolding queue_of
returns-clause-none c =
    subst (λ lists. IfNone c.head_of.result (StandsInNone c.args.t (queue_of lists))) c.self.view_is
    (subst (λ t. IfNone c.head_of.result (StandsInNone t (queue_of c.self.inside.links.lists))) c.number.ensures.value c.head_of.ensures.none)
