use Rattle.std.proofs.Common.{◌∙◌, ap, is_some}
use Rattle.thread_base.specs.Orders.{is_in}
use Rattle.link_arena.specs.Chains.{head_in}
use Rattle.ready_queues.proofs.ReadyLemmas.{has_stands, order_is, distinct}
use Rattle.ready_queues.proofs.bitmap.BitmapReadyReady.has.Goals as goal

pub returns-clause-member : goal.returns-clause-member
returns-clause-member c =
    c.has.ensures
    ∙ ap (λ t. is_some (head_in c.self.inside.lists t)) c.number.ensures.value
    ∙ has_stands c.self.invariant.are c.args.t
    ∙ ap (is_in c.args.t) (order_is c.self.invariant.are c.self.view_is)

pub returns-clause-distinct : goal.returns-clause-distinct
returns-clause-distinct c = distinct c.self.invariant.are c.self.view_is
