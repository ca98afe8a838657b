use Rattle.std.proofs.Common.{◌∙◌, ap}
use Rattle.thread_base.specs.Orders.{is_nil}
use Rattle.link_arena.specs.Chains.{list_of}
use Rattle.link_arena.specs.Waiting.{queue_of}
use Rattle.link_arena.proofs.WaitingLemmas.{nil_first}
use Rattle.link_arena.proofs.waits.WaitQueues.is_empty.Goals as goal

pub returns : goal.returns
unfolding queue_of
returns c =
    nil_first (list_of c.self.inside.links.lists c.args.n) c.first.result c.is_none.result c.first.ensures.first c.is_none.ensures
    ∙ ap (λ lists. is_nil (queue_of lists c.args.n)) c.self.view_is
