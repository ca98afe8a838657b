use Rattle.std.proofs.Common.{◌∙◌, ap}
use Rattle.thread_base.specs.Orders.{is_in}
use Rattle.thread_base.proofs.OrderLemmas.{not_in-without}
use Rattle.ready_queues.proofs.plain.PlainReadyReady.to_tail.Goals as goal

pub push-requires : goal.push-requires
push-requires c = ap (is_in c.args.t) c.remove.ensures.items ∙ not_in-without c.args.t c.self.inside.list
