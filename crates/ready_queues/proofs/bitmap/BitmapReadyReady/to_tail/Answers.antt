use Rattle.std.proofs.Common.{◌∙◌, ap, arith, ◌<◌, length}
use Rattle.thread_base.specs.Maps.{put, numbered}
use Rattle.thread_base.specs.Orders.{is_in}
use Rattle.thread_base.proofs.MapLemmas.{numbered_get, put_got}
use Rattle.thread_base.proofs.OrderLemmas.{not_in-without}
use Rattle.ready_queues.specs.Queue.{level_of}
use Rattle.ready_queues.proofs.bitmap.BitmapReadyReady.to_tail.Goals as goal

pub append-requires : goal.append-requires
append-requires c = ap (is_in c.args.t) c.remove.ensures.order ∙ not_in-without c.args.t c.args.self.now.order

pub returns-clause-prio : goal.returns-clause-prio
unfolding level_of
returns-clause-prio c =
    let low : c.index.result < length c.self.inside.levels = omega (arith, c.index.ensures.range) in
    let level = numbered_get 0 c.index-self-index.result c.self.inside.levels c.index.result c.args.t c.index.ensures.value low in
    c.append.ensures.prio
    ∙ (λ i. put (c.remove.ensures.prio i) c.args.t ((level ∙ ap (λ q. numbered 0 q.levels c.args.t) c.self.view_is) i))
    ∙ put_got (level_of c.args.self.now) c.args.t
