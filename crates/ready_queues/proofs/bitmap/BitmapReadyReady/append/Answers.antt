use Rattle.std.proofs.Common.{◌∙◌, sym, ap, subst, arith, false, ◌∷◌, ◌++◌, [], ◌<◌, length, set}
use Rattle.thread_base.specs.Maps.{put, numbered}
use Rattle.thread_base.specs.Orders.{IsOrder}
use Rattle.thread_base.proofs.MapLemmas.{numbered_set}
use Rattle.ready_queues.specs.Queue.{level_of}
use Rattle.ready_queues.specs.Ranks.{IsRanked}
use Rattle.ready_queues.proofs.ReadyLemmas.{out_of_all, all_stand, after_append, is_here, order_is, shown_is}
use Rattle.ready_queues.proofs.bitmap.BitmapReadyReady.append.Goals as goal
use Rattle.ready_queues.proofs.bitmap.BitmapReadyReady.append.Goals.{After-push}

pub push-requires : goal.push-requires
push-requires c = out_of_all c.self.invariant.are c.args.t (is_here c.self.invariant.are c.self.view_is c.args.t false c.requires)

ranked : (c : After-push) → IsRanked (c.self.invariant.order ++ c.args.t ∷ []) (set c.self.inside.levels c.index.result c.args.p) c.give.new.self.given c.give.new.self.next c.push.new.self
ranked c =
    let are = c.self.invariant.are in
    let out = is_here are c.self.view_is c.args.t false c.requires in
    let low : c.index.result < length c.self.inside.levels = omega (arith, c.index.ensures.range) in
    after_append are _ _ _ _ c.args.t c.args.p (omega (arith, c.index.ensures.value)) (omega (arith, c.index.ensures.value, c.index.ensures.range)) out
    (numbered_set 0 c.self.inside.levels c.index.result c.args.t c.args.p c.index.ensures.value low)
    (c.give.ensures c.self.invariant.order are.stands out (all_stand are) are.rise)
    c.push.ensures

pub invariant_of-self : goal.invariant_of-self
invariant_of-self c = record { order = c.self.invariant.order ++ c.args.t ∷ []; are = ranked c }

pub returns-clause-order : goal.returns-clause-order
returns-clause-order c = shown_is (ranked c) ∙ ap (λ ts. ts ++ c.args.t ∷ []) (order_is c.self.invariant.are c.self.view_is)

pub returns-clause-prio : goal.returns-clause-prio
unfolding level_of
returns-clause-prio c =
    let low : c.index.result < length c.self.inside.levels = omega (arith, c.index.ensures.range) in
    numbered_set 0 c.self.inside.levels c.index.result c.args.t c.args.p c.index.ensures.value low
    ∙ ap (λ q. put (numbered 0 q.levels) c.args.t c.args.p) c.self.view_is

pub returns-clause-distinct : goal.returns-clause-distinct
returns-clause-distinct c = subst IsOrder (sym (shown_is (ranked c))) (ranked c).stands
