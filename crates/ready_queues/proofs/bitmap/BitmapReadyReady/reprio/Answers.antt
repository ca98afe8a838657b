use Rattle.std.proofs.Common.{◌∙◌, sym, ap, arith, true, ◌<◌, length, set}
use Rattle.thread_base.specs.Maps.{put, numbered}
use Rattle.thread_base.specs.Orders.{is_in}
use Rattle.thread_base.proofs.MapLemmas.{numbered_get, numbered_set}
use Rattle.link_arena.specs.Chains.{list_of}
use Rattle.ready_queues.specs.Queue.{level_of}
use Rattle.ready_queues.specs.Ranks.{IsRanked}
use Rattle.ready_queues.proofs.ReadyLemmas.{stands_at, free_then, later_place, after_insert, after_last, is_here, order_is, shown_is}
use Rattle.ready_queues.proofs.bitmap.BitmapReadyReady.reprio.Goals as goal
use Rattle.ready_queues.proofs.bitmap.BitmapReadyReady.reprio.Goals.{After-insert, After-push}

pub remove-requires : goal.remove-requires
remove-requires c =
    let low : c.index.result < length c.self.inside.levels = omega (arith, c.index.ensures.range) in
    let level = numbered_get 0 c.index-self-index.result c.self.inside.levels c.index.result c.args.t c.index.ensures.value low in
    ap (λ h. is_in c.args.t (list_of c.self.inside.lists h)) level
    ∙ stands_at c.self.invariant.are c.args.t (is_here c.self.invariant.are c.self.view_is c.args.t true c.requires)

pub insert-requires-clause-range : goal.insert-requires-clause-range
insert-requires-clause-range c = (later_place c.self.invariant.are c.remove.new.self c.args.t c.args.p c.in-Some.at c.remove.ensures (sym c.in-Some.is ∙ c.later.ensures)).0

pub insert-requires-clause-free : goal.insert-requires-clause-free
insert-requires-clause-free c = free_then c.self.inside.lists c.remove.new.self c.args.t c.remove.ensures

pub insert-requires-clause-placed : goal.insert-requires-clause-placed
insert-requires-clause-placed c = (later_place c.self.invariant.are c.remove.new.self c.args.t c.args.p c.in-Some.at c.remove.ensures (sym c.in-Some.is ∙ c.later.ensures)).1

inserted : (c : After-insert) → IsRanked c.self.invariant.order (set c.self.inside.levels c.index-2.result c.args.p) c.self.inside.numbers.given c.self.inside.numbers.next c.insert.new.self
inserted c =
    let low : c.index-2.result < length c.self.inside.levels = omega (arith, c.index-2.ensures.range) in
    after_insert c.self.invariant.are (set c.self.inside.levels c.index-2.result c.args.p) c.remove.new.self c.args.t c.args.p
    (is_here c.self.invariant.are c.self.view_is c.args.t true c.requires)
    (numbered_set 0 c.self.inside.levels c.index-2.result c.args.t c.args.p c.index-2.ensures.value low)
    c.remove.ensures c.insert.new.self c.in-Some.at (sym c.in-Some.is ∙ c.later.ensures) c.insert.ensures

pub invariant_of-self : goal.invariant_of-self
invariant_of-self c = record { order = c.self.invariant.order; are = inserted c }

pub push-requires : goal.push-requires
push-requires c = free_then c.self.inside.lists c.remove.new.self c.args.t c.remove.ensures

pushed : (c : After-push) → IsRanked c.self.invariant.order (set c.self.inside.levels c.index-2.result c.args.p) c.self.inside.numbers.given c.self.inside.numbers.next c.push.new.self
pushed c =
    let low : c.index-2.result < length c.self.inside.levels = omega (arith, c.index-2.ensures.range) in
    after_last c.self.invariant.are (set c.self.inside.levels c.index-2.result c.args.p) c.remove.new.self c.args.t c.args.p
    (is_here c.self.invariant.are c.self.view_is c.args.t true c.requires)
    (numbered_set 0 c.self.inside.levels c.index-2.result c.args.t c.args.p c.index-2.ensures.value low)
    c.remove.ensures c.push.new.self (sym c.in-None.is ∙ c.later.ensures) c.push.ensures

pub invariant_of-self-in-None : goal.invariant_of-self-in-None
invariant_of-self-in-None c = record { order = c.self.invariant.order; are = pushed c }

pub returns-in-Some-clause-order : goal.returns-in-Some-clause-order
returns-in-Some-clause-order c = shown_is (inserted c) ∙ order_is c.self.invariant.are c.self.view_is

pub returns-in-Some-clause-prio : goal.returns-in-Some-clause-prio
unfolding level_of
returns-in-Some-clause-prio c =
    let low : c.index-2.result < length c.self.inside.levels = omega (arith, c.index-2.ensures.range) in
    numbered_set 0 c.self.inside.levels c.index-2.result c.args.t c.args.p c.index-2.ensures.value low
    ∙ ap (λ q. put (numbered 0 q.levels) c.args.t c.args.p) c.self.view_is

pub returns-in-None-clause-order : goal.returns-in-None-clause-order
returns-in-None-clause-order c = shown_is (pushed c) ∙ order_is c.self.invariant.are c.self.view_is

pub returns-in-None-clause-prio : goal.returns-in-None-clause-prio
unfolding level_of
returns-in-None-clause-prio c =
    let low : c.index-2.result < length c.self.inside.levels = omega (arith, c.index-2.ensures.range) in
    numbered_set 0 c.self.inside.levels c.index-2.result c.args.t c.args.p c.index-2.ensures.value low
    ∙ ap (λ q. put (numbered 0 q.levels) c.args.t c.args.p) c.self.view_is
