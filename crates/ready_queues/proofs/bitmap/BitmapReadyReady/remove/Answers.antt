use Rattle.std.proofs.Common.{◌∙◌, sym, ap, subst, arith, true, ◌<◌, length}
use Rattle.thread_base.specs.Orders.{is_in, without, IsOrder}
use Rattle.thread_base.proofs.MapLemmas.{numbered_get}
use Rattle.link_arena.specs.Chains.{list_of}
use Rattle.ready_queues.proofs.ReadyLemmas.{stands_at, after_remove, is_here, order_is, shown_is}
use Rattle.ready_queues.proofs.bitmap.BitmapReadyReady.remove.Goals as goal

pub remove-requires : goal.remove-requires
remove-requires c =
    let low : c.index.result < length c.self.inside.levels = omega (arith, c.index.ensures.range) in
    let level = numbered_get 0 c.index-self-index.result c.self.inside.levels c.index.result c.args.t c.index.ensures.value low in
    ap (λ h. is_in c.args.t (list_of c.self.inside.lists h)) level
    ∙ stands_at c.self.invariant.are c.args.t (is_here c.self.invariant.are c.self.view_is c.args.t true c.requires)

pub invariant_of-self : goal.invariant_of-self
invariant_of-self c = record {
  order = without c.args.t c.self.invariant.order;
  are = after_remove c.self.invariant.are c.remove.new.self c.args.t c.remove.ensures;
}

pub returns-clause-order : goal.returns-clause-order
returns-clause-order c =
    shown_is (after_remove c.self.invariant.are c.remove.new.self c.args.t c.remove.ensures)
    ∙ ap (without c.args.t) (order_is c.self.invariant.are c.self.view_is)

pub returns-clause-distinct : goal.returns-clause-distinct
returns-clause-distinct c =
    let are = after_remove c.self.invariant.are c.remove.new.self c.args.t c.remove.ensures in
    subst IsOrder (sym (shown_is are)) are.stands
