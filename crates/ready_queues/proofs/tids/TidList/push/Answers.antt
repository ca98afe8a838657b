use Rattle.std.proofs.Common.{◌≡◌, ◌∙◌, ap, sym, subst, arith, false, ◌++◌, ◌∷◌, [], cond, is_ok}
use Rattle.thread_base.specs.Orders.{is_in, IsOrder}
use Rattle.thread_base.proofs.OrderLemmas.{room, IsOrder-push}
use Rattle.ready_queues.proofs.tids.TidList.push.Goals as goal
use Rattle.ready_queues.proofs.tids.TidList.push.Goals.{After-unwrap}

pub unwrap-requires : goal.unwrap-requires
unwrap-requires c =
    let absent = subst (λ ts. is_in c.args.t ts ≡ false) (sym c.self.view_is) c.requires in
    let range = c.number-in_range.ensures.range in
    let fits = room c.self.inside.threads.items c.args.t c.self.invariant.0 range.0 range.1 absent in
    c.push.ensures.succeeds (omega (arith, fits, c.self.invariant.1))

ordered : (c : After-unwrap) → IsOrder c.push.new.self.items
ordered c =
    let items = c.self.inside.threads.items in
    let absent = subst (λ ts. is_in c.args.t ts ≡ false) (sym c.self.view_is) c.requires in
    let range = c.number-in_range.ensures.range in
    let pushed = c.push.ensures.items ∙ ap (λ r. cond (is_ok r) (items ++ c.args.t ∷ []) items) c.unwrap.ensures in
    subst IsOrder (sym pushed) (IsOrder-push items c.args.t c.self.invariant.0 range.0 range.1 absent)

pub invariant_of-self : goal.invariant_of-self
invariant_of-self c = (ordered c, omega (arith, c.self.invariant.1, c.push.ensures.capacity))

pub returns-clause-distinct : goal.returns-clause-distinct
returns-clause-distinct c = ordered c
