use Rattle.std.proofs.Common.{◌≡◌, ◌∙◌, ap, sym, subst, rules, arith}
use Rattle.std.proofs.lemmas.Fn.{filter_same}
use Rattle.thread_base.specs.Orders.{without, IsOrder}
use Rattle.thread_base.proofs.OrderLemmas.{IsOrder-filter}
use Rattle.ready_queues.proofs.tids.TidList.remove.Goals as goal
use Rattle.ready_queues.proofs.tids.TidList.remove.Goals.{After-retain}

kept : (c : After-retain) → c.retain.new.self.items ≡ without c.args.t c.self.inside.threads.items
kept c = filter_same _ _ _ (λ x b f' called. search rules) _ _ c.retain.ensures.filtered

ordered : (c : After-retain) → IsOrder c.retain.new.self.items
ordered c = subst IsOrder (sym (kept c)) (IsOrder-filter _ c.self.inside.threads.items c.self.invariant.0)

pub invariant_of-self : goal.invariant_of-self
invariant_of-self c = (ordered c, omega (arith, c.self.invariant.1, c.retain.ensures.capacity))

pub returns-clause-items : goal.returns-clause-items
returns-clause-items c = kept c ∙ ap (without c.args.t) c.self.view_is

pub returns-clause-distinct : goal.returns-clause-distinct
returns-clause-distinct c = ordered c
