use Rattle.std.proofs.Common.{sym, subst}
use Rattle.kernel_state.specs.View.{view, AreCurrent}
use Rattle.kernel_state.specs.Executing.{HasExecuted}
use Rattle.kernel_state.proofs.ExecutingLemmas.{executed, executed_current}
use Rattle.kernel_state.proofs.tables.Tables.execute.Goals as goal

pub returns-clause-executed : goal.returns-clause-executed
returns-clause-executed g c =
    let k = c.args.self.now in
    let order = g.R.Ready.order in
    subst (λ r. HasExecuted (view order k) k.records.placed c.execute.result (view order (record k { records = r; memory = c.execute.new.memory }))) (sym c.execute.ensures.others)
    (executed order k c.execute.new.self.regs c.execute.new.memory c.requires c.execute.result c.execute.ensures.effect)

pub returns-clause-current : goal.returns-clause-current
returns-clause-current g c =
    let k = c.args.self.now in
    let order = g.R.Ready.order in
    λ current.
    subst (λ r. AreCurrent (g.R.Ready.prio k.ready) (view order (record k { records = r; memory = c.execute.new.memory }))) (sym c.execute.ensures.others)
    (executed_current order k c.execute.new.self.regs c.execute.new.memory (g.R.Ready.prio k.ready) current)
