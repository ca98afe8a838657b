use Rattle.std.proofs.Common.{◌∙◌, ap, sym}
use Rattle.mutex_table.specs.MutexMap.{mutexes as mutex_map}
use Rattle.thread_base.specs.Objects.{waiters_in}
use Rattle.kernel_state.specs.View.{view, mutex_by}
use Rattle.kernel_state.proofs.MutexLemmas.{mutex_by_parts}
use Rattle.kernel_state.proofs.tables.Tables.mutex.Goals as goal

pub returns-clause-mutex : goal.returns-clause-mutex
unfolding view
returns-clause-mutex g c =
    let is = mutex_map c.args.self.now.mutexes c.args.m in
    mutex_by_parts is ∙ ap (λ o. mutex_by o (waiters_in is)) (sym c.lookup.ensures.state)
