use Rattle.std.proofs.Common.{◌∙◌, refl, sym}
use Rattle.cond_table.specs.ConditionMap.{conditions as condition_map}
use Rattle.kernel_state.specs.View.{view}
use Rattle.kernel_state.proofs.ConditionLemmas.{absent_mutex, absent_cond_waiters}
use Rattle.kernel_state.proofs.tables.Tables.condition_mutex.Goals as goal

pub returns-else-exists-clause-mutex : goal.returns-else-exists-clause-mutex
unfolding view
returns-else-exists-clause-mutex g c = absent_mutex (condition_map c.args.self.now.conditions c.args.c) (sym c.exists.ensures.member ∙ c.if-exists.false)

pub returns-else-exists-clause-empty : goal.returns-else-exists-clause-empty
unfolding view
returns-else-exists-clause-empty g c =
    let none = absent_cond_waiters (condition_map c.args.self.now.conditions c.args.c) (sym c.exists.ensures.member ∙ c.if-exists.false) in
    (λ e. none, λ e. refl)
