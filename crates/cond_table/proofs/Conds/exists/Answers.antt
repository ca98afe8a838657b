use Rattle.std.proofs.Common.{◌∙◌, ap, sym, arith, is_some}
use Rattle.std.proofs.lemmas.Bool.{le-ltb}
use Rattle.cond_table.specs.ConditionMap.{conditions}
use Rattle.cond_table.proofs.ConditionLemmas.{exists_read, past_mutexes}
use Rattle.cond_table.proofs.Conds.exists.Goals as goal

pub returns-then-c-lt256-clause-member : goal.returns-then-c-lt256-clause-member
returns-then-c-lt256-clause-member c =
    c.is_some.ensures
    ∙ exists_read c.self.inside.mutexes.items c.self.inside.waiters c.args.c c.index.result.now c.index.ensures (omega (arith, c.self.invariant.count))
    ∙ ap (λ t. is_some (conditions t c.args.c)) c.self.view_is

pub returns-else-c-lt256-clause-member : goal.returns-else-c-lt256-clause-member
returns-else-c-lt256-clause-member c =
    le-ltb c.args.c 256 (omega arith)
    ∙ sym (ap (λ t. is_some (conditions t c.args.c)) (sym c.self.view_is) ∙ ap is_some (past_mutexes c.self.inside.mutexes.items c.self.inside.waiters c.args.c (omega (arith, c.self.invariant.count))))
