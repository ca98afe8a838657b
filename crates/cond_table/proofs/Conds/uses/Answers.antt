use Rattle.std.proofs.Common.{◌∙◌, ap, sym, arith}
use Rattle.cond_table.specs.ConditionMap.{conditions}
use Rattle.cond_table.proofs.ConditionLemmas.{uses_found, past_mutexes}
use Rattle.cond_table.proofs.Conds.uses.Goals as goal

pub returns : goal.returns
returns c =
    uses_found (conditions c.args.self.now) c.args.m
    (λ k high. ap (λ t. conditions t k) (sym c.self.view_is) ∙ past_mutexes c.self.inside.mutexes.items c.self.inside.waiters k (omega (arith, c.self.invariant.count)))
    c.some_uses.result c.some_uses.ensures
