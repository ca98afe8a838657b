use Rattle.std.proofs.Common.{◌≡◌, subst, true, ℕ, List, IfSome, IfNone}
use Rattle.thread_base.specs.Orders.{is_in}
use Rattle.link_arena.specs.Waiting.{StandsInNone}
use Rattle.cond_table.proofs.ConditionLemmas.{seen}
use Rattle.cond_table.proofs.Conds.awaited.Goals as goal

pub returns-clause-one : goal.returns-clause-one
returns-clause-one c =
    subst (λ (f : ℕ → List ℕ). IfSome c.awaited.result (λ n. is_in c.args.t (f n) ≡ true)) (seen c.self.inside.mutexes.items c.self.inside.waiters c.self.invariant c.args.self.now c.self.view_is) c.awaited.ensures.one

pub returns-clause-none : goal.returns-clause-none
returns-clause-none c =
    subst (λ (f : ℕ → List ℕ). IfNone c.awaited.result (StandsInNone c.args.t f)) (seen c.self.inside.mutexes.items c.self.inside.waiters c.self.invariant c.args.self.now c.self.view_is) c.awaited.ensures.none
