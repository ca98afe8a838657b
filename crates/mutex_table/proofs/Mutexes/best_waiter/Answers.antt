use Rattle.std.proofs.Common.{◌≡◌, ◌∙◌, ap, subst, arith, true, ℕ, List, [], IsNone, IfSome}
use Rattle.thread_base.specs.Maps.{numbered}
use Rattle.thread_base.specs.Orders.{is_in}
use Rattle.thread_base.specs.Priority.{first_greatest}
use Rattle.mutex_table.proofs.MutexLemmas.{within_shown, seen}
use Rattle.mutex_table.proofs.Mutexes.best_waiter.Goals as goal

pub best-requires : goal.best-requires
best-requires c =
    let place = within_shown c.self.inside.states.items c.self.inside.waiters c.args.self.now c.self.view_is c.args.m c.requires in
    omega (arith, c.self.invariant.count, place)

pub returns-clause-first : goal.returns-clause-first
returns-clause-first c =
    c.best.ensures.first
    ∙ ap (λ (f : ℕ → List ℕ). first_greatest (numbered 0 c.args.eff.now) (f c.args.m)) (seen c.self.inside.states.items c.self.inside.waiters c.self.invariant c.args.self.now c.self.view_is)

pub returns-clause-empty : goal.returns-clause-empty
returns-clause-empty c =
    subst (λ (f : ℕ → List ℕ). (IsNone c.best.result → f c.args.m ≡ []) × (f c.args.m ≡ [] → IsNone c.best.result))
    (seen c.self.inside.states.items c.self.inside.waiters c.self.invariant c.args.self.now c.self.view_is) c.best.ensures.empty

pub returns-clause-member : goal.returns-clause-member
returns-clause-member c =
    subst (λ (f : ℕ → List ℕ). IfSome c.best.result (λ t. is_in t (f c.args.m) ≡ true))
    (seen c.self.inside.states.items c.self.inside.waiters c.self.invariant c.args.self.now c.self.view_is) c.best.ensures.member
