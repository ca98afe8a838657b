use Rattle.std.proofs.Common.{◌∙◌, ap, subst, arith, ℕ, List}
use Rattle.link_arena.specs.Waiting.{AreApart}
use Rattle.cond_table.proofs.ConditionLemmas.{within_shown, seen}
use Rattle.cond_table.proofs.Conds.waiters.Goals as goal

pub threads-requires : goal.threads-requires
threads-requires c =
    let place = (within_shown c.self.inside.mutexes.items c.self.inside.waiters c.args.self.now c.self.view_is c.args.c c.requires) in
    omega (arith, c.self.invariant.count, place)

pub returns-clause-queue : goal.returns-clause-queue
returns-clause-queue c = c.threads.ensures.queue ∙ ap (λ (f : ℕ → List ℕ). f c.args.c) (seen c.self.inside.mutexes.items c.self.inside.waiters c.self.invariant c.args.self.now c.self.view_is)

pub returns-clause-apart : goal.returns-clause-apart
returns-clause-apart c = subst AreApart (seen c.self.inside.mutexes.items c.self.inside.waiters c.self.invariant c.args.self.now c.self.view_is) c.threads.ensures.apart
