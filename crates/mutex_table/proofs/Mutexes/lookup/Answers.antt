use Rattle.std.proofs.Common.{◌∙◌, ap, arith}
use Rattle.mutex_table.specs.MutexMap.{mutexes, state_of}
use Rattle.mutex_table.proofs.MutexLemmas.{state_read, state_past}
use Rattle.mutex_table.proofs.Mutexes.lookup.Goals as goal

pub returns-then-m-lt256-clause-state : goal.returns-then-m-lt256-clause-state
returns-then-m-lt256-clause-state c =
    state_read c.self.inside.states.items c.self.inside.waiters c.args.m c.index.result.now c.index.ensures (omega (arith, c.self.invariant.count))
    ∙ ap (λ t. state_of (mutexes t c.args.m)) c.self.view_is

pub returns-else-m-lt256-clause-state : goal.returns-else-m-lt256-clause-state
returns-else-m-lt256-clause-state c =
    state_past c.self.inside.states.items c.self.inside.waiters c.args.m (omega (arith, c.self.invariant.count)) ∙ ap (λ t. state_of (mutexes t c.args.m)) c.self.view_is
