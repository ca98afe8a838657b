use Rattle.std.proofs.Common.{◌≡◌, ◌∙◌, ap, subst, sym, ℕ, ◌≤◌, ◌-◌, false, find, IfNone}
use Rattle.std.specs.List.{range_with_len}
use Rattle.thread_base.specs.Objects.{is_owned_by}
use Rattle.mutex_table.specs.MutexMap.{mutexes}
use Rattle.mutex_table.proofs.MutexLemmas.{none_owned}
use Rattle.mutex_table.proofs.Mutexes.next_owned.Goals as goal

pub returns-clause-none : goal.returns-clause-none
returns-clause-none c =
    subst (λ t. IfNone c.least_owned.result ((m : ℕ) → c.args.from ≤ m → is_owned_by c.args.t (mutexes t m) ≡ false)) c.self.view_is
    (none_owned c.self.inside.states.items c.self.inside.waiters c.args.t c.args.from c.least_owned.result c.self.invariant.count
    (c.least_owned.ensures ∙ ap (λ t. find (λ m. is_owned_by c.args.t (mutexes t m)) (range_with_len c.args.from (256 - c.args.from))) (sym c.self.view_is)))
