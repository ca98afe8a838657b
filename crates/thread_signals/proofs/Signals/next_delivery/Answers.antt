use Rattle.std.proofs.Common.{◌≡◌, ℕ, Bool, Option, subst, sym, rules, true, IfSome, IsNone}
use Rattle.std.specs.Prelude.{nat_lt}
use Rattle.thread_base.specs.Maps.{numbered}
use Rattle.thread_base.specs.Numbers.{IsInScope}
use Rattle.thread_base.specs.Deliveries.{IsDue}
use Rattle.thread_signals.specs.SignalState.{Table, state_of, free_in, next_in, counts_of}
use Rattle.thread_signals.proofs.DeliveryLemmas.{next_due, next_none}
use Rattle.thread_signals.proofs.Signals.next_delivery.Goals as goal

pub returns-clause-due : goal.returns-clause-due
returns-clause-due c =
    let state = state_of c.args.self.now in
    let next : c.or_else.result ≡ next_in state (numbered 0 c.args.eff.now) = search rules in
    subst (λ (o : Option (ℕ × ℕ × Bool)). IfSome o (IsDue state.waits (free_in state) state.counts)) (sym next)
    (next_due state.waits (free_in state) (numbered 0 c.args.eff.now) state.counts)

pub returns-clause-none : goal.returns-clause-none
unfolding state_of
returns-clause-none c =
    let state = state_of c.args.self.now in
    let next : c.or_else.result ≡ next_in state (numbered 0 c.args.eff.now) = search rules in
    let scope = subst (λ (v : Table). (t sig : ℕ) → nat_lt 0 (counts_of v.counts t sig) ≡ true → IsInScope sig) c.self.view_is c.self.invariant.scope in
    let none = next_none state.waits (free_in state) (numbered 0 c.args.eff.now) state.counts scope in
    (λ h. none.0 (subst IsNone next h), λ h. subst IsNone (sym next) (none.1 h))
