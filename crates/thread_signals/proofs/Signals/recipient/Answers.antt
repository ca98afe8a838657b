use Rattle.std.proofs.Common.{◌≡◌, ℕ, Option, subst, sym, rules, true, IfSome, IsNone}
use Rattle.thread_base.specs.Maps.{numbered}
use Rattle.thread_base.specs.Deliveries.{takes}
use Rattle.thread_signals.specs.SignalState.{state_of, free_in, recipient_in}
use Rattle.thread_signals.proofs.DeliveryLemmas.{recipient_takes, recipient_none}
use Rattle.thread_signals.proofs.Signals.recipient.Goals as goal

pub returns-clause-taker : goal.returns-clause-taker
returns-clause-taker c =
    let state = state_of c.args.self.now in
    let first : c.or_else.result ≡ recipient_in state (numbered 0 c.args.eff.now) c.args.s = search rules in
    subst (λ (o : Option ℕ). IfSome o (λ t. takes state.waits (free_in state) t c.args.s ≡ true)) (sym first)
    (recipient_takes state.waits (free_in state) (numbered 0 c.args.eff.now) c.args.s)

pub returns-clause-none : goal.returns-clause-none
returns-clause-none c =
    let state = state_of c.args.self.now in
    let first : c.or_else.result ≡ recipient_in state (numbered 0 c.args.eff.now) c.args.s = search rules in
    let none = recipient_none state.waits (free_in state) (numbered 0 c.args.eff.now) c.args.s in
    (λ h. none.0 (subst IsNone first h), λ h. subst IsNone (sym first) (none.1 h))
