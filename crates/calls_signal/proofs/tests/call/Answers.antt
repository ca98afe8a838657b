use Rattle.std.proofs.Common.{◌∙◌, ap, arith, ℕ, ◌+◌, ◌≤◌}
use Rattle.posix_model.specs.State.{State}
use Rattle.posix_model.specs.Calls.{call}
use Rattle.posix_model.specs.Changes.{Outcome}
use Rattle.posix_model.specs.Weights.{pending_in_all}
use Rattle.posix_model.specs.declared.Arguments.{Arguments}
use Rattle.posix_model.proofs.PendingCounts.{all_of}
use Rattle.posix_model.proofs.PendingCalls.{adds_call}
use Rattle.kernel_state.specs.View.{view}
use Rattle.kernel_state.specs.Begun.{arguments_of}
use Rattle.calls_signal.proofs.tests.call.Goals as goal

-- one signal more pends after a call at most
one_more : (s : State) (t number : ℕ) (a : Arguments) → pending_in_all (call s t number a).state ≤ pending_in_all s + 1
one_more s t number a =
    let before = all_of s in
    let after = all_of (call s t number a).state in
    let adds = (adds_call s t number a).sum in
    omega (arith, before, after, adds)

-- no tick comes with a call
no_tick : (s : State) (t number : ℕ) (a : Arguments) → (call s t number a).state.now ≤ s.now
no_tick s t number a = let time = (adds_call s t number a).time in omega (arith, time)

pub returns-in-Signals-clause-time : goal.returns-in-Signals-clause-time
returns-in-Signals-clause-time g c =
    let s = view g.R.Ready.order c.args.k.now.tables in
    let after = ap (λ (r : State). r.now) (c.finish.ensures.state ∙ ap (λ (o : Outcome). o.state) c.begin.ensures.owed) in
    let none = no_tick s c.in_ok-t.t c.in_ok-number.number (arguments_of c.args.args) in
    omega (arith, after, none)

pub returns-in-Signals-clause-more : goal.returns-in-Signals-clause-more
returns-in-Signals-clause-more g c =
    let s = view g.R.Ready.order c.args.k.now.tables in
    let after = ap pending_in_all (c.finish.ensures.state ∙ ap (λ (o : Outcome). o.state) c.begin.ensures.owed) in
    let more = one_more s c.in_ok-t.t c.in_ok-number.number (arguments_of c.args.args) in
    omega (arith, after, more)
