use Rattle.std.proofs.Common.{◌≡◌, ◌∙◌, ◌&&◌, ◌<◌, ◌^◌, ap, sym, arith, not, true}
use Rattle.thread_base.specs.Numbers.{has_signal}
use Rattle.thread_signals.specs.SignalState.{state_of}
use Rattle.thread_signals.proofs.WordLemmas.{has_not}
use Rattle.thread_signals.proofs.Signals.unblocked_by.Goals as goal

pub returns-then-may_take : goal.returns-then-may_take
returns-then-may_take c = λ sig low.
    let range : c.word.result < 2 ^ 32 = omega arith in
    let is_open : (state_of c.args.self.now).is_open c.args.t ≡ true = sym c.may_take.ensures ∙ c.if-may_take.true in
    has_not c.word.result sig range low
    ∙ ap (λ set. not (has_signal set sig)) (c.word.ensures ∙ c.mask.ensures)
    ∙ sym (ap (λ b. b && not (has_signal ((state_of c.args.self.now).masks c.args.t) sig)) is_open)
