use Rattle.std.proofs.Common.{◌∙◌, ap}
use Rattle.thread_signals.specs.Counts.{total}
use Rattle.thread_signals.specs.SignalState.{SignalState}
use Rattle.thread_signals.proofs.SoundLemmas.{first_sound, first_shown, first_total}
use Rattle.thread_signals.proofs.Signals.new.Goals as goal

pub invariant_of-result : goal.invariant_of-result
invariant_of-result c = first_sound c.of.result

pub returns-clause-state : goal.returns-clause-state
returns-clause-state c = first_shown c.of.result c.of.ensures.set

pub returns-clause-sum : goal.returns-clause-sum
returns-clause-sum c = ap (λ (state : SignalState). total state.counts) (first_shown c.of.result c.of.ensures.set) ∙ first_total
