use Rattle.std.proofs.Common.{◌∙◌, ◌||◌}
use Rattle.thread_signals.proofs.WordLemmas.{has_or}
use Rattle.thread_signals.proofs.Signals.taken_by.Goals as goal

pub returns : goal.returns
returns c = λ sig low.
    has_or c.awaited_by.result c.unblocked_by.result sig
    ∙ (λ i. c.awaited_by.ensures sig i || c.unblocked_by.ensures sig low i)
