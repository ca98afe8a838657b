use Rattle.std.proofs.Common.{◌∙◌, ◌&&◌, ap, find}
use Rattle.thread_base.specs.Deliveries.{signals}
use Rattle.thread_base.specs.Numbers.{has_signal}
use Rattle.thread_signals.specs.Counts.{is_pending}
use Rattle.thread_signals.specs.SignalState.{Table, state_of, counts_of}
use Rattle.thread_signals.proofs.SoundLemmas.{both_scope, both_found}
use Rattle.thread_signals.proofs.Signals.lowest_pending.Goals as goal

pub lowest-requires : goal.lowest-requires
lowest-requires c = both_scope _ c.self.inside.pending _ c.self.invariant c.number.result c.word.result

pub returns : goal.returns
unfolding state_of
returns c =
    c.lowest.ensures
    ∙ both_found _ c.self.inside.pending _ c.self.invariant c.number.result c.args.t c.word.result c.args.set c.number.ensures.value c.word.ensures
    ∙ ap (λ (v : Table). find (λ sig. is_pending (counts_of v.counts) c.args.t sig && has_signal c.args.set sig) signals) c.self.view_is
