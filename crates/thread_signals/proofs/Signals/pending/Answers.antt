use Rattle.std.proofs.Common.{◌∙◌, ◌&&◌, ap}
use Rattle.thread_base.specs.Numbers.{can_block}
use Rattle.thread_signals.specs.Counts.{is_pending}
use Rattle.thread_signals.specs.SignalState.{Table, state_of, counts_of}
use Rattle.thread_signals.proofs.SoundLemmas.{pending_both}
use Rattle.thread_signals.proofs.Signals.pending.Goals as goal

pub returns : goal.returns
unfolding state_of
returns c = λ sig.
    c.of.ensures.members sig
    ∙ ap (λ b. b && can_block sig)
    (pending_both _ c.self.inside.pending _ c.self.invariant c.number.result c.args.t sig c.number.ensures.value
    ∙ ap (λ (v : Table). is_pending (counts_of v.counts) c.args.t sig) c.self.view_is)
