use Rattle.std.proofs.Common.{◌∙◌, ◌&&◌, ap, find}
use Rattle.std.specs.Prelude.{nat_lt}
use Rattle.thread_base.specs.Deliveries.{signals, takes}
use Rattle.thread_signals.specs.SignalState.{Table, state_of, counts_of, free_in}
use Rattle.thread_signals.proofs.SoundLemmas.{own_scope, own_found}
use Rattle.thread_signals.proofs.Signals.own_signal.Goals as goal

pub lowest-requires : goal.lowest-requires
lowest-requires c = own_scope _ c.self.inside.pending _ c.self.invariant c.number.result c.taken_by.result

pub returns : goal.returns
unfolding state_of
returns c =
    let state = state_of c.args.self.now in
    c.lowest.ensures
    ∙ own_found _ c.self.inside.pending _ c.self.invariant c.number.result c.args.t c.taken_by.result (takes state.waits (free_in state) c.args.t) c.number.ensures.value c.taken_by.ensures
    ∙ ap (λ (v : Table). find (λ sig. nat_lt 0 (counts_of v.counts c.args.t sig) && takes state.waits (free_in state) c.args.t sig) signals) c.self.view_is
