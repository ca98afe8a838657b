use Rattle.std.proofs.Common.{◌∙◌, sym, subst}
use Rattle.std.proofs.lemmas.Bool.{eqb-true}
use Rattle.thread_signals.specs.SignalState.{Table, state_of, free_in}
use Rattle.thread_signals.proofs.CalmLemmas.{HasSums, has_sums, calm_settled}
use Rattle.thread_signals.proofs.Signals.is_calm.Goals as goal

pub returns-clause-settled : goal.returns-clause-settled
returns-clause-settled c = λ calm eff.
    let state = state_of c.args.self.now in
    let sums = subst (λ (v : Table). HasSums (state_of v)) c.self.view_is (has_sums _ c.self.inside.pending _ c.self.invariant) in
    calm_settled state.counts sums.scope state.waits (free_in state) eff (sym c.sum.ensures ∙ eqb-true c.sum.result 0 calm)
