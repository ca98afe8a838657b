use Rattle.std.proofs.Common.{◌∙◌, ap, refl}
use Rattle.thread_signals.specs.SignalState.{SignalState}
use Rattle.kernel_state.specs.Records.{RecordsState, threads_in}
use Rattle.kernel_state.specs.contracts.records.Records.{the_view}
use Rattle.kernel_state.proofs.RecordLemmas.{alike, cached_still}
use Rattle.kernel_state.proofs.records.Records.set_action.Goals as goal

pub invariant_of-self : goal.invariant_of-self
invariant_of-self c =
    let r = the_view c.self.inside in
    let q : RecordsState = record r { signals = c.set_action.new.self } in
    let e = c.set_action.ensures.state in
    cached_still r q c.self.invariant (alike r q refl refl (ap (λ (s : SignalState). s.masks) e) refl refl) (ap (λ (s : SignalState). s.waits) e) (ap (λ (s : SignalState). s.is_open) e) refl

pub returns-clause-threads : goal.returns-clause-threads
returns-clause-threads c =
    let r = the_view c.self.inside in
    alike r (record r { signals = c.set_action.new.self }) refl refl (ap (λ (s : SignalState). s.masks) c.set_action.ensures.state) refl refl ∙ ap threads_in c.self.view_is
