use Rattle.std.proofs.Common.{◌∙◌, ap, sym}
use Rattle.kernel_state.specs.Records.{RecordsState, next_signal}
use Rattle.kernel_state.specs.contracts.records.Records.{the_view}
use Rattle.kernel_state.proofs.RecordLemmas.{next_is}
use Rattle.std.proofs.Common.{refl}
use Rattle.kernel_state.proofs.records.Records.is_calm.Goals as goal

pub returns : goal.returns
returns c = λ calm key.
    sym (ap (λ (r : RecordsState). next_signal r key) c.self.view_is)
    ∙ sym (next_is (the_view c.self.inside) key key c.self.invariant (λ t within. refl))
    ∙ c.is_calm.ensures.settled calm key
