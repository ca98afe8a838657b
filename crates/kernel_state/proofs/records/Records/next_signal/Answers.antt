use Rattle.std.proofs.Common.{◌∙◌, ap}
use Rattle.thread_base.specs.Maps.{numbered}
use Rattle.kernel_state.specs.Records.{RecordsState, next_signal}
use Rattle.kernel_state.specs.contracts.records.Records.{the_view}
use Rattle.kernel_state.proofs.RecordLemmas.{next_is}
use Rattle.kernel_state.proofs.records.Records.next_signal.Goals as goal

pub returns : goal.returns
returns c = record {
  next = λ key same.
      c.next_delivery.ensures.next
      ∙ next_is (the_view c.self.inside) (numbered 0 c.args.eff.now) key c.self.invariant same
      ∙ ap (λ (r : RecordsState). next_signal r key) c.self.view_is;
}
