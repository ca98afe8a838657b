use Rattle.kernel_state.specs.contracts.records.Records.{the_view}
use Rattle.kernel_state.proofs.RecordLemmas.{cached_executed}
use Rattle.kernel_state.proofs.records.Records.execute.Goals as goal

pub invariant_of-self : goal.invariant_of-self
invariant_of-self c = cached_executed (the_view c.self.inside) c.exec.new.regs c.self.invariant
