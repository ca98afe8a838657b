use Rattle.std.proofs.Common.{◌∙◌, ap, ℕ, ◌-◌, find}
use Rattle.std.specs.List.{range_with_len}
use Rattle.posix_model.specs.Arrivals.{has_come}
use Rattle.posix_model.specs.State.{wait_of, deadline_by}
use Rattle.kernel_state.specs.Records.{RecordsState, threads_in}
use Rattle.kernel_state.specs.contracts.records.Records.{the_view}
use Rattle.kernel_state.proofs.RecordLemmas.{due_is}
use Rattle.kernel_state.proofs.records.Records.due_from.Goals as goal

pub returns : goal.returns
returns c =
    let ts = range_with_len c.args.number (65 - c.args.number) in
    c.due_from.ensures ∙ due_is (the_view c.self.inside) c.args.time ts c.self.invariant
    ∙ ap (λ (r : RecordsState). find (λ t. has_come c.args.time (deadline_by (wait_of (threads_in r t).standing))) ts) c.self.view_is
