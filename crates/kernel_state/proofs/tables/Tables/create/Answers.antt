use Rattle.std.proofs.Common.{◌∙◌, ap, sym, []}
use Rattle.posix_model.specs.State.{Thread}
use Rattle.kernel_state.specs.Records.{thread_in}
use Rattle.kernel_state.specs.View.{view}
use Rattle.kernel_state.proofs.CurrentLemmas.{base_put}
use Rattle.kernel_state.proofs.tables.Tables.create.Goals as goal

pub append-requires-clause-base : goal.append-requires-clause-base
append-requires-clause-base g c =
    sym (base_put (view g.R.Ready.order c.args.self.now) _ c.args.t (thread_in c.first_record.result []) c.add_record.ensures.view
    ∙ ap (λ (x : Thread). x.base) c.first_record.ensures)
