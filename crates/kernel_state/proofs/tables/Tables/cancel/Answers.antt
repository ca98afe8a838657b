use Rattle.std.proofs.Common.{◌∙◌, ap, sym}
use Rattle.posix_model.specs.State.{Thread}
use Rattle.kernel_state.specs.View.{view}
use Rattle.kernel_state.proofs.CurrentLemmas.{base_put}
use Rattle.kernel_state.proofs.tables.Tables.cancel.Goals as goal

pub append-requires-clause-base : goal.append-requires-clause-base
append-requires-clause-base g c =
    c.base-base.ensures
    ∙ sym (base_put (view g.R.Ready.order c.args.self.now) _ c.args.t _ c.put_bare.ensures.view ∙ ap (λ (x : Thread). x.base) c.known-known.ensures)
