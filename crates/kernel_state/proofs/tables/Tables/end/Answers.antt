use Rattle.std.proofs.Common.{◌∙◌, sym}
use Rattle.posix_model.specs.Leaving.{with_end}
use Rattle.kernel_state.specs.View.{view, outcome}
use Rattle.kernel_state.proofs.tables.Tables.end.Goals as goal

pub returns-clause-outcome : goal.returns-clause-outcome
unfolding view outcome
returns-clause-outcome g c =
    let told = c.tell_end.ensures ∙ (λ i. with_end (c.leave_list.ensures.report i) ((λ sig. sym (c.requires.1 sig) i)) c.args.value) in
    λ i. record { state = c.leave_list.ensures.view i; report = told i }
