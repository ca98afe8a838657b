use Rattle.std.proofs.Common.{◌∙◌, map}
use Rattle.posix_model.specs.Lines.{sig_numbers}
use Rattle.posix_model.specs.Trace.{left}
use Rattle.kernel_state.specs.Records.{pending_in}
use Rattle.kernel_state.specs.View.{view}
use Rattle.kernel_state.proofs.SumLemmas.{sum_all}
use Rattle.kernel_state.proofs.tables.Tables.left.Goals as goal

pub returns : goal.returns
unfolding view left sig_numbers
returns g c =
    let p = pending_in c.args.self.now.records in
    c.left.ensures ∙ (λ i. map (λ sig. sum_all p sig i) sig_numbers)
