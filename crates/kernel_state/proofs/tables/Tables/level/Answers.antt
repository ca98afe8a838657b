use Rattle.std.proofs.Common.{◌∙◌, ap, sym, Option}
use Rattle.thread_table.specs.declared.Row.{Row}
use Rattle.kernel_state.specs.Records.{activities_of, contexts_of, masks_in, frames_in, threads_in, thread_of}
use Rattle.kernel_state.specs.View.{view}
use Rattle.kernel_state.proofs.CurrentLemmas.{eff_own}
use Rattle.kernel_state.proofs.tables.Tables.level.Goals as goal

pub returns-in-None : goal.returns-in-None
unfolding view threads_in
returns-in-None g c =
    let k = c.args.self.now in
    let r = k.records in
    let range = c.number-in_range.ensures.range in
    ap (λ (o : Option Row). (thread_of o (activities_of r.activities c.args.t) (masks_in r c.args.t) (frames_in r c.args.t) (contexts_of r c.args.t)).base) (sym c.in-None.is ∙ c.row.ensures)
    ∙ sym (eff_own (view g.R.Ready.order k) c.args.t range.0 range.1)

pub returns-in-Some : goal.returns-in-Some
unfolding view threads_in
returns-in-Some g c =
    let k = c.args.self.now in
    let r = k.records in
    let range = c.number-in_range.ensures.range in
    c.number.ensures.value
    ∙ ap (λ (o : Option Row). (thread_of o (activities_of r.activities c.args.t) (masks_in r c.args.t) (frames_in r c.args.t) (contexts_of r c.args.t)).base) (sym c.in-Some.is ∙ c.row.ensures)
    ∙ sym (eff_own (view g.R.Ready.order k) c.args.t range.0 range.1)
