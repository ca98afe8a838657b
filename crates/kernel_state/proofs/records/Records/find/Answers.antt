use Rattle.std.proofs.Common.{◌≡◌, ◌∙◌, sym, subst, false, true}
use Rattle.kernel_state.specs.Records.{has_thread, threads_in, thread_by, registers_of}
use Rattle.kernel_state.specs.contracts.records.Records.{the_view}
use Rattle.kernel_state.proofs.RecordLemmas.{found_none, found_some, found_is}
use Rattle.kernel_state.proofs.records.Records.find.Goals as goal

pub returns-in-None-clause-there : goal.returns-in-None-clause-there
returns-in-None-clause-there c =
    subst (λ r. false ≡ has_thread r c.args.t) c.self.view_is (found_none (the_view c.self.inside) c.args.t (sym (sym c.in-None.is ∙ c.row.ensures)))

pub returns-in-Some-clause-thread : goal.returns-in-Some-clause-thread
returns-in-Some-clause-thread c =
    subst (λ r. thread_by c.in-Some.row c.activity.result c.mask.result (threads_in r c.args.t).frames (registers_of c.context.result) ≡ threads_in r c.args.t) c.self.view_is
    (found_is (the_view c.self.inside) c.args.t c.in-Some.row c.activity.result c.mask.result (registers_of c.context.result) (sym (sym c.in-Some.is ∙ c.row.ensures))
    c.activity.ensures c.mask.ensures c.context.ensures)

pub returns-in-Some-clause-there : goal.returns-in-Some-clause-there
returns-in-Some-clause-there c =
    subst (λ r. true ≡ has_thread r c.args.t) c.self.view_is (found_some (the_view c.self.inside) c.args.t c.in-Some.row (sym (sym c.in-Some.is ∙ c.row.ensures)))
