use Rattle.std.proofs.Common.{◌∙◌, ap, sym, refl}
use Rattle.std.specs.Prelude.{if◌then◌else◌}
use Rattle.thread_signals.specs.Counts.{without_signal, all_of}
use Rattle.kernel_state.specs.Records.{pending_in}
use Rattle.kernel_state.specs.View.{view, outcome}
use Rattle.kernel_state.proofs.CurrentLemmas.{alike}
use Rattle.kernel_state.proofs.SignalLemmas.{acted_dropping, acted_keeping}
use Rattle.kernel_state.proofs.SumLemmas.{sum_all}
use Rattle.kernel_state.proofs.tables.Tables.act.Goals as goal

pub tell_dropped-requires : goal.tell_dropped-requires
unfolding outcome
tell_dropped-requires g c = c.requires

pub returns-then-is_ignored-clause-outcome : goal.returns-then-is_ignored-clause-outcome
unfolding view
returns-then-is_ignored-clause-outcome g c =
    let k = c.args.self.now in
    let sig = c.args.signal in
    let is = sym c.ignores-is_ignored.ensures ∙ c.if-is_ignored.true in
    let by = c.set_action-dropped.ensures in
    acted_dropping g.R.Ready.order k c.set_action-dropped.new.self sig c.args.action by.threads by.actions c.tell_dropped.new.report c.set_action-dropped.result is
    (by.pending ∙ ap (λ b. if b then without_signal (pending_in k.records) sig else pending_in k.records) is)
    (by.dropped ∙ ap (λ b. if b then all_of (pending_in k.records) sig else 0) is ∙ sum_all (pending_in k.records) sig)
    c.tell_dropped.ensures

pub returns-then-is_ignored-clause-current : goal.returns-then-is_ignored-clause-current
unfolding view
returns-then-is_ignored-clause-current g c =
    let k = c.args.self.now in
    alike (view g.R.Ready.order k) (view g.R.Ready.order (record k { records = c.set_action-dropped.new.self; report = c.tell_dropped.new.report })) (g.R.Ready.prio k.ready) (g.R.Ready.prio k.ready)
    c.set_action-dropped.ensures.threads refl refl

pub returns-else-is_ignored-clause-outcome : goal.returns-else-is_ignored-clause-outcome
returns-else-is_ignored-clause-outcome g c =
    let k = c.args.self.now in
    let sig = c.args.signal in
    let un = sym c.ignores-is_ignored.ensures ∙ c.if-is_ignored.false in
    let by = c.set_action-dropped.ensures in
    acted_keeping g.R.Ready.order k c.set_action-dropped.new.self sig c.args.action by.threads by.actions un
    (by.pending ∙ ap (λ b. if b then without_signal (pending_in k.records) sig else pending_in k.records) un)

pub returns-else-is_ignored-clause-current : goal.returns-else-is_ignored-clause-current
unfolding view
returns-else-is_ignored-clause-current g c =
    let k = c.args.self.now in
    alike (view g.R.Ready.order k) (view g.R.Ready.order (record k { records = c.set_action-dropped.new.self })) (g.R.Ready.prio k.ready) (g.R.Ready.prio k.ready)
    c.set_action-dropped.ensures.threads refl refl
