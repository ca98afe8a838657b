-- What the tables show after a change of a signal.
use Rattle.std.proofs.Common.{◌≡◌, ◌∙◌, ap, sym, ℕ, ◌+◌, true, false, List}
use Rattle.std.specs.Prelude.{if◌then◌else◌, slice_index, slice_set}
use Rattle.thread_base.specs.Actions.{ignores}
use Rattle.thread_base.specs.Maps.{put}
use Rattle.thread_base.specs.declared.action.Action.{Action}
use Rattle.posix_model.specs.Changes.{Outcome}
use Rattle.posix_model.specs.Deliveries.{left_of}
use Rattle.posix_model.specs.Arrivals.{dropped}
use Rattle.posix_model.specs.SignalCalls.{forgotten, with_action}
use Rattle.posix_model.specs.declared.Report.{Report}
use Rattle.kernel_state.specs.Records.{RecordsState, threads_in, pending_in, actions_in}
use Rattle.kernel_state.specs.View.{view, outcome}
use Rattle.kernel_state.specs.declared.tables.Tables.{Tables}

-- what another action makes, by whether it ignores the signal
dropping : (g : Outcome) (sig : ℕ) (action : Action) → ignores action sig ≡ true
    → with_action g sig action
    ≡ dropped (record g { state = record g.state { actions = put g.state.actions sig action; pending = forgotten sig g.state.pending } }) sig (left_of g.state sig)
dropping g sig action is =
    ap (λ b. if b
    then dropped (record g { state = record g.state { actions = put g.state.actions sig action; pending = forgotten sig g.state.pending } }) sig (left_of g.state sig)
    else record g { state = record g.state { actions = put g.state.actions sig action } }) is

keeping : (g : Outcome) (sig : ℕ) (action : Action) → ignores action sig ≡ false
    → with_action g sig action ≡ record g { state = record g.state { actions = put g.state.actions sig action } }
keeping g sig action un =
    ap (λ b. if b
    then dropped (record g { state = record g.state { actions = put g.state.actions sig action; pending = forgotten sig g.state.pending } }) sig (left_of g.state sig)
    else record g { state = record g.state { actions = put g.state.actions sig action } }) un

module _ {R : Type 0} (order : R → List ℕ) (k : Tables R) (records : RecordsState) (sig : ℕ) (action : Action) (threads : threads_in records ≡ threads_in k.records)
    (actions : actions_in records ≡ put (actions_in k.records) sig action) where
  pub acted_dropping : (report : Report) (count : ℕ) → ignores action sig ≡ true → pending_in records ≡ forgotten sig (pending_in k.records) → count ≡ left_of (view order k) sig
      → report ≡ record k.report { drops = slice_set k.report.drops sig (slice_index k.report.drops sig + count) }
      → outcome order (record k { records = records; report = report }) ≡ with_action (outcome order k) sig action
  unfolding view outcome
  acted_dropping report count is pending all told =
      let told_all = told ∙ ap (λ n. record k.report { drops = slice_set k.report.drops sig (slice_index k.report.drops sig + n) }) all in
      (λ i. record { state = record (view order k) { threads = threads i; actions = actions i; pending = pending i }; report = told_all i })
      ∙ sym (dropping (outcome order k) sig action is)

  pub acted_keeping : ignores action sig ≡ false → pending_in records ≡ pending_in k.records → outcome order (record k { records = records }) ≡ with_action (outcome order k) sig action
  unfolding view outcome
  acted_keeping un pending =
      (λ i. record { state = record (view order k) { threads = threads i; actions = actions i; pending = pending i }; report = k.report })
      ∙ sym (keeping (outcome order k) sig action un)
