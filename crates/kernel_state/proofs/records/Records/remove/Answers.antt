use Rattle.std.proofs.Common.{◌≡◌, ◌∙◌, ap, sym, refl, subst, true, false}
use Rattle.thread_base.specs.Maps.{put}
use Rattle.thread_signals.specs.SignalState.{SignalState}
use Rattle.posix_model.specs.State.{no_thread}
use Rattle.kernel_state.specs.Records.{threads_in, has_thread}
use Rattle.kernel_state.specs.contracts.records.Records.{the_view}
use Rattle.kernel_state.proofs.RecordLemmas.{is_row, gone, cached_put}
use Rattle.kernel_state.proofs.records.Records.remove.Goals as goal

pub free-requires : goal.free-requires
free-requires c = is_row (the_view c.self.inside) c.args.t (subst (λ r. has_thread r c.args.t ≡ true) (sym c.self.view_is) c.requires)

shown : (c : goal.After-cancel) → threads_in (record (the_view c.self.inside) { rows = c.free.new.self; signals = c.set_open.new.self; deadlines = c.cancel.new.self }) ≡ put (threads_in (the_view c.self.inside)) c.args.t no_thread
shown c =
    let r = the_view c.self.inside in
    gone r (record r { rows = c.free.new.self; signals = c.set_open.new.self; deadlines = c.cancel.new.self }) c.args.t c.free.ensures refl
    (ap (λ (s : SignalState). s.masks) c.set_open.ensures ∙ ap (λ (s : SignalState). s.masks) c.set_wait.ensures) refl refl

pub invariant_of-self : goal.invariant_of-self
invariant_of-self c =
    let r = the_view c.self.inside in
    cached_put r (record r { rows = c.free.new.self; signals = c.set_open.new.self; deadlines = c.cancel.new.self }) c.args.t no_thread c.self.invariant (shown c)
    (ap (λ (s : SignalState). s.waits) c.set_open.ensures ∙ ap (λ (s : SignalState). s.waits) c.set_wait.ensures)
    (ap (λ (s : SignalState). s.is_open) c.set_open.ensures ∙ ap (λ (s : SignalState). put s.is_open c.args.t false) c.set_wait.ensures)
    c.cancel.ensures

pub returns-clause-threads : goal.returns-clause-threads
returns-clause-threads c = shown c ∙ ap (λ r. put (threads_in r) c.args.t no_thread) c.self.view_is
