use Rattle.std.proofs.Common.{◌∙◌, ap, sym, [], ◌∷◌, ◌++◌}
use Rattle.thread_base.specs.Orders.{is_in}
use Rattle.thread_base.proofs.OrderLemmas.{not_in-without}
use Rattle.posix_model.specs.Changes.{set_thread}
use Rattle.posix_model.specs.State.{State}
use Rattle.posix_model.specs.Threads.{exists}
use Rattle.kernel_state.specs.Records.{thread_in}
use Rattle.kernel_state.specs.View.{view, with_ready}
use Rattle.kernel_state.proofs.CurrentLemmas.{base_put}
use Rattle.kernel_state.proofs.tables.Tables.put_anew.Goals as goal

pub put_away-requires-clause-there : goal.put_away-requires-clause-there
put_away-requires-clause-there g c = ap (λ (x : State). exists x c.args.t) c.take_out.ensures.view ∙ c.requires.there

pub put_away-requires-clause-away : goal.put_away-requires-clause-away
put_away-requires-clause-away g c =
    ap (λ (x : State). is_in c.args.t x.ready) c.take_out.ensures.view ∙ not_in-without c.args.t (view g.R.Ready.order c.args.self.now).ready

pub append-requires-clause-away : goal.append-requires-clause-away
append-requires-clause-away g c =
    ap (λ (x : State). is_in c.args.t x.ready) c.put_away.ensures.view
    ∙ ap (λ (x : State). is_in c.args.t x.ready) c.take_out.ensures.view ∙ not_in-without c.args.t (view g.R.Ready.order c.args.self.now).ready

pub append-requires-clause-base : goal.append-requires-clause-base
append-requires-clause-base g c = sym (base_put (view g.R.Ready.order c.take_out.new.self) _ c.args.t _ c.put_away.ensures.view ∙ c.requires.base)

pub returns-clause-view : goal.returns-clause-view
returns-clause-view g c =
    c.append.ensures.view
    ∙ ap (λ (x : State). with_ready x (x.ready ++ c.args.t ∷ [])) c.put_away.ensures.view
    ∙ ap (λ (x : State). with_ready (set_thread x c.args.t (thread_in c.args.known (x.threads c.args.t).frames)) (x.ready ++ c.args.t ∷ [])) c.take_out.ensures.view
