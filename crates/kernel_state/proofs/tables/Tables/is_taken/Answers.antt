use Rattle.std.proofs.Common.{◌≡◌, ◌∙◌, ap, sym, is_some, false}
use Rattle.std.specs.Prelude.{◌||◌}
use Rattle.thread_base.specs.Priority.{tids}
use Rattle.posix_model.specs.State.{State, Thread, joins}
use Rattle.posix_model.specs.Threads.{has_joiner}
use Rattle.kernel_state.specs.View.{view}
use Rattle.kernel_state.proofs.ViewLemmas.{any_found}
use Rattle.kernel_state.proofs.tables.Tables.is_taken.Goals as goal

pub returns-else-known : goal.returns-else-known
returns-else-known g c =
    let s : State = view g.R.Ready.order c.args.self.now in
    let loose : (s.threads c.args.t).detached ≡ false = sym (ap (λ (x : Thread). x.detached) c.known.ensures) ∙ c.if-known.false in
    c.is_some.ensures ∙ ap is_some c.joiner.ensures ∙ any_found (λ u. joins c.args.t (s.threads u).standing) tids
    ∙ ap (λ b. b || has_joiner s c.args.t) (sym loose)
