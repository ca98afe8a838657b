use Rattle.std.proofs.Common.{◌∙◌, ap, sym, subst}
use Rattle.thread_base.specs.Objects.{waiters_in}
use Rattle.thread_base.specs.Priority.{first_greatest}
use Rattle.posix_model.specs.State.{State}
use Rattle.posix_model.specs.Mutexes.{hand_off}
use Rattle.posix_model.specs.Scheduling.{eff}
use Rattle.kernel_state.specs.View.{view}
use Rattle.kernel_state.specs.Begun.{HasNotedSome, NotesMore}
use Rattle.kernel_state.proofs.WakingLemmas.{freed_by}
use Rattle.kernel_state.specs.declared.tables.Tables.{Tables}
use Rattle.kernel_state.proofs.kernel.Kernel.hand_off.Goals as goal

pub returns-in-None-clause-noted : goal.returns-in-None-clause-noted
returns-in-None-clause-noted g c = λ first before mutex noted there leaves.
    let order = g.R.Ready.order in
    let s : State = view order c.args.self.now.tables in
    let who = sym c.in-None.is ∙ c.best_waiter.ensures.first ∙ ap (λ (x : Tables _). first_greatest (eff (view g.R.Ready.order x)) (waiters_in ((view g.R.Ready.order x).mutexes c.args.m))) c.tables.ensures.tables ∙ ap (λ o. first_greatest (eff s) (waiters_in o)) there in
    let free = freed_by s before c.args.m mutex there leaves in
    let more = subst (NotesMore order c.args.self.now c.note_more.new.self) c.freed.ensures c.note_more.ensures.noted in
    subst (HasNotedSome order first c.note_more.new.self) (free.1 ∙ ap (hand_off before c.args.m mutex) who) (more first before noted free.0)

pub returns-in-Some-clause-noted : goal.returns-in-Some-clause-noted
returns-in-Some-clause-noted g c = λ first before mutex noted there leaves.
    let s : State = view g.R.Ready.order c.args.self.now.tables in
    let who = sym c.in-Some.is ∙ c.best_waiter.ensures.first ∙ ap (λ (x : Tables _). first_greatest (eff (view g.R.Ready.order x)) (waiters_in ((view g.R.Ready.order x).mutexes c.args.m))) c.tables.ensures.tables ∙ ap (λ o. first_greatest (eff s) (waiters_in o)) there in
    subst (λ o. HasNotedSome g.R.Ready.order first c.hand_off_to.new.self (hand_off before c.args.m mutex o)) who (c.hand_off_to.ensures.noted first before mutex noted there leaves)
