use Rattle.std.proofs.Common.{◌≡◌, ◌∙◌, ap, subst, List}
use Rattle.posix_model.specs.State.{State, Frame}
use Rattle.posix_model.specs.PriorityCalls.{schedule_word}
use Rattle.kernel_state.specs.Records.{thread_in}
use Rattle.kernel_state.specs.View.{view}
use Rattle.kernel_state.specs.declared.tables.Tables.{Tables}
use Rattle.calls_thread.proofs.scheduling.schedule_of.Goals as goal

pub returns : goal.returns
returns g c =
    let s : State = view g.R.Ready.order c.args.k.now.tables in
    let frames : List Frame = (s.threads c.args.u).frames in
    let known : thread_in c.known.result frames ≡ s.threads c.args.u =
    subst (λ (x : Tables _). thread_in c.known.result ((view g.R.Ready.order x).threads c.args.u).frames ≡ (view g.R.Ready.order x).threads c.args.u) c.tables.ensures.tables c.known.ensures in
    c.word_of.ensures frames ∙ ap schedule_word known
