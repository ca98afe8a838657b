use Rattle.std.proofs.Common.{◌≡◌, ◌∙◌, ap, sym, subst, true}
use Rattle.context_frames.specs.Contexts.{stack_of}
use Rattle.kernel_state.specs.Records.{threads_in, frames_in, has_thread, top_kind}
use Rattle.kernel_state.specs.contracts.records.Records.{the_view}
use Rattle.kernel_state.proofs.RecordLemmas.{frames_there, top_is}
use Rattle.kernel_state.proofs.records.Records.top.Goals as goal

pub returns : goal.returns
returns c = λ there.
    let r = the_view c.self.inside in
    c.top.ensures.top ∙ top_is (stack_of r.frames c.args.t)
    ∙ subst (λ q. top_kind (frames_in r c.args.t) ≡ top_kind (threads_in q c.args.t).frames) c.self.view_is
    (ap top_kind (sym (frames_there r c.args.t (subst (λ q. has_thread q c.args.t ≡ true) (sym c.self.view_is) there))))
