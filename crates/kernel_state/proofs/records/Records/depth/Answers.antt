use Rattle.std.proofs.Common.{◌≡◌, ◌∙◌, ap, sym, subst, true, length}
use Rattle.context_frames.specs.Contexts.{stack_of}
use Rattle.kernel_state.specs.Records.{frames_in, threads_in, has_thread}
use Rattle.kernel_state.specs.contracts.records.Records.{the_view}
use Rattle.kernel_state.proofs.RecordLemmas.{depth_of, frames_there}
use Rattle.kernel_state.proofs.records.Records.depth.Goals as goal

pub returns : goal.returns
returns c = λ there.
    let r = the_view c.self.inside in
    c.depth.ensures.frames ∙ depth_of (stack_of r.frames c.args.t)
    ∙ subst (λ q. length (frames_in r c.args.t) ≡ length (threads_in q c.args.t).frames) c.self.view_is
    (ap length (sym (frames_there r c.args.t (subst (λ q. has_thread q c.args.t ≡ true) (sym c.self.view_is) there))))
