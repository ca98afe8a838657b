use Rattle.std.proofs.Common.{◌≡◌, ◌∙◌, ap, sym, refl, subst, true}
use Rattle.thread_base.specs.Maps.{put}
use Rattle.context_frames.specs.Contexts.{stack_of}
use Rattle.kernel_state.specs.Records.{RecordsState, threads_in, thread_in, frames_in, registers_of, has_thread}
use Rattle.kernel_state.specs.contracts.records.Records.{the_view}
use Rattle.kernel_state.proofs.RecordLemmas.{is_row, frames_there, changed, cached_put, depth_same, frames_same}
use Rattle.kernel_state.proofs.records.Records.put.Goals as goal

pub put-requires : goal.put-requires
put-requires c = is_row (the_view c.self.inside) c.args.t (subst (λ r. has_thread r c.args.t ≡ true) (sym c.self.view_is) c.requires)

abbrev state : goal.After-note → RecordsState
state c = record { rows = c.put.new.self; activities = c.put-2.new.self; frames = c.put_context.new.frames; signals = c.note.new.signals; deadlines = c.note.new.deadlines; regs = c.put_context.new.regs; placed = c.self.inside.placed }

shown : (c : goal.After-note) → threads_in (state c) ≡ put (threads_in (the_view c.self.inside)) c.args.t (thread_in c.args.known (frames_in (the_view c.self.inside) c.args.t))
shown c =
    let r = the_view c.self.inside in
    changed r (state c) c.args.t c.args.known.row c.args.known.activity c.args.known.mask (frames_in r c.args.t) (registers_of c.args.known.regs)
    c.put.ensures c.put-2.ensures c.note.ensures.masks (frames_same r (state c) c.args.t c.put_context.ensures.frames) c.put_context.ensures.contexts

pub invariant_of-self : goal.invariant_of-self
invariant_of-self c =
    let r = the_view c.self.inside in
    let fs = frames_in r c.args.t in
    cached_put r (state c) c.args.t (thread_in c.args.known fs) c.self.invariant (shown c) c.note.ensures.waits
    (c.note.ensures.is_open fs (c.depth.ensures.frames ∙ depth_same (stack_of c.put_context.new.frames c.args.t) (stack_of r.frames) (stack_of c.put_context.new.frames) c.args.t c.put_context.ensures.frames refl))
    c.note.ensures.deadlines

pub returns-clause-threads : goal.returns-clause-threads
returns-clause-threads c =
    shown c
    ∙ subst (λ r. put (threads_in (the_view c.self.inside)) c.args.t (thread_in c.args.known (frames_in (the_view c.self.inside) c.args.t)) ≡ put (threads_in r) c.args.t (thread_in c.args.known (threads_in r c.args.t).frames)) c.self.view_is
    (ap (λ fs. put (threads_in (the_view c.self.inside)) c.args.t (thread_in c.args.known fs))
    (sym (frames_there (the_view c.self.inside) c.args.t (subst (λ r. has_thread r c.args.t ≡ true) (sym c.self.view_is) c.requires))))
