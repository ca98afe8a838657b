use Rattle.std.proofs.Common.{◌≡◌, ◌∙◌, ap, sym, subst, arith, ℕ, ◌<◌, Bool, true, not, List, [], ◌∷◌, ◌++◌, length, Some}
use Rattle.std.specs.Prelude.{if◌then◌else◌}
use Rattle.std.proofs.lemmas.Bool.{ne_eqb}
use Rattle.kernel_state.specs.declared.records.ThreadRecord.{ThreadRecord}
use Rattle.thread_base.specs.Maps.{put}
use Rattle.thread_base.proofs.MapLemmas.{put_same}
use Rattle.context_frames.specs.Contexts.{stack_of}
use Rattle.context_frames.specs.declared.Frame.{Frame as KeptFrame}
use Rattle.context_frames.specs.declared.Saved.{Saved}
use Rattle.thread_table.specs.Rows.{rows}
use Rattle.posix_model.specs.State.{Thread}
use Rattle.kernel_state.specs.Records.{RecordsState, threads_in, thread_in, frames_of, frame_of, registers_of, context_of, activities_of, has_thread, entered}
use Rattle.kernel_state.specs.contracts.records.Records.{the_view}
use Rattle.kernel_state.proofs.RecordLemmas.{frames_there, changed, cached_put, depth_of, frames_put, frames_pushed, kept_at}
use Rattle.kernel_state.proofs.records.Records.enter.Goals as goal

abbrev state : goal.After-note → RecordsState
state c = record (the_view c.self.inside) { frames = c.put_context.new.frames; signals = c.note.new.signals; deadlines = c.note.new.deadlines; regs = c.put_context.new.regs }

-- what is kept of the thread from now on
abbrev known : goal.After-note → ThreadRecord
known c = record c.known-known.result { regs = c.args.regs; mask = c.args.mask }

abbrev pushed : goal.After-note → KeptFrame
pushed c = record { regs = c.known-known.result.regs; mask = c.known-known.result.mask; kind = c.args.kind }

abbrev stack : goal.After-note → List KeptFrame
stack c = stack_of c.self.inside.frames c.args.t ++ pushed c ∷ []

there : (c : goal.After-note) → has_thread (the_view c.self.inside) c.args.t ≡ true
there c = subst (λ r. has_thread r c.args.t ≡ true) (sym c.self.view_is) c.requires.there

-- there is room
room : (c : goal.After-note) → c.push-room.result ≡ true
room c =
    let fewer : length (stack_of c.self.inside.frames c.args.t) < 32 =
    subst (λ n. n < 32) (ap (λ (r : RecordsState). length (threads_in r c.args.t).frames) (sym c.self.view_is) ∙ ap length (frames_there (the_view c.self.inside) c.args.t (there c)) ∙ sym (depth_of (stack_of c.self.inside.frames c.args.t))) c.requires.room in
    c.push-room.ensures.room ∙ ap not (ne_eqb (length (stack_of c.self.inside.frames c.args.t)) 32 (λ e. omega (arith, e, fewer)))

stacked : (c : goal.After-note) → stack_of c.put_context.new.frames ≡ put (stack_of c.self.inside.frames) c.args.t (stack c)
stacked c =
    c.put_context.ensures.frames ∙ c.push-room.ensures.frames
    ∙ ap (λ (b : Bool). if b then put (stack_of c.self.inside.frames) c.args.t (stack c) else stack_of c.self.inside.frames) (room c)

shown : (c : goal.After-note) → threads_in (state c) ≡ put (threads_in (the_view c.self.inside)) c.args.t (thread_in (known c) (frames_of (stack c)))
shown c =
    let r = the_view c.self.inside in
    let k = c.known-known.result in
    let is = c.known-known.ensures in
    changed r (state c) c.args.t k.row k.activity c.args.mask (frames_of (stack c)) (registers_of c.args.regs)
    (kept_at (rows r.rows) c.args.t (Some k.row) (ap (λ (x : RecordsState). rows x.rows c.args.t) c.self.view_is ∙ is.row))
    (kept_at (activities_of r.activities) c.args.t k.activity (ap (λ (x : RecordsState). activities_of x.activities c.args.t) c.self.view_is ∙ is.activity))
    c.note.ensures.masks
    (frames_put r (state c) c.args.t (stack c) (stacked c))
    (c.put_context.ensures.contexts ∙ ap (λ (f : ℕ → Saved). put (put (λ u. context_of (f u)) r.placed (registers_of r.regs)) c.args.t (registers_of c.args.regs)) c.push-room.ensures.saved)

pub invariant_of-self : goal.invariant_of-self
invariant_of-self c =
    let fs = frames_of (stack c) in
    cached_put (the_view c.self.inside) (state c) c.args.t (thread_in (known c) fs) c.self.invariant (shown c) c.note.ensures.waits
    (c.note.ensures.is_open fs (c.depth.ensures.frames ∙ ap (λ (f : ℕ → List KeptFrame). length (f c.args.t)) (stacked c) ∙ ap length (put_same (stack_of c.self.inside.frames) c.args.t (stack c)) ∙ depth_of (stack c)))
    c.note.ensures.deadlines

pub returns-clause-threads : goal.returns-clause-threads
returns-clause-threads c =
    let r = the_view c.self.inside in
    let fs = frames_pushed (stack_of c.self.inside.frames c.args.t) (pushed c) ∙ ap (λ xs. frame_of (pushed c) ∷ xs) (sym (frames_there r c.args.t (there c)) ∙ ap (λ (x : RecordsState). (threads_in x c.args.t).frames) c.self.view_is) in
    shown c
    ∙ (λ i. put (threads_in (c.self.view_is i)) c.args.t (thread_in (known c) (fs i)))
    ∙ ap (λ (x : Thread). put (threads_in c.args.self.now) c.args.t (entered x c.args.kind (registers_of c.args.regs) c.args.mask)) c.known-known.ensures.thread
