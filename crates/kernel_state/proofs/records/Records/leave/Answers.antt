use Rattle.std.proofs.Common.{◌≡◌, ◌∙◌, ap, sym, subst, ℕ, true, List, [], length, Some, refl, is_some}
use Rattle.std.specs.Prelude.{if◌then◌else◌}
use Rattle.kernel_state.specs.declared.records.ThreadRecord.{ThreadRecord}
use Rattle.thread_base.specs.Maps.{put}
use Rattle.thread_base.proofs.MapLemmas.{put_got, put_same}
use Rattle.context_frames.specs.Contexts.{stack_of, below_top}
use Rattle.context_frames.specs.declared.Frame.{Frame as KeptFrame}
use Rattle.context_frames.specs.declared.Saved.{Saved}
use Rattle.thread_table.specs.Rows.{rows}
use Rattle.posix_model.specs.State.{Thread, is_of_handler}
use Rattle.kernel_state.specs.Records.{RecordsState, threads_in, thread_in, frames_of, registers_of, context_of, activities_of, has_thread, left_by}
use Rattle.kernel_state.specs.contracts.records.Records.{the_view}
use Rattle.kernel_state.proofs.RecordLemmas.{frames_there, changed, alike, cached_put, cached_still, depth_of, frames_put, frames_none, frames_below, stack_bare, kept_at}
use Rattle.kernel_state.proofs.records.Records.leave.Goals as goal

-- ---- no frame is there

bare : (c : goal.In_default) → stack_of c.self.inside.frames c.args.t ≡ []
bare c = c.pop.ensures.empty.0 (ap is_some c.in_default.is)

same : (c : goal.In_default) → threads_in (record (the_view c.self.inside) { frames = c.pop.new.self }) ≡ threads_in (the_view c.self.inside)
same c =
    let r = the_view c.self.inside in
    let q : RecordsState = record r { frames = c.pop.new.self } in
    alike r q refl refl refl (stack_bare r q c.args.t (bare c) c.pop.ensures.frames)
    (ap (λ (f : ℕ → Saved). put (λ u. context_of (f u)) r.placed (registers_of r.regs)) c.pop.ensures.saved)

pub invariant_of-self : goal.invariant_of-self
invariant_of-self c =
    cached_still (the_view c.self.inside) (record (the_view c.self.inside) { frames = c.pop.new.self }) c.self.invariant (same c) refl refl refl

there : (r q : RecordsState) (t : ℕ) → r ≡ q → has_thread q t ≡ true → has_thread r t ≡ true
there r q t e h = subst (λ x. has_thread x t ≡ true) (sym e) h

pub returns-in_default-clause-threads : goal.returns-in_default-clause-threads
returns-in_default-clause-threads c =
    let r = the_view c.self.inside in
    let s = c.args.self.now in
    let none = sym (ap (λ (x : RecordsState). (threads_in x c.args.t).frames) c.self.view_is) ∙ frames_there r c.args.t (there r s c.args.t c.self.view_is c.requires.there) ∙ ap frames_of (bare c) ∙ frames_none in
    same c ∙ ap threads_in c.self.view_is
    ∙ sym (ap (λ fs. put (threads_in s) c.args.t (left_by (threads_in s c.args.t) fs)) none ∙ put_got (threads_in s) c.args.t)

-- ---- a frame is taken off

abbrev state : goal.After-note → RecordsState
state c = record (the_view c.self.inside) { frames = c.put_context.new.frames; signals = c.note.new.signals; deadlines = c.note.new.deadlines; regs = c.put_context.new.regs }

-- what is kept of the thread from now on
abbrev known : goal.After-note → ThreadRecord
known c = record c.known-known.result { mask = c.mask_after-known.result; regs = c.in-Some.frame.regs }

abbrev stack : goal.After-note → List KeptFrame
stack c = below_top (stack_of c.self.inside.frames c.args.t)

stacked : (c : goal.After-note) → stack_of c.put_context.new.frames ≡ put (stack_of c.self.inside.frames) c.args.t (stack c)
stacked c = c.put_context.ensures.frames ∙ c.pop.ensures.frames

shown : (c : goal.After-note) → threads_in (state c) ≡ put (threads_in (the_view c.self.inside)) c.args.t (thread_in (known c) (frames_of (stack c)))
shown c =
    let r = the_view c.self.inside in
    let k = c.known-known.result in
    let is = c.known-known.ensures in
    changed r (state c) c.args.t k.row k.activity c.mask_after-known.result (frames_of (stack c)) (registers_of c.in-Some.frame.regs)
    (kept_at (rows r.rows) c.args.t (Some k.row) (ap (λ (x : RecordsState). rows x.rows c.args.t) c.self.view_is ∙ is.row))
    (kept_at (activities_of r.activities) c.args.t k.activity (ap (λ (x : RecordsState). activities_of x.activities c.args.t) c.self.view_is ∙ is.activity))
    c.note.ensures.masks
    (frames_put r (state c) c.args.t (stack c) (stacked c))
    (c.put_context.ensures.contexts ∙ ap (λ (f : ℕ → Saved). put (put (λ u. context_of (f u)) r.placed (registers_of r.regs)) c.args.t (registers_of c.in-Some.frame.regs)) c.pop.ensures.saved)

pub invariant_of-self-2 : goal.invariant_of-self-2
invariant_of-self-2 c =
    let fs = frames_of (stack c) in
    cached_put (the_view c.self.inside) (state c) c.args.t (thread_in (known c) fs) c.self.invariant (shown c) c.note.ensures.waits
    (c.note.ensures.is_open fs (c.depth.ensures.frames ∙ ap (λ (f : ℕ → List KeptFrame). length (f c.args.t)) (stacked c) ∙ ap length (put_same (stack_of c.self.inside.frames) c.args.t (stack c)) ∙ depth_of (stack c)))
    c.note.ensures.deadlines

pub returns-clause-threads : goal.returns-clause-threads
returns-clause-threads c =
    let r = the_view c.self.inside in
    let s = c.args.self.now in
    let T : Thread = threads_in s c.args.t in
    let top = frames_below (stack_of c.self.inside.frames c.args.t) c.in-Some.frame (sym c.pop.ensures.top ∙ c.in-Some.is) in
    let is = sym (ap (λ (x : RecordsState). (threads_in x c.args.t).frames) c.self.view_is) ∙ frames_there r c.args.t (there r s c.args.t c.self.view_is c.requires.there) ∙ top in
    let mask : c.mask_after-known.result ≡ (if is_of_handler c.in-Some.frame.kind then c.in-Some.frame.mask else T.mask) =
    c.mask_after-known.ensures ∙ ap (λ (x : Thread). if is_of_handler c.in-Some.frame.kind then c.in-Some.frame.mask else x.mask) c.known-known.ensures.thread in
    shown c
    ∙ (λ i. put (threads_in (c.self.view_is i)) c.args.t (record (thread_in c.known-known.result T.frames) { registers = registers_of c.in-Some.frame.regs; mask = mask i; frames = frames_of (stack c) }))
    ∙ ap (λ (x : Thread). put (threads_in s) c.args.t (record x { registers = registers_of c.in-Some.frame.regs; mask = (if is_of_handler c.in-Some.frame.kind then c.in-Some.frame.mask else T.mask); frames = frames_of (stack c) })) c.known-known.ensures.thread
    ∙ sym (ap (λ fs. put (threads_in s) c.args.t (left_by T fs)) is)
