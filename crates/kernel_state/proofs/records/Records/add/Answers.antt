use Rattle.std.proofs.Common.{◌≡◌, ◌∙◌, ap, sym, refl, subst, ℕ, [], Some}
use Rattle.thread_base.specs.Maps.{put}
use Rattle.context_frames.specs.declared.Saved.{Saved}
use Rattle.thread_table.specs.Rows.{rows, free_number, put_found}
use Rattle.kernel_state.specs.Records.{RecordsState, threads_in, thread_in, frames_in, registers_of, context_of}
use Rattle.kernel_state.specs.contracts.records.Records.{the_view}
use Rattle.kernel_state.proofs.RecordLemmas.{changed, cached_put, frames_put, frames_none}
use Rattle.kernel_state.proofs.records.Records.add.Goals as goal

abbrev state : goal.After-note → RecordsState
state c = record { rows = c.make-number.new.self; activities = c.put.new.self; frames = c.put_context.new.frames; signals = c.note.new.signals; deadlines = c.note.new.deadlines; regs = c.put_context.new.regs; placed = c.self.inside.placed }

free : (c : goal.After-note) → rows c.make-number.new.self ≡ put (rows c.self.inside.rows) c.args.t (Some c.args.known.row)
free c =
    let is = subst (λ r. free_number (rows r.rows) ≡ Some c.args.t) (sym c.self.view_is) c.requires in
    c.make-number.ensures.after ∙ ap (λ o. put_found (rows c.self.inside.rows) o c.args.known.row) (c.make-number.ensures.number ∙ is)

shown : (c : goal.After-note) → threads_in (state c) ≡ put (threads_in (the_view c.self.inside)) c.args.t (thread_in c.args.known [])
shown c =
    let r = the_view c.self.inside in
    changed r (state c) c.args.t c.args.known.row c.args.known.activity c.args.known.mask [] (registers_of c.args.known.regs)
    (free c) c.put.ensures c.note.ensures.masks
    (frames_put r (state c) c.args.t [] (c.put_context.ensures.frames ∙ c.drop_all.ensures.frames) ∙ ap (put (frames_in r) c.args.t) frames_none)
    (c.put_context.ensures.contexts ∙ ap (λ (f : ℕ → Saved). put (put (λ u. context_of (f u)) r.placed (registers_of r.regs)) c.args.t (registers_of c.args.known.regs)) c.drop_all.ensures.saved)

pub invariant_of-self : goal.invariant_of-self
invariant_of-self c =
    cached_put (the_view c.self.inside) (state c) c.args.t (thread_in c.args.known []) c.self.invariant (shown c) c.note.ensures.waits (c.note.ensures.is_open [] refl) c.note.ensures.deadlines

pub returns-clause-threads : goal.returns-clause-threads
returns-clause-threads c = shown c ∙ ap (λ r. put (threads_in r) c.args.t (thread_in c.args.known [])) c.self.view_is
