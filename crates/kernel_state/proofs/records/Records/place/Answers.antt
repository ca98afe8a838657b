use Rattle.std.proofs.Common.{◌≡◌, ◌∙◌, ap, refl, ℕ, List}
use Rattle.context_frames.specs.Contexts.{saved_of}
use Rattle.context_frames.specs.declared.Frame.{Frame as KeptFrame}
use Rattle.context_frames.specs.declared.Saved.TheVariants.{User}
use Rattle.posix_model.specs.State.{Frame}
use Rattle.kernel_state.specs.Records.{RecordsState, threads_in, frames_in, frames_of, registers_of}
use Rattle.kernel_state.specs.contracts.records.Records.{the_view}
use Rattle.kernel_state.proofs.RecordLemmas.{alike, cached_still, moved_contexts}
use Rattle.kernel_state.proofs.records.Records.place.Goals as goal

abbrev state : goal.After-t-1 → RecordsState
state c = record (the_view c.self.inside) { frames = c.save.new.self; regs = c.context-regs.result; placed = c.args.t }

shown : (c : goal.After-t-1) → threads_in (state c) ≡ threads_in (the_view c.self.inside)
shown c =
    let r = the_view c.self.inside in
    let fs : frames_in (state c) ≡ frames_in r = ap {B = ℕ → List Frame} (λ (f : ℕ → List KeptFrame) u. frames_of (f u)) c.save.ensures.frames in
    alike r (state c) refl refl refl fs
    (moved_contexts (saved_of r.frames) (saved_of c.save.new.self) r.placed c.args.t (registers_of r.regs) (registers_of c.context-regs.result) (User r.regs) c.save.ensures.saved refl c.context-regs.ensures)

pub invariant_of-self : goal.invariant_of-self
invariant_of-self c = cached_still (the_view c.self.inside) (state c) c.self.invariant (shown c) refl refl refl

pub returns-clause-threads : goal.returns-clause-threads
returns-clause-threads c = shown c ∙ ap threads_in c.self.view_is
