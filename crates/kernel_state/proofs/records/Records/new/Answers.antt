use Rattle.std.proofs.Common.{◌≡◌, ◌∙◌, ap, sym, ℕ, true, List}
use Rattle.thread_base.specs.Maps.{put}
use Rattle.context_frames.specs.Contexts.{saved_of}
use Rattle.context_frames.specs.declared.Frame.{Frame as KeptFrame}
use Rattle.thread_signals.specs.SignalState.{SignalState}
use Rattle.thread_table.specs.Rows.{rows}
use Rattle.kernel_state.specs.Records.{RecordsState, threads_in, frames_of, registers_of, context_of, first_threads}
use Rattle.kernel_state.proofs.RecordLemmas.{frames_none, in_place, first_made, first_shown, first_cached}
use Rattle.kernel_state.proofs.records.Records.new.Goals as goal

abbrev state : goal.After-new-3 → RecordsState
state c = record { rows = c.make-number.new.self; activities = c.new-2.result; frames = c.in_ok-frames.frames; signals = c.set_open.new.self; deadlines = c.new-3.result; regs = c.args.regs; placed = c.at-main.result }

shown : (c : goal.After-new-3) → threads_in (state c) ≡ first_threads (registers_of c.args.regs)
shown c =
    let s = state c in
    first_shown s (registers_of c.args.regs)
    (first_made (rows c.make-number.new.self) (rows c.new-rows.result) c.first_row.result c.make-number.result c.new-rows.ensures c.first_row.ensures c.make-number.ensures.number c.make-number.ensures.after)
    c.new-2.ensures
    (ap (λ (x : SignalState). x.masks 1) c.set_open.ensures ∙ ap (λ (x : SignalState). x.masks 1) c.new-signals.ensures.state)
    (ap (λ (f : ℕ → List KeptFrame). frames_of (f 1)) c.in_ok-frames.ensures.frames ∙ frames_none)
    (sym (in_place (λ u. context_of (saved_of c.in_ok-frames.frames u)) c.at-main.result 1 (registers_of c.args.regs) (sym c.at-main.ensures)))

pub invariant_of-result : goal.invariant_of-result
invariant_of-result c =
    first_cached (state c) (registers_of c.args.regs) (shown c)
    (ap (λ (x : SignalState). x.waits) c.set_open.ensures ∙ ap (λ (x : SignalState). x.waits) c.new-signals.ensures.state)
    (ap (λ (x : SignalState). x.is_open) c.set_open.ensures ∙ (λ i. put (SignalState.is_open (c.new-signals.ensures.state i)) (c.at-main.ensures i) true))
    c.new-3.ensures

pub returns-clause-threads : goal.returns-clause-threads
returns-clause-threads c = shown c
