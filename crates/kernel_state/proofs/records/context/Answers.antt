use Rattle.std.proofs.Common.{◌∙◌, sym, ap}
use Rattle.context_frames.specs.Contexts.{saved_of}
use Rattle.kernel_state.specs.Records.{context_of, registers_of}
use Rattle.kernel_state.proofs.RecordLemmas.{in_place, elsewhere}
use Rattle.kernel_state.proofs.records.context.Goals as goal

pub returns-then-number : goal.returns-then-number
returns-then-number c =
    in_place (λ u. context_of (saved_of c.args.frames.now u)) c.args.placed c.args.t (registers_of c.args.regs.now)
    (sym c.number.ensures.value ∙ c.if-number.true ∙ c.number-2.ensures.value)

pub returns : goal.returns
returns c =
    c.saved_regs.ensures ∙ ap context_of c.saved.ensures
    ∙ elsewhere (saved_of c.args.frames.now) c.args.placed c.args.t (registers_of c.args.regs.now)
    (λ e. c.if-number.false (c.number.ensures.value ∙ e ∙ sym c.number-2.ensures.value))
