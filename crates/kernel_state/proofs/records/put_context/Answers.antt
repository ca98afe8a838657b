use Rattle.std.proofs.Common.{◌∙◌, sym}
use Rattle.context_frames.specs.Contexts.{saved_of}
use Rattle.context_frames.specs.declared.Saved.TheVariants.{User}
use Rattle.kernel_state.specs.Records.{context_of, registers_of}
use Rattle.kernel_state.proofs.RecordLemmas.{placed_anew, saved_anew}
use Rattle.kernel_state.proofs.records.put_context.Goals as goal

pub returns-then-number-clause-contexts : goal.returns-then-number-clause-contexts
returns-then-number-clause-contexts c =
    placed_anew (λ u. context_of (saved_of c.args.frames.now u)) c.args.placed c.args.t (registers_of c.args.regs.now) (registers_of c.args.new)
    (sym c.number.ensures.value ∙ c.if-number.true ∙ c.number-2.ensures.value)

pub returns-else-number-clause-contexts : goal.returns-else-number-clause-contexts
returns-else-number-clause-contexts c =
    saved_anew (saved_of c.args.frames.now) (saved_of c.save.new.self) c.args.placed c.args.t (registers_of c.args.regs.now) (User c.args.new)
    (λ e. c.if-number.false (c.number.ensures.value ∙ e ∙ sym c.number-2.ensures.value)) c.save.ensures.saved
