use Rattle.std.proofs.Common.{◌∙◌, ap, length, length-append, ◌∷◌, []}
use Rattle.kernel_state.proofs.NoteLemmas.{notes_more}
use Rattle.kernel_state.proofs.kernel.Kernel.note_more.Goals as goal

pub returns-clause-noted : goal.returns-clause-noted
returns-clause-noted g c = notes_more g.R.Ready.order c.args.self.now c.note.new.self c.args.change c.requires.room c.note.ensures.noted c.note.ensures.next c.note.ensures.others

pub returns-clause-length : goal.returns-clause-length
returns-clause-length g c = ap length c.note.ensures.noted ∙ length-append c.args.self.now.rest.noted.items (c.args.change ∷ [])
