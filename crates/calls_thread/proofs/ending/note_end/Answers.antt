use Rattle.std.proofs.Common.{◌≡◌, ◌∙◌, ap, sym, subst, Some, None}
use Rattle.posix_model.specs.Changes.{Outcome, begun}
use Rattle.posix_model.specs.State.{State}
use Rattle.posix_model.specs.Threads.{joiner}
use Rattle.kernel_state.specs.View.{view}
use Rattle.kernel_state.specs.Changing.{change_by}
use Rattle.kernel_state.specs.Begun.{HasNotedSome, NotesMore}
use Rattle.kernel_state.specs.declared.change.Change.TheVariants.{Thread as OfThread}
use Rattle.kernel_state.specs.declared.change.ThreadChange.TheVariants.{Answer}
use Rattle.kernel_state.specs.declared.tables.Tables.{Tables}
use Rattle.kernel_state.proofs.ViewLemmas.{view_plain}
use Rattle.calls_thread.proofs.EndLemmas.{stripped, noted_stripped, can_answer, can_end, can_end_alone, ended_alone, ended_joined}
use Rattle.calls_thread.proofs.ending.note_end.Goals as goal

pub returns-in-None : goal.returns-in-None
returns-in-None g c =
    let order = g.R.Ready.order in
    let k = c.args.k.now in
    let t = c.args.t in
    let s : State = view order k.tables in
    let noted = noted_stripped order k c.note_orphans.new.k c.note_drops.new.k t c.note_orphans.ensures.noted c.note_drops.ensures.noted in
    let nobody : joiner s t ≡ None = sym (c.joiner-joiner.ensures ∙ ap (λ (x : Tables _). joiner (view order x) t) c.tables.ensures.tables) ∙ c.in-None.is in
    subst (λ (g' : Outcome). HasNotedSome order k c.note_more.new.self g') (ended_alone s t c.args.value nobody)
    (subst (NotesMore order c.note_drops.new.k c.note_more.new.self) c.ended.ensures c.note_more.ensures.noted k (stripped (begun s) t) noted
    (can_end_alone s t c.args.value c.requires.listed (view_plain order k.tables).keys))

pub returns-in-Some : goal.returns-in-Some
returns-in-Some g c =
    let order = g.R.Ready.order in
    let k = c.args.k.now in
    let t = c.args.t in
    let u = c.in-Some.u in
    let s : State = view order k.tables in
    let noted = noted_stripped order k c.note_orphans.new.k c.note_drops.new.k t c.note_orphans.ensures.noted c.note_drops.ensures.noted in
    let found : joiner s t ≡ Some u = sym (c.joiner-joiner.ensures ∙ ap (λ (x : Tables _). joiner (view order x) t) c.tables.ensures.tables) ∙ c.in-Some.is in
    let answered : Outcome = change_by (OfThread u (Answer 0 c.args.value)) (stripped (begun s) t) in
    let first = c.note_more-in-Some.ensures.noted k (stripped (begun s) t) noted (can_answer s t u c.args.value c.requires.good c.requires.listed found) in
    subst (λ (g' : Outcome). HasNotedSome order k c.note_more-in-Some-2.new.self g') (ended_joined s t u c.args.value c.requires.good c.requires.listed found)
    (subst (NotesMore order c.note_more-in-Some.new.self c.note_more-in-Some-2.new.self) c.ended-in-Some.ensures c.note_more-in-Some-2.ensures.noted k answered first.so_far
    (can_end s t u c.args.value c.requires.good c.requires.listed found (view_plain order k.tables).keys))
