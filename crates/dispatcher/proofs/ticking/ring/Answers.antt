use Rattle.std.proofs.Common.{rules, ◌≡◌, ◌∙◌, ◌+◌, ◌≤◌, ap, sym, subst, arith, Some}
use Rattle.posix_model.specs.State.{State}
use Rattle.kernel_state.specs.View.{view}
use Rattle.kernel_state.specs.Begun.{HasNotedSome, NotesMore}
use Rattle.kernel_state.specs.declared.tables.Tables.{Tables}
use Rattle.kernel_state.proofs.NoteLemmas.{tables_stay}
use Rattle.dispatcher.specs.Arriving.{Comes, CanCome}
use Rattle.dispatcher.specs.Ticking.{rung}
use Rattle.dispatcher.proofs.TickNotes.{goes_off, may_come}
use Rattle.dispatcher.proofs.ticking.ring.Goals as goal

pub returns-clause-noted : goal.returns-clause-noted
returns-clause-noted g c = λ first before noted at few.
    let order = g.R.Ready.order in
    let k = c.args.k.now in
    let s : State = view order k.tables in
    let until = c.in-Some.until in
    let set : s.alarm ≡ Some until = sym (ap (λ (x : Tables _). (view order x).alarm) c.tables.ensures.tables) ∙ sym c.alarm.ensures ∙ c.in-Some.is in
    let now = c.requires.now in
    let passed = c.if-until-now.false in
    let come : until ≤ s.now + 1 = omega (arith, now, passed) in
    let rings : HasNotedSome order first c.note_more.new.self (rung before) =
    subst (NotesMore order k c.note_more.new.self) c.clock.ensures c.note_more.ensures.noted first before noted.so_far tt in
    let same = tables_stay order first c.note_more.new.self (rung before) rings.so_far ∙ sym (tables_stay order first k before noted.so_far) in
    let can : CanCome (view order c.note_more.new.self.tables) 14 1 (rung before) =
    subst (λ (x : Tables _). CanCome (view order x) 14 1 (rung before)) (sym same) (may_come s before at until set few) in
    let signal : Comes order c.note_more.new.self c.note_signal.new.k 14 1 = subst (λ n. Comes order c.note_more.new.self c.note_signal.new.k n 1) (search rules) c.note_signal.ensures.comes in
    subst (HasNotedSome order first c.note_signal.new.k) (goes_off s before at until set come) (signal first (rung before) rings.so_far can)
