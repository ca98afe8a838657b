use Rattle.std.proofs.Common.{rules, ◌≡◌, ◌∙◌, ap, sym, subst, Some}
use Rattle.posix_model.specs.declared.Wait.TheVariants.{Join, Mutex as OfMutex, Signal as OfSignal, Sleep, Read}
use Rattle.kernel_state.specs.View.{view}
use Rattle.kernel_state.specs.Begun.{NotesMore}
use Rattle.kernel_state.specs.declared.tables.Tables.{Tables}
use Rattle.dispatcher.proofs.WaitLemmas.{waits_still, same_time, join_ends, signal_ends, mutex_ends, sleep_ends, read_ends}
use Rattle.dispatcher.proofs.delivery.end_wait.Goals as goal

pub returns-in-Some-Join-clause-noted : goal.returns-in-Some-Join-clause-noted
returns-in-Some-Join-clause-noted g c = λ first s noted taken.
    let order = g.R.Ready.order in
    let k = c.args.k.now in
    let t = c.args.t in
    let has : c.args.wait ≡ Some (Join c.in-Some-Join.field-0-0) = search rules in
    let waits = waits_still (view order k.tables) s t (Join c.in-Some-Join.field-0-0) taken (sym c.requires.wait ∙ has) in
    let q = c.note_more.new.self in
    join_ends order first k s t noted taken.good q (subst (NotesMore order k q) c.resumed.ensures c.note_more.ensures.noted) _ waits

pub returns-in-Some-Signal-clause-noted : goal.returns-in-Some-Signal-clause-noted
returns-in-Some-Signal-clause-noted g c = λ first s noted taken.
    let order = g.R.Ready.order in
    let k = c.args.k.now in
    let t = c.args.t in
    let has : c.args.wait ≡ Some (OfSignal c.in-Some-Signal.field-0-0) = search rules in
    let waits = waits_still (view order k.tables) s t (OfSignal c.in-Some-Signal.field-0-0) taken (sym c.requires.wait ∙ has) in
    let q = c.note_more-in-Some-Signal.new.self in
    signal_ends order first k s t noted taken.good q (subst (NotesMore order k q) c.resumed-in-Some-Signal.ensures c.note_more-in-Some-Signal.ensures.noted) _ waits

pub returns-in-Some-Mutex-clause-noted : goal.returns-in-Some-Mutex-clause-noted
returns-in-Some-Mutex-clause-noted g c = λ first s noted taken.
    let order = g.R.Ready.order in
    let k = c.args.k.now in
    let t = c.args.t in
    let has : c.args.wait ≡ Some (OfMutex c.in-Some-Mutex.m) = search rules in
    let waits = waits_still (view order k.tables) s t (OfMutex c.in-Some-Mutex.m) taken (sym c.requires.wait ∙ has) in
    let q = c.note_more-in-Some-Mutex.new.self in
    let r = c.note_more-in-Some-Mutex-2.new.self in
    mutex_ends order first k s t noted taken.good c.in-Some-Mutex.m waits q r c.note_more-in-Some-Mutex.ensures.noted
    (subst (NotesMore order q r) c.resumed-in-Some-Mutex.ensures c.note_more-in-Some-Mutex-2.ensures.noted)

pub returns-in-Some-Sleep-clause-noted : goal.returns-in-Some-Sleep-clause-noted
returns-in-Some-Sleep-clause-noted g c = λ first s noted taken.
    let order = g.R.Ready.order in
    let k = c.args.k.now in
    let t = c.args.t in
    let has : c.args.wait ≡ Some (Sleep c.in-Some-Sleep.until) = search rules in
    let waits = waits_still (view order k.tables) s t (Sleep c.in-Some-Sleep.until) taken (sym c.requires.wait ∙ has) in
    let q = c.note_more-in-Some-Sleep.new.self in
    let now = c.ticks.ensures ∙ ap (λ (x : Tables _). (view order x).now) c.tables.ensures.tables ∙ sym (same_time (view order k.tables) s taken) in
    sleep_ends order first k s t noted taken.good c.in-Some-Sleep.until c.ticks.result waits now q
    (subst (NotesMore order k q) c.interrupted.ensures c.note_more-in-Some-Sleep.ensures.noted)

pub returns-in-Some-Read-clause-noted : goal.returns-in-Some-Read-clause-noted
returns-in-Some-Read-clause-noted g c = λ first s noted taken.
    let order = g.R.Ready.order in
    let k = c.args.k.now in
    let t = c.args.t in
    let has : c.args.wait ≡ Some (Read c.in-Some-Read.field-0-0 c.in-Some-Read.field-0-1) = search rules in
    let waits = waits_still (view order k.tables) s t (Read c.in-Some-Read.field-0-0 c.in-Some-Read.field-0-1) taken (sym c.requires.wait ∙ has) in
    let q = c.note_more-in-Some-Read.new.self in
    read_ends order first k s t noted taken.good c.in-Some-Read.field-0-0 c.in-Some-Read.field-0-1 waits q
    (subst (NotesMore order k q) c.interrupted-in-Some-Read.ensures c.note_more-in-Some-Read.ensures.noted)
