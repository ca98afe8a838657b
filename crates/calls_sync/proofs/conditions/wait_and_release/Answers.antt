use Rattle.std.proofs.Common.{◌≡◌, ap, sym, subst, arith, Some, true, is_some, length}
use Rattle.posix_model.specs.State.{State}
use Rattle.posix_model.specs.Changes.{Outcome, begun}
use Rattle.posix_model.specs.ConditionCalls.{await_condition}
use Rattle.posix_model.specs.Mutexes.{best_waiter, hand_off}
use Rattle.kernel_state.specs.View.{view}
use Rattle.kernel_state.specs.Begun.{HasNoted, HasNotedSome}
use Rattle.kernel_state.specs.declared.change.Change.{Change}
use Rattle.kernel_state.specs.declared.tables.Tables.{Tables}
use Rattle.kernel_state.specs.Waking.{LeavesMutex}
use Rattle.calls_sync.proofs.WaitLemmas.{entered, tables_entered, waits_so, leaves_at_wait}
use Rattle.calls_sync.proofs.conditions.wait_and_release.Goals as goal

pub hand_off-requires-clause-exists : goal.hand_off-requires-clause-exists
hand_off-requires-clause-exists g c =
    let order = g.R.Ready.order in
    let tables = tables_entered order c.args.k.now c.args.t c.args.c c.args.m c.args.count c.args.deadline c.requires.ready c.requires.exists c.requires.same
    c.note_more.new.self c.note_more.ensures.noted c.note_more-2.new.self c.note_more-2.ensures.noted in
    subst (λ (x : Tables _). is_some ((view order x).mutexes c.args.m) ≡ true) (sym tables) c.requires.there

pub hand_off-requires-clause-room : goal.hand_off-requires-clause-room
hand_off-requires-clause-room g c =
    let none = ap (length {A = Change}) c.requires.ready.idle.rest.none in
    let one = c.note_more.ensures.length in
    let two = c.note_more-2.ensures.length in
    omega (arith, none, one, two)

pub returns : goal.returns
returns g c = λ condition mutex here there often.
    let order = g.R.Ready.order in
    let k = c.args.k.now in
    let s : State = view order k.tables in
    let t = c.args.t in
    let m = c.args.m in
    let ready = c.requires.ready in
    let waiting : Outcome = begun (await_condition s t c.args.c condition m mutex c.args.deadline) in
    let noted = entered order k t c.args.c m c.args.count c.args.deadline ready c.requires.exists c.requires.same
    c.note_more.new.self c.note_more.ensures.noted c.note_more-2.new.self c.note_more-2.ensures.noted in
    let tables = tables_entered order k t c.args.c m c.args.count c.args.deadline ready c.requires.exists c.requires.same
    c.note_more.new.self c.note_more.ensures.noted c.note_more-2.new.self c.note_more-2.ensures.noted in
    let so_far = subst (λ (x : Outcome). HasNoted order k c.note_more-2.new.self x) (waits_so s t c.args.c m c.args.count c.args.deadline condition mutex here often) noted in
    subst (λ (x : Tables _). (view order x).mutexes m ≡ Some mutex → LeavesMutex (view order x) waiting.state m
    → HasNotedSome order k c.hand_off.new.self (hand_off waiting m mutex (best_waiter (view order x) mutex)))
    tables (c.hand_off.ensures.noted k waiting mutex so_far) there
    (leaves_at_wait s t c.args.c m condition mutex c.args.deadline ready.good ready.listed)
