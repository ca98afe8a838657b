use Rattle.std.proofs.Common.{◌≡◌, ◌∙◌, ap, sym, refl, subst, arith, ℕ, true, ◌<◌, List, length, take, get_or}
use Rattle.thread_base.specs.Orders.{is_in}
use Rattle.posix_model.specs.State.{State}
use Rattle.posix_model.specs.Changes.{Outcome, begun}
use Rattle.thread_base.specs.Objects.{cond_waiters}
use Rattle.posix_model.specs.Conditions.{wake_all}
use Rattle.kernel_state.specs.View.{view}
use Rattle.kernel_state.specs.Begun.{HasNoted}
use Rattle.kernel_state.specs.declared.tables.Tables.{Tables}
use Rattle.kernel_state.specs.declared.change.Change.{Change}
use Rattle.kernel_state.proofs.NoteLemmas.{noted_none, tables_stay}
use Rattle.calls_sync.proofs.WakeLemmas.{few_cond_waiters, still_waits, stays_there, good_before, waits_on_still, one_more}
use Rattle.calls_sync.proofs.conditions.wake_each.Goals as goal

pub loop-number-init : goal.loop-number-init
loop-number-init g c =
    (noted_none g.R.Ready.order c.args.k.now c.requires.ready.idle c.requires.ready.untold, ap (length {A = Change}) c.requires.ready.idle.rest.none)

pub cond_waiter-u-requires-clause-waits : goal.cond_waiter-u-requires-clause-waits
cond_waiter-u-requires-clause-waits g c =
    let order = g.R.Ready.order in
    let k = c.args.k.now in
    let s : State = view order k.tables in
    let xs : List ℕ = c.args.wake_order.now in
    let i = c.loop-number.number-index in
    let inside : i < length xs = omega arith in
    let tables = tables_stay order k c.loop-number.k (wake_all (begun s) (take i xs)) c.loop-number.invariant.0 in
    subst (λ (x : Tables _). is_in (get_or xs i 0) (cond_waiters ((view order x).conditions c.args.c)) ≡ true) (sym tables)
    (still_waits s c.args.c c.args.m c.requires.ready.good c.requires.bound xs c.requires.all i inside (get_or xs i 0) refl)

pub wake-requires-clause-room : goal.wake-requires-clause-room
wake-requires-clause-room g c =
    let s : State = view g.R.Ready.order c.args.k.now.tables in
    let xs : List ℕ = c.args.wake_order.now in
    let few = few_cond_waiters s c.args.c c.args.m c.requires.ready.good c.requires.bound xs c.requires.all in
    let inside : c.loop-number.number-index < length xs = omega arith in
    let many = c.loop-number.invariant.1 in
    omega (arith, few, inside, many)

pub loop-number-preserved : goal.loop-number-preserved
loop-number-preserved g c =
    let order = g.R.Ready.order in
    let k = c.args.k.now in
    let s : State = view order k.tables in
    let cond = c.args.c in
    let m = c.args.m in
    let xs : List ℕ = c.args.wake_order.now in
    let i = c.loop-number.number-index in
    let inside : i < length xs = omega arith in
    let good = c.requires.ready.good in
    let bound = c.requires.bound in
    let all = c.requires.all in
    let u = c.cond_waiter-u.result in
    let is : u ≡ get_or xs i 0 = c.cond_waiter-u.ensures.number in
    let before : Outcome = wake_all (begun s) (take i xs) in
    let tables = tables_stay order k c.loop-number.k before c.loop-number.invariant.0 in
    let waiting_on = waits_on_still s cond m good bound xs all i inside u is in
    let fine = good_before s cond m good bound xs all i inside u is in
    let more = one_more s cond m good bound xs all i inside u is in
    let same = stays_there s cond m good bound xs all i inside u is ∙ sym (ap (λ (x : Tables _). (view order x).threads u) tables) in
    let woken = c.wake.ensures.noted k before c.loop-number.invariant.0 before.state.now fine waiting_on same in
    let many = c.loop-number.invariant.1 in
    let two = c.wake.ensures.length in (
      subst (λ (x : Outcome). HasNoted order k c.wake.new.self x) more woken.so_far,
      omega (arith, many, two),
    )

pub returns-clause-length : goal.returns-clause-length
returns-clause-length g c =
    let s : State = view g.R.Ready.order c.args.k.now.tables in
    let few = few_cond_waiters s c.args.c c.args.m c.requires.ready.good c.requires.bound c.args.wake_order.now c.requires.all in
    let many = c.loop-number.invariant.1 in
    omega (arith, few, many)
