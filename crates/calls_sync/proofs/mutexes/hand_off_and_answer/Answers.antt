use Rattle.std.proofs.Common.{sym, subst}
use Rattle.posix_model.specs.State.{State}
use Rattle.posix_model.specs.Changes.{Outcome, begun}
use Rattle.posix_model.specs.Mutexes.{best_waiter, hand_off}
use Rattle.kernel_state.specs.View.{view}
use Rattle.kernel_state.specs.Begun.{HasNotedSome}
use Rattle.kernel_state.specs.Changing.{Can, change_by}
use Rattle.kernel_state.specs.declared.change.Change.{Change}
use Rattle.kernel_state.proofs.NoteLemmas.{noted_none}
use Rattle.calls_sync.proofs.MutexLemmas.{leaves_at_first, handed_there}
use Rattle.calls_sync.proofs.mutexes.hand_off_and_answer.Goals as goal

pub returns : goal.returns
returns g c = λ mutex there.
    let order = g.R.Ready.order in
    let k = c.args.k.now in
    let s : State = view order k.tables in
    let m = c.args.m in
    let ready = c.requires.ready in
    let handed : Outcome = hand_off (begun s) m mutex (best_waiter s mutex) in
    let noted = c.hand_off.ensures.noted k (begun s) mutex (noted_none order k ready.idle ready.untold) there (leaves_at_first s m ready.good) in
    subst (λ (x : Change). HasNotedSome order k c.note_more.new.self (change_by x handed)) c.answer.ensures
    (c.note_more.ensures.noted k handed noted.so_far
    (subst (λ (x : Change). Can x handed) (sym c.answer.ensures) (handed_there (begun s) m mutex (best_waiter s mutex) c.args.t ready.listed.0)))
