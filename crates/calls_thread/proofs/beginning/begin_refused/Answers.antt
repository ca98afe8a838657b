use Rattle.std.proofs.Common.{subst}
use Rattle.posix_model.specs.Calls.{Called}
use Rattle.posix_model.specs.Good.{IsGood}
use Rattle.posix_model.proofs.GoodMoves.{instructions_keep_good}
use Rattle.posix_model.proofs.TableLemmas.{unknown_row}
use Rattle.kernel_state.specs.View.{view}
use Rattle.kernel_state.specs.Begun.{arguments_of}
use Rattle.kernel_state.proofs.KernelLemmas.{rests, can_note}
use Rattle.kernel_state.proofs.NoteLemmas.{can_start}
use Rattle.calls_thread.proofs.beginning.begin_refused.Goals as goal

pub refuse-reply-requires : goal.refuse-reply-requires
refuse-reply-requires g c = can_note g.R.Ready.order g.R.Ready.prio c.args.k.now c.tables-sound.ensures.sound c.args.t c.requires.ready

pub begin_move-requires : goal.begin_move-requires
begin_move-requires g c =
    let order = g.R.Ready.order in
    let k = c.args.k.now in
    let s = view order k.tables in
    let t = c.args.t in
    let n = c.args.number in
    let a = arguments_of c.args.args in
    let good = (rests order g.R.Ready.prio k c.tables-sound.ensures.sound c.requires.ready.idle.main).0 in
    can_start order k c.refuse-reply.new.self _ c.refuse-reply.ensures.noted
    (subst (λ (x : Called). IsGood x.outcome.state) (unknown_row s t n a c.requires.unknown) ((instructions_keep_good s t good c.requires.ready.first).1 n a))
