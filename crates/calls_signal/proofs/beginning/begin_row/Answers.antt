use Rattle.std.proofs.Common.{subst, arith}
use Rattle.std.proofs.lemmas.Grind.{common_steps}
use Rattle.posix_model.specs.Calls.{Called, row_of, signal_calls}
use Rattle.posix_model.specs.declared.Arguments.{Arguments}
use Rattle.posix_model.specs.Good.{IsGood}
use Rattle.posix_model.proofs.GoodMoves.{instructions_keep_good}
use Rattle.posix_model.proofs.TableLemmas.{signal_row}
use Rattle.kernel_state.specs.View.{view}
use Rattle.kernel_state.proofs.KernelLemmas.{rests, can_note}
use Rattle.kernel_state.proofs.NoteLemmas.{can_start}
use Rattle.calls_signal.proofs.BeginLemmas.{begun_call}
use Rattle.calls_signal.proofs.beginning.begin_row.Goals as goal

pub row-reply-requires : goal.row-reply-requires
row-reply-requires g c = can_note g.R.Ready.order g.R.Ready.prio c.args.k.now c.tables-sound.ensures.sound c.args.t c.requires.ready

pub begin_move-requires : goal.begin_move-requires
begin_move-requires g c =
    let order = g.R.Ready.order in
    let k = c.args.k.now in
    let s = view order k.tables in
    let t = c.args.t in
    let n = c.args.number in
    let a = c.arguments_from.result in
    let good = (rests order g.R.Ready.prio k c.tables-sound.ensures.sound c.requires.ready.idle.main).0 in
    let row = (instructions_keep_good s t good c.requires.ready.first).1 n a in
    can_start order k c.row-reply.new.k _ c.row-reply.ensures.noted (subst (λ (x : Called). IsGood x.outcome.state) (signal_row s t n a c.requires.here) row)

pub returns : goal.returns
returns g c =
    let order = g.R.Ready.order in
    let k = c.args.k.now in
    let row : Arguments → Called = row_of signal_calls c.args.number (view order k.tables) c.args.t in
    begun_call order k c.row-reply.new.k c.begin_move.new.self c.args.t c.args.number c.args.args row
    c.arguments_from.result c.row-reply.result c.arguments_from.ensures c.row-reply.ensures.noted c.row-reply.ensures.reply (grind (arith, common_steps)) c.begin_move.ensures
