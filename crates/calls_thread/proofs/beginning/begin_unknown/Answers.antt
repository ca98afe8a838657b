use Rattle.std.proofs.Common.{sym, subst}
use Rattle.posix_model.specs.Calls.{Called, told_call}
use Rattle.posix_model.proofs.TableLemmas.{unknown_row}
use Rattle.kernel_state.specs.View.{view}
use Rattle.kernel_state.specs.Begun.{IsBegun, arguments_of}
use Rattle.calls_thread.proofs.beginning.begin_unknown.Goals as goal

pub returns : goal.returns
returns g c =
    let order = g.R.Ready.order in
    let k = c.args.k.now in
    let a = arguments_of c.args.args in
    subst (λ (x : Called). IsBegun order k c.begin_refused.new.k (told_call c.args.t c.args.number a x))
    (sym (unknown_row (view order k.tables) c.args.t c.args.number a c.requires.unknown)) c.begin_refused.ensures
