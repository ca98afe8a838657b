use Rattle.std.proofs.Common.{sym, subst}
use Rattle.posix_model.specs.Calls.{Called, told_call, row_of, signal_calls}
use Rattle.posix_model.proofs.TableLemmas.{signal_row}
use Rattle.kernel_state.specs.View.{view}
use Rattle.kernel_state.specs.Begun.{IsBegun, arguments_of}
use Rattle.calls_signal.proofs.beginning.begin.Goals as goal

pub returns : goal.returns
returns g c =
    let order = g.R.Ready.order in
    let k = c.args.k.now in
    let s = view order k.tables in
    let t = c.args.t in
    let a = arguments_of c.args.args in
    subst (λ (x : Called). IsBegun order k c.begin_row.new.k (told_call t c.args.call a x)) (sym (signal_row s t c.args.call a c.requires.here))
    (subst (λ n. IsBegun order k c.begin_row.new.k (told_call t n a (row_of signal_calls n s t a))) c.number.ensures.value c.begin_row.ensures)
