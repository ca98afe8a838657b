use Rattle.std.proofs.Common.{◌≡◌, sym, subst, true}
use Rattle.posix_model.specs.Threads.{exists}
use Rattle.kernel_state.specs.View.{view}
use Rattle.kernel_state.specs.declared.tables.Tables.{Tables}
use Rattle.kernel_state.proofs.KernelLemmas.{can_note}
use Rattle.calls_thread.proofs.returns.last_frame.Goals as goal

pub top-requires : goal.top-requires
top-requires g c =
    let order = g.R.Ready.order in
    let can = can_note order g.R.Ready.prio c.args.k.now c.tables.ensures.sound c.args.t c.requires in
    subst (λ (x : Tables _). exists (view order x) c.args.t ≡ true) (sym c.tables.ensures.tables) can.listed.0
