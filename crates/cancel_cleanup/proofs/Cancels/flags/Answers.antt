use Rattle.std.proofs.Common.{◌∙◌, ◌<◌, ap, arith, false, length}
use Rattle.thread_base.proofs.MapLemmas.{numbered_get}
use Rattle.cancel_cleanup.specs.Cancellations.{flags_of, first_flags}
use Rattle.cancel_cleanup.proofs.Cancels.flags.Goals as goal

pub returns : goal.returns
unfolding flags_of
returns c =
    let within : c.index.result < length c.self.inside.flags = omega (arith, c.self.invariant.0) in
    numbered_get first_flags (record { enabled = false; asynchronous = false; pending = false }) c.self.inside.flags c.index.result c.args.t
    c.index.ensures.value within
    ∙ ap (λ v. flags_of v c.args.t) c.self.view_is
