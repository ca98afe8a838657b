use Rattle.thread_base.proofs.MapLemmas.{numbered_blank}
use Rattle.cancel_cleanup.specs.Cancellations.{flags_of, first_flags}
use Rattle.cancel_cleanup.proofs.Cancels.new.Goals as goal

pub returns-clause-flags : goal.returns-clause-flags
unfolding flags_of
returns-clause-flags c = numbered_blank first_flags 64
