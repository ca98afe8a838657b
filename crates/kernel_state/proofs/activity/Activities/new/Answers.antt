use Rattle.thread_base.proofs.MapLemmas.{numbered_blank}
use Rattle.kernel_state.specs.Records.{activities_of, no_activity}
use Rattle.kernel_state.proofs.activity.Activities.new.Goals as goal

pub returns : goal.returns
unfolding activities_of
returns c = numbered_blank no_activity 64
