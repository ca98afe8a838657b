-- Effective priority of the machine's threads.
use Rattle.std.proofs.Common.{◌≡◌, Some, None}
use Rattle.thread_base.specs.Priority.{AreWithin}
use Rattle.thread_base.proofs.ReachLemmas.{effective_is}
use Rattle.posix_model.specs.State.{State}
use Rattle.posix_model.specs.Scheduling.{own, edge, eff}
use Rattle.posix_model.specs.Laws.{PriorityIsInherited}

edges_within : (s : State) → AreWithin (edge s)
edges_within s t u e = let h : None ≡ Some u = e in absurd (cc)

pub priority_is_inherited : PriorityIsInherited
unfolding eff
priority_is_inherited s t low high = effective_is (own s) (edge s) t (edges_within s) low high
