use Rattle.std.proofs.Common.{◌≡◌, ◌+◌, ◌++◌, drop, length}
use Rattle.std.specs.Prelude.{if◌then◌else◌}
use Rattle.thread_base.specs.Maps.{numbered}
use Rattle.posix_model.specs.Conditions.{insert}
use Rattle.kernel_state.proofs.ConditionLemmas.{to_follow}
use Rattle.kernel_state.proofs.conditions.inserted.Given as goal

abbrev pub invariant-loop-u : goal.invariant-loop-u
invariant-loop-u l =
    (insert (numbered 0 l.levels) l.t l.threads ≡ l.after.items ++ to_follow l.stands (numbered 0 l.levels) l.t (drop l.u-index l.threads))
    × (length l.after.items ≡ l.u-index + (if l.stands then 1 else 0))
