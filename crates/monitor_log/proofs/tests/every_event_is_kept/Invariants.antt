use Rattle.std.proofs.Common.{◌≤◌}
use Rattle.unix_process.specs.declared.UnixEvent.{UnixEvent}
use Rattle.unix_process.specs.Merging.{count_of}
use Rattle.monitor_log.proofs.tests.every_event_is_kept.Given as goal

abbrev pub invariant-loop-number : goal.invariant-loop-number
invariant-loop-number g l = (e : UnixEvent) → count_of e l.log.slots ≤ l.number
