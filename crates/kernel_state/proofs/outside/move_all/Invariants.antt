use Rattle.std.proofs.Common.{◌≡◌, ◌<◌, ◌+◌, ◌^◌, length, []}
use Rattle.unix_process.specs.declared.UnixEvent.{UnixEvent}
use Rattle.unix_process.specs.Merging.{count_of}
use Rattle.unix_process.specs.Unix.{UnixState}
use Rattle.monitor_log.specs.Log.{LogState}
use Rattle.kernel_state.specs.Outside.{gathered}
use Rattle.kernel_state.proofs.outside.move_all.Given as goal

abbrev pub invariant-loop-item : goal.invariant-loop-item
invariant-loop-item l = record {
  unix : ◌≡◌ {A = UnixState} (record l.unix { pending = [] }) (record l.fn.unix { pending = [] });
  log : ◌≡◌ {A = LogState} (record l.log { slots = [] }) (record l.fn.log { slots = [] });
  all : gathered l.log.slots l.unix.pending ≡ gathered l.fn.log.slots l.fn.unix.pending;
  fits : (e : UnixEvent) → count_of e l.log.slots + count_of e l.unix.pending < 2 ^ 32;
}

abbrev pub decreases-loop-item : goal.decreases-loop-item
decreases-loop-item l = length l.unix.pending
