use Rattle.std.proofs.Common.{None}
use Rattle.thread_base.proofs.MapLemmas.{numbered_blank}
use Rattle.thread_table.specs.Rows.{rows}
use Rattle.thread_table.proofs.Threads.new.Goals as goal

pub returns : goal.returns
unfolding rows
returns c = numbered_blank None 64
