use Rattle.std.proofs.Common.{◌≡◌, is_none, ◌+◌}
use Rattle.thread_base.proofs.SearchLemmas.{found_from}
use Rattle.thread_table.specs.Rows.{rows, free_number}
use Rattle.thread_table.proofs.Threads.least_free.Given as goal

abbrev pub invariant-loop-index : goal.invariant-loop-index
invariant-loop-index l = free_number (rows l.self) ≡ found_from (λ t. is_none (rows l.self t)) (l.index + 1)
