-- The exit of a thread and its end (POSIX.1 pthread_exit, pthread_join).
use Rattle.std.specs.Prelude.{ℕ, ◌+◌, true, if◌then◌else◌, List, map, Option, Some, None, slice_index}
use Rattle.thread_base.specs.Maps.{put}
use Rattle.thread_base.specs.Orders.{without}
use Rattle.posix_model.specs.State.{State, Thread, Ended, Key, no_thread}
use Rattle.posix_model.specs.Changes.{Outcome, begun, set_thread, in_exit, exiting, answer}
use Rattle.posix_model.specs.Threads.{joiner, some_live}
use Rattle.posix_model.specs.Mutexes.{orphaned}
use Rattle.posix_model.specs.Lines.{sig_numbers}
use Rattle.posix_model.specs.declared.Report.{Report}
use Rattle.posix_model.specs.declared.Ending.TheVariants.{Exit}

-- a thread starts its exit with a value; it stays ready
abbrev pub start_exit : State → ℕ → ℕ → State
start_exit s t value = set_thread s t (in_exit (s.threads t) value)

-- a thread exits, outside its exit or within it; it stays ready
abbrev pub exit_with : State → ℕ → ℕ → State
exit_with s t value = set_thread s t (exiting (s.threads t).phase (s.threads t) value)

-- who waits for the end of a thread is answered its value
abbrev pub answer_joiner : Outcome → ℕ → Option ℕ → Outcome
answer_joiner g value None = g
answer_joiner g value (Some u) = answer g u 0 value

-- what is left at the number of a thread that ended: its value, where nobody has got it and somebody may
abbrev pub remains : Thread → ℕ → Option ℕ → Thread
remains thread value None = if thread.detached then no_thread else record thread { standing = Ended value }
remains thread value (Some u) = no_thread

-- a key without the value of a thread
abbrev pub cleared_in : ℕ → Option Key → Option Key
cleared_in t None = None
cleared_in t (Some key) = Some (record key { values = put key.values t 0 })

-- a thread is gone from the ready list, the mutexes that it has are orphans, what pends on it is dropped, and it has
-- no values of keys
abbrev pub without_thread : State → ℕ → Thread → State
without_thread s t left = record s {
  threads = put s.threads t left;
  ready = without t s.ready;
  mutexes = orphaned t s.mutexes;
  keys = λ k. cleared_in t (s.keys k);
  pending = put s.pending t (λ sig. 0);
}

-- where no thread is left that has not ended, the process exits with 0
abbrev pub over_with_last : State → State
over_with_last s = if some_live s then s else record s { over = Some (Exit 0) }

-- the counts of a table by signal, each with some more
abbrev pub plus_each : List ℕ → (ℕ → ℕ) → List ℕ
plus_each counts more = map (λ sig. slice_index counts sig + more sig) sig_numbers

-- it is told that a thread ended with a value, and what was dropped with it
abbrev pub with_end : Report → (ℕ → ℕ) → ℕ → Report
with_end report dropped value = record report { gone = true; gone_value = value; drops = plus_each report.drops dropped }

-- a thread ends, after the answer to its joiner
abbrev pub ended : Outcome → ℕ → Thread → (ℕ → ℕ) → ℕ → Outcome
ended g t left dropped value = record { state = over_with_last (without_thread g.state t left); report = with_end g.report dropped value }

-- the end of a thread with a value, by who waits for it (POSIX.1 pthread_join)
abbrev pub end_with : State → ℕ → ℕ → Option ℕ → Outcome
end_with s t value who = ended (answer_joiner (begun s) value who) t (remains (s.threads t) value who) (s.pending t) value

-- the end of a thread with a value
abbrev pub end_of_thread : State → ℕ → ℕ → Outcome
end_of_thread s t value = end_with s t value (joiner s t)
