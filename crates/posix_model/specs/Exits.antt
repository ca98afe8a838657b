-- What a thread does in its exit, one action after another (POSIX.1 pthread_exit, pthread_key_create).
use Rattle.std.specs.Prelude.{ℕ, ◌+◌, ◌-◌, ◌==◌, ◌&&◌, Bool, false, not, if◌then◌else◌, nat_lt, find, List, [], ◌∷◌, Option, Some, None}
use Rattle.std.specs.List.{range_with_len}
use Rattle.thread_base.specs.Maps.{put}
use Rattle.thread_base.specs.declared.frame.Cleanup.{Cleanup}
use Rattle.posix_model.specs.State.{State, Key, Leaving}
use Rattle.posix_model.specs.Changes.{Outcome, begun, set_thread, cleanup_return, called_at}
use Rattle.posix_model.specs.Leaving.{end_of_thread}

-- a key has a destructor and a value of the thread that is not 0
abbrev pub is_due_in : ℕ → Option Key → Bool
is_due_in t None = false
is_due_in t (Some key) = not (key.destructor == 0) && not (key.values t == 0)

-- the least key from a number on whose destructor is due for a thread
unfoldable pub due_key : State → ℕ → ℕ → Option ℕ
due_key s t from = find (λ k. is_due_in t (s.keys k)) (range_with_len from (128 - from))

-- what a thread does next in its exit
pub data ExitAction : Type 0 where
  RunCleanup : (cleanup : Cleanup) (others : List Cleanup) → ExitAction
  Destroy : (key rounds : ℕ) → ExitAction
  Finish : ExitAction

-- a key of this round is due; else, where fewer than four rounds have ended with this one, one of a new round; else the
-- thread ends (POSIX.1 PTHREAD_DESTRUCTOR_ITERATIONS)
abbrev pub by_keys : ℕ → Option ℕ → Option ℕ → ExitAction
by_keys rounds (Some k) first = Destroy k rounds
by_keys rounds None (Some k) = if nat_lt (rounds + 1) 4 then Destroy k (rounds + 1) else Finish
by_keys rounds None None = Finish

-- the last cleanup routine comes first, then the keys
abbrev pub exit_action : State → ℕ → List Cleanup → ℕ → ℕ → ExitAction
exit_action s t (cleanup ∷ others) rounds next = RunCleanup cleanup others
exit_action s t [] rounds next = by_keys rounds (due_key s t next) (due_key s t 0)

-- a cleanup routine is taken off the list and called
abbrev pub run_cleanup : State → ℕ → Cleanup → List Cleanup → State
run_cleanup s t cleanup others = set_thread s t (record (s.threads t) {
  cleanups = others;
  registers = called_at (s.threads t).registers cleanup.routine cleanup.arg cleanup_return;
})

-- a destructor is called with the value that its key had, and the key has none any more
abbrev pub destroy_in : State → ℕ → ℕ → ℕ → ℕ → Option Key → State
destroy_in s t value k rounds None = s
destroy_in s t value k rounds (Some key) = record (set_thread s t (record (s.threads t) {
  phase = Leaving value rounds (k + 1);
  registers = called_at (s.threads t).registers key.destructor (key.values t) cleanup_return;
})) { keys = put s.keys k (Some (record key { values = put key.values t 0 })) }

-- an exit action of a thread that leaves with a value
abbrev pub acted : State → ℕ → ℕ → ExitAction → Outcome
acted s t value (RunCleanup cleanup others) = begun (run_cleanup s t cleanup others)
acted s t value (Destroy k rounds) = begun (destroy_in s t value k rounds (s.keys k))
acted s t value Finish = end_of_thread s t value

-- the next exit action of a thread
abbrev pub next_exit_action : State → ℕ → ℕ → ℕ → ℕ → Outcome
next_exit_action s t value rounds next = acted s t value (exit_action s t (s.threads t).cleanups rounds next)
