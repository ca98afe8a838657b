-- What the machine does where no key is there and no thread has a cleanup routine.
use Rattle.std.proofs.Common.{◌≡◌, ◌∙◌, ap, ℕ, [], Option, None}
use Rattle.thread_base.proofs.SearchLemmas.{find_nowhere}
use Rattle.rv_exec.specs.declared.Special.TheVariants.{Cleanup}
use Rattle.posix_model.specs.State.{State, Key, Leaving, no_keys}
use Rattle.posix_model.specs.Leaving.{end_of_thread}
use Rattle.posix_model.specs.Exits.{is_due_in, due_key, by_keys, exit_action, acted}
use Rattle.posix_model.specs.Instructions.{returned, cleanup_returned, told_return}
use Rattle.kernel_state.proofs.ViewLemmas.{IsPlainState}

-- no key has a destructor
no_key : (s : State) (t from : ℕ) → s.keys ≡ no_keys → due_key s t from ≡ None
unfolding due_key
no_key s t from keyless = find_nowhere _ from _ (λ k. ap (λ (m : ℕ → Option Key). is_due_in t (m k)) keyless)

-- in its exit a thread without a frame, and without cleanup routines, ends at once
pub ends_at_once : (s : State) (t value rounds next : ℕ) → IsPlainState s → (s.threads t).frames ≡ [] → (s.threads t).phase ≡ Leaving value rounds next
    → returned s t Cleanup ≡ told_return t Cleanup (end_of_thread s t value)
ends_at_once s t value rounds next plain bare phase =
    (λ i. cleanup_returned s t (bare i) (phase i))
    ∙ (λ i. told_return t Cleanup (acted s t value (exit_action s t ((plain.threads t).cleanups i) rounds next)))
    ∙ (λ i. told_return t Cleanup (acted s t value (by_keys rounds (no_key s t next plain.keys i) (no_key s t 0 plain.keys i))))
