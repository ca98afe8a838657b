-- The next delivery, where nobody is cancelled.
use Rattle.std.proofs.Common.{◌≡◌, ◌∙◌, ap, sym, refl, ℕ, Bool, true, false, not, ◌&&◌, ◌||◌, Option, None, find}
use Rattle.std.specs.Option.{option_or, option_map}
use Rattle.thread_base.specs.Deliveries.{next_delivery as next_signal}
use Rattle.thread_base.specs.Priority.{tids}
use Rattle.thread_base.proofs.SearchLemmas.{find_nowhere}
use Rattle.posix_model.specs.State.{State, Thread, is_live, takes_back, wait_of, target}
use Rattle.posix_model.specs.Scheduling.{eff}
use Rattle.posix_model.specs.Deliveries.{Acts, next_delivery, gives, is_cancelled, is_free_for, awaited, is_normal, is_cancellation_point}
use Rattle.kernel_state.specs.Executing.{delivery_by}
use Rattle.kernel_state.proofs.ViewLemmas.{IsPlain, IsPlainState}

and_nothing : (b : Bool) → b && false ≡ false
and_nothing true = refl
and_nothing false = refl

-- no cancellation acts on a plain thread
pub not_cancelled : (thread : Thread) → IsPlain thread → is_cancelled thread ≡ false
not_cancelled thread plain =
    let more : Bool =
    thread.cancellation.enabled
    && (is_normal thread.phase && (not (takes_back (wait_of thread.standing)) && (thread.cancellation.asynchronous || is_cancellation_point (target thread.standing)))) in
    ap (λ b. is_live thread.standing && (b && more)) plain.kept ∙ and_nothing (is_live thread.standing)

-- the next delivery is that of a signal
pub next_given : (s : State) (o : Option (ℕ × ℕ × Bool)) → IsPlainState s → o ≡ next_signal (awaited s) (is_free_for s) s.pending (eff s) → next_delivery s ≡ delivery_by o
unfolding next_delivery tids
next_given s o plain is =
    let nobody : find (λ t. is_cancelled (s.threads t)) tids ≡ None = find_nowhere (λ t. is_cancelled (s.threads t)) 1 64 (λ t. not_cancelled (s.threads t) (plain.threads t)) in
    let same = sym is in
    (λ i. option_or (option_map Acts (nobody i)) (option_map gives (same i)))
