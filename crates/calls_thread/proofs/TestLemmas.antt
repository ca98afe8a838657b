-- The start of a run after a small change of thread 1, on which tests go on.
use Rattle.std.proofs.Common.{◌≡◌, ap, sym, subst, ℕ, List, [], ◌∷◌, None}
use Rattle.posix_model.specs.State.{State, Thread}
use Rattle.posix_model.specs.Changes.{set_thread}
use Rattle.posix_model.specs.Good.{IsGood}
use Rattle.posix_model.specs.Start.{start_state}
use Rattle.posix_model.specs.Weights.{pending_in_all}
use Rattle.posix_model.proofs.GoodLemmas.{good_set}
use Rattle.posix_model.proofs.GoodMoves.{goodness}
use Rattle.kernel_state.specs.Begun.{HasRoom}
use Rattle.kernel_state.proofs.StartLemmas.{start_room}

-- a thread that changes leaves what pends, and the time
room_kept : (s : State) (t : ℕ) (thread : Thread) → HasRoom s → HasRoom (set_thread s t thread)
unfolding pending_in_all
room_kept s t thread room = record { pends = room.pends; time = room.time }

module _ (s : State) (memory : List ℕ) (entry : ℕ) (start : s ≡ start_state memory entry) (thread : Thread) where
  pub prepared_good : thread.standing ≡ (s.threads 1).standing → thread.detached ≡ (s.threads 1).detached → IsGood (set_thread s 1 thread)
  prepared_good standing detached = good_set s 1 thread standing detached (subst IsGood (sym start) (goodness.0 memory entry))

  pub prepared_alone : (s.over ≡ None) × (s.ready ≡ 1 ∷ []) × HasRoom (set_thread s 1 thread)
  prepared_alone =
      (ap (λ (x : State). x.over) start, ap (λ (x : State). x.ready) start, room_kept s 1 thread (subst HasRoom (sym start) (start_room memory entry)))
