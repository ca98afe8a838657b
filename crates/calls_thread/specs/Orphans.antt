-- The mutexes of a thread that ends.
use Rattle.std.specs.Prelude.{ℕ}
use Rattle.posix_model.specs.State.{State}
use Rattle.posix_model.specs.Mutexes.{orphaned}

-- the mutexes that a thread has are orphans (POSIX.1 mutexes, not robust)
abbrev pub with_orphans : State → ℕ → State
with_orphans s t = record s { mutexes = orphaned t s.mutexes }
