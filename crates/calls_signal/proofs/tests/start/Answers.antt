use Rattle.std.proofs.Common.{◌≡◌, ap, arith, ℕ, ◌≤◌, List, Result, Ok, Err, IfOk}
use Rattle.posix_model.specs.State.{State}
use Rattle.posix_model.specs.Start.{start_state}
use Rattle.posix_model.specs.Weights.{pending_in_all}
use Rattle.posix_model.proofs.PendingCounts.{all_of, nothing_pends}
use Rattle.kernel_state.specs.View.{view}
use Rattle.calls_signal.proofs.tests.start.Goals as goal

-- nothing pends at the start
none_at_start : (s : State) (memory : List ℕ) (entry : ℕ) → s ≡ start_state memory entry → pending_in_all s ≤ 0
none_at_start s memory entry is =
    let same = ap pending_in_all is in
    let whole = all_of (start_state memory entry) in
    omega (arith, nothing_pends, same, whole)

-- what holds of each value that is so holds of a result
if_ok : {A E : Type 0} {P Q : A → Type 0} (r : Result A E) → ((a : A) → P a → Q a) → IfOk r P → IfOk r Q
if_ok (Ok a) each h = each a h
if_ok (Err e) each h = h

pub returns-clause-none : goal.returns-clause-none
returns-clause-none g c =
    if_ok c.new-2.result (λ k. none_at_start (view g.R.Ready.order k.tables) c.in_ok-memory.memory 65536) c.new-2.ensures.start

pub returns-clause-time : goal.returns-clause-time
returns-clause-time g c =
    if_ok c.new-2.result (λ k is. let none = ap (λ (s : State). s.now) is in omega (arith, none)) c.new-2.ensures.start
