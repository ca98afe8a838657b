use Rattle.std.proofs.Common.{◌≡◌, ◌∙◌, ap, sym, refl, subst, arith, ℕ, List, [], ◌∷◌, None}
use Rattle.rv_exec.specs.declared.Special.TheVariants.{Start}
use Rattle.thread_base.specs.Deliveries.{signals}
use Rattle.thread_base.specs.Maps.{put}
use Rattle.thread_base.specs.Priority.{tids}
use Rattle.posix_model.specs.State.{State}
use Rattle.posix_model.specs.Changes.{Outcome}
use Rattle.posix_model.specs.Deliveries.{faulted}
use Rattle.posix_model.specs.Instructions.{returned}
use Rattle.posix_model.specs.Start.{start_state}
use Rattle.posix_model.specs.Weights.{pending_in_all}
use Rattle.kernel_state.specs.Begun.{HasRoom}
use Rattle.kernel_state.specs.View.{view}
use Rattle.calls_thread.proofs.tests.end_after_fault.Goals as goal

-- thread 1 is alone, and the process goes on
abbrev IsLone : Outcome → Type 0
IsLone g = (g.state.over ≡ None) × (g.state.ready ≡ 1 ∷ []) × HasRoom g.state

abbrev after_fault : List ℕ → Outcome
after_fault memory = faulted (start_state memory 0x10000) 1 7

abbrev after_return : List ℕ → Outcome
after_return memory = returned (after_fault memory).state 1 Start

fault_lone : (memory : List ℕ) → IsLone (after_fault memory)
unfolding put pending_in_all signals tids
fault_lone memory = (refl, refl, omega arith)

return_lone : (memory : List ℕ) → IsLone (after_return memory)
unfolding put pending_in_all signals tids
return_lone memory = (refl, refl, omega arith)

is_fault : (s : State) (t sig : ℕ) (memory : List ℕ) → s ≡ start_state memory 0x10000 → t ≡ 1 → sig ≡ 7 → faulted s t sig ≡ after_fault memory
is_fault s t sig memory start first seventh = λ i. faulted (start i) (first i) (seventh i)

is_return : (s : State) (t : ℕ) (memory : List ℕ) → s ≡ (after_fault memory).state → t ≡ 1 → returned s t Start ≡ after_return memory
is_return s t memory after first = λ i. returned (after i) (first i) Start

pub go_on-requires-clause-alone : goal.go_on-requires-clause-alone
go_on-requires-clause-alone g c =
    let start = c.in_ok-k.ensures.start in
    let owed = c.begin_fault.ensures.owed ∙ is_fault (view g.R.Ready.order c.in_ok-k.k.tables) c.at.result c.of.result start.0 start.1 c.at.ensures c.of.ensures in
    subst IsLone (sym owed) (fault_lone start.0)

pub go_on-requires-2-clause-alone : goal.go_on-requires-2-clause-alone
go_on-requires-2-clause-alone g c =
    let start = c.in_ok-k.ensures.start in
    let fault = c.begin_fault.ensures.owed ∙ is_fault (view g.R.Ready.order c.in_ok-k.k.tables) c.at.result c.of.result start.0 start.1 c.at.ensures c.of.ensures in
    let after = c.go_on.ensures.state ∙ ap (λ (x : Outcome). x.state) fault in
    let owed = c.begin_return.ensures.owed ∙ is_return (view g.R.Ready.order c.go_on.new.k.tables) c.at-2.result start.0 after c.at-2.ensures in
    subst IsLone (sym owed) (return_lone start.0)
