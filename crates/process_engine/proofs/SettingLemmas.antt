-- What pends, and what is good, in the states that the tests of deliveries set up.
use Rattle.std.proofs.Common.{◌≡◌, ◌∙◌, ap, sym, refl, arith, ℕ, ◌+◌, ◌≤◌, true, false, List, Some}
use Rattle.thread_base.specs.Deliveries.{signals}
use Rattle.thread_base.specs.Orders.{without}
use Rattle.thread_base.specs.Priority.{tids}
use Rattle.posix_model.specs.State.{State, Waits, EndOf, MutexAt, ConditionAt, aim, is_target, is_ready}
use Rattle.posix_model.specs.Calls.{call}
use Rattle.posix_model.specs.Changes.{Outcome, begun, await}
use Rattle.posix_model.specs.Good.{standings, IsGood, IsSoundWait}
use Rattle.posix_model.specs.Start.{start_state}
use Rattle.posix_model.specs.Weights.{pending_in_all}
use Rattle.posix_model.specs.declared.Arguments.{Arguments}
use Rattle.posix_model.specs.declared.Wait.{Wait}
use Rattle.posix_model.proofs.StandingLemmas.{ready_live, ready_wants, ready_waits_on}
use Rattle.posix_model.proofs.MutexLemmas.{mutexes_stay}
use Rattle.posix_model.proofs.ConditionLemmas.{conditions_apart}
use Rattle.posix_model.proofs.GoodLemmas.{ready_without, good_asleep}
use Rattle.posix_model.proofs.PendingCalls.{adds_call}
use Rattle.posix_model.proofs.PendingCounts.{all_of}
use Rattle.kernel_state.specs.View.{view}
use Rattle.kernel_state.specs.Begun.{HasNotedSome, IsBegun}
use Rattle.kernel_state.specs.Kernels.{KernelState, owed_by}
use Rattle.kernel_state.specs.declared.tables.Tables.{Tables}
use Rattle.kernel_state.specs.declared.kernel.MainLine.{MainLine}
use Rattle.kernel_state.proofs.NoteLemmas.{begun_by}

-- nothing pends at the start
none_pends : (memory : List ℕ) (entry : ℕ) → pending_in_all (start_state memory entry) ≡ 0
unfolding pending_in_all signals tids
none_pends memory entry = refl

pub start_none : (s : State) (memory : List ℕ) (entry : ℕ) → s ≡ start_state memory entry → pending_in_all s ≤ 0
start_none s memory entry is = let none = ap pending_in_all is ∙ none_pends memory entry in omega (arith, none)

-- a call lets one more pend at most
pub made_most : {R : Type 0} (order : R → List ℕ) (k q : KernelState R) (r : Tables R) (t number made : ℕ) (c : Arguments) → IsBegun order k q (call (view order k.tables) t number c)
    → view order r ≡ (owed_by order q).state → pending_in_all (view order k.tables) ≤ made → pending_in_all (view order r) ≤ made + 1
made_most order k q r t number made c starts finished most =
    let s : State = view order k.tables in
    let before = all_of s in
    let after = all_of (call s t number c).state in
    let adds = (adds_call s t number c).sum in
    let is : pending_in_all (view order r) ≡ pending_in_all (call s t number c).state = ap pending_in_all (finished ∙ ap (λ (g : Outcome). g.state) starts.owed) in
    omega (arith, before, after, adds, is, most)

-- a thread that waits for what no other thread has
module _ (s : State) (t : ℕ) (wait : Wait) where
  await_pends : pending_in_all (await s t wait) ≡ pending_in_all s
  unfolding pending_in_all
  await_pends = refl

  pub good_await : IsGood s → is_ready (standings s t) ≡ true → ((u : ℕ) → is_target (EndOf u) (aim wait) ≡ false) → ((m : ℕ) → is_target (MutexAt m) (aim wait) ≡ false)
      → ((c : ℕ) → is_target (ConditionAt c) (aim wait) ≡ false) → IsSoundWait s.now (Waits wait) → IsGood (await s t wait)
  good_await good ready joins_none wants_none waits_on_none sound =
      good_asleep s t wait (without t s.ready) s.mutexes s.conditions good (good.within t (ready_live (standings s t) ready).0) joins_none
      (ready_without (standings s) t (Waits wait) s.ready refl good.ready)
      (mutexes_stay (standings s) t (Waits wait) s.mutexes good.mutexes (λ m. wants_none m ∙ sym (ready_wants m (standings s t) ready)) (λ m h. refl))
      (conditions_apart (standings s) s.mutexes t (Waits wait) s.conditions waits_on_none (λ c. ready_waits_on c (standings s t) ready) good.conditions)
      sound

-- a wait leaves what pends
pub await_most : {R : Type 0} (order : R → List ℕ) (k q r : KernelState R) (t : ℕ) (wait : Wait) (main : MainLine) (tables : Tables R) → HasNotedSome order k q (begun (await (view order k.tables) t wait))
    → r ≡ record q { main = Some main } → view order tables ≡ (owed_by order r).state → pending_in_all (view order k.tables) ≤ 100 → pending_in_all (view order tables) ≤ 100
await_most order k q r t wait main tables noted told finished most =
    let s : State = view order k.tables in
    let owed = (begun_by order k q (begun (await s t wait)) noted r main told).owed in
    let same : pending_in_all (view order tables) ≡ pending_in_all s = ap pending_in_all (finished ∙ ap (λ (g : Outcome). g.state) owed) ∙ await_pends s t wait in
    omega (arith, same, most)
