-- The weights of small cases.
use Rattle.std.proofs.Common.{◌≡◌, ◌∙◌, refl, sym, ap, ℕ, eqb, Bool, true, false, List, [], ◌∷◌, Option, Some}
use Rattle.std.proofs.lemmas.Bool.{or_parts}
use Rattle.thread_base.specs.Maps.{put}
use Rattle.thread_base.specs.Orders.{is_in}
use Rattle.thread_base.specs.Priority.{tids, leads, effective}
use Rattle.thread_base.specs.declared.mutex.Holder.{Holder}
use Rattle.thread_base.specs.declared.mutex.Holder.TheVariants.{Held}
use Rattle.thread_base.specs.declared.mutex.Kind.TheVariants.{Normal}
use Rattle.thread_base.proofs.MapLemmas.{put-put}
use Rattle.posix_model.specs.State.{State, Thread, Mutex, is_absent, is_ready, takes_back, wait_of}
use Rattle.posix_model.specs.Changes.{begun}
use Rattle.posix_model.specs.Scheduling.{eff}
use Rattle.posix_model.specs.Calls.{create, yield}
use Rattle.posix_model.specs.ConditionCalls.{cond_broadcast}
use Rattle.posix_model.specs.Leaving.{end_of_thread}
use Rattle.posix_model.specs.MutexCalls.{unlock}
use Rattle.posix_model.specs.SignalCalls.{kill_thread}
use Rattle.posix_model.specs.Examples.{six_threads, with_arguments}
use Rattle.posix_model.specs.MutexExamples.{five_mutexes, mutex_with, on}
use Rattle.posix_model.specs.ConditionExamples.{two_conditions}
use Rattle.run_laws.specs.MoveWeights.{AreChanged}
use Rattle.run_laws.specs.WeightExamples.{YieldWeighs, KillWeighs, HandOverWeighs, BroadcastWeighs, CreateWeighs, EndWeighs, YieldIsMade, HandOverIsMade}
use Rattle.run_laws.proofs.MoveWeightLemmas.{weighs_few}

-- one thread more is changed, whose record passes a test and did not before
one_more : (s r : State) (test : Thread → Bool) (t : ℕ) (ts : List ℕ) → test (s.threads t) ≡ false → test (r.threads t) ≡ true → is_in t ts ≡ false
    → AreChanged s r ts → AreChanged s r (t ∷ ts)
one_more s r test t ts before after once rest = (λ e. (let same : true ≡ false = sym after ∙ ap test e ∙ before in cc), once, rest)

-- a thread stands after its call
is_after : Thread → Bool
is_after x = eqb x.registers.pc 65624

-- a thread waits to have its mutex back
is_woken : Thread → Bool
is_woken x = takes_back (wait_of x.standing)

yielded : State
yielded = (yield six_threads 1 (with_arguments 0 0 0 0)).outcome.state

pub yield_weighs : YieldWeighs
unfolding put yielded is_after
yield_weighs = (
  (1 ∷ [], one_more six_threads yielded is_after 1 [] refl refl refl tt, refl),
  weighs_few six_threads yielded (1 ∷ []) (λ t n. let a = or_parts (eqb t 1) false n in rw a.0 refl),
)

killed : State
killed = (kill_thread six_threads 1 (with_arguments 2 10 0 0)).outcome.state

pub kill_weighs : KillWeighs
unfolding put killed is_after
kill_weighs = (
  (1 ∷ [], one_more six_threads killed is_after 1 [] refl refl refl tt, refl),
  weighs_few six_threads killed (1 ∷ []) (λ t n. let a = or_parts (eqb t 1) false n in rw a.0 refl),
)

handed : State
handed = (on unlock five_mutexes 1 0).outcome.state

pub hand_over_weighs : HandOverWeighs
unfolding put tids leads effective eff handed is_after
hand_over_weighs = (
  (
    1 ∷ 3 ∷ [],
    one_more five_mutexes handed is_after 1 (3 ∷ []) refl refl refl
        (one_more five_mutexes handed is_after 3 [] refl refl refl tt),
    refl,
  ),
  weighs_few five_mutexes handed (1 ∷ 3 ∷ []) (λ t n.
      let a = or_parts (eqb t 1) (is_in t (3 ∷ [])) n in
      let b = or_parts (eqb t 3) false a.1 in
      rw a.0 (rw b.0 refl)),
)

woken : State
woken = (on cond_broadcast two_conditions 1 0).outcome.state

pub broadcast_weighs : BroadcastWeighs
unfolding put tids leads effective eff woken is_after is_woken
broadcast_weighs = (
  (
    1 ∷ 3 ∷ 4 ∷ 5 ∷ [],
    one_more two_conditions woken is_after 1 (3 ∷ 4 ∷ 5 ∷ []) refl refl refl
        (one_more two_conditions woken is_woken 3 (4 ∷ 5 ∷ []) refl refl refl
        (one_more two_conditions woken is_woken 4 (5 ∷ []) refl refl refl
        (one_more two_conditions woken is_woken 5 [] refl refl refl tt))),
    refl,
  ),
  weighs_few two_conditions woken (1 ∷ 3 ∷ 4 ∷ 5 ∷ []) (λ t n.
      let a = or_parts (eqb t 1) (is_in t (3 ∷ 4 ∷ 5 ∷ [])) n in
      let b = or_parts (eqb t 3) (is_in t (4 ∷ 5 ∷ [])) a.1 in
      let c = or_parts (eqb t 4) (is_in t (5 ∷ [])) b.1 in
      let d = or_parts (eqb t 5) false c.1 in
      rw a.0 (rw b.0 (rw c.0 (rw d.0 refl)))),
)

created : State
created = (create six_threads 1 (with_arguments 65796 7 131072 0)).outcome.state

pub create_weighs : CreateWeighs
unfolding put tids created is_after
create_weighs = (
  (
    1 ∷ 7 ∷ [],
    one_more six_threads created is_after 1 (7 ∷ []) refl refl refl
        (one_more six_threads created (λ x. is_ready x.standing) 7 [] refl refl refl tt),
    refl,
  ),
  weighs_few six_threads created (1 ∷ 7 ∷ []) (λ t n.
      let a = or_parts (eqb t 1) (is_in t (7 ∷ [])) n in
      let b = or_parts (eqb t 7) false a.1 in
      rw a.0 (rw b.0 refl)),
)

left : State
left = (end_of_thread six_threads 2 5).state

pub end_weighs : EndWeighs
unfolding put tids left is_after
end_weighs = (
  (
    2 ∷ 4 ∷ [],
    one_more six_threads left (λ x. is_absent x.standing) 2 (4 ∷ []) refl refl refl
        (one_more six_threads left is_after 4 [] refl refl refl tt),
    refl,
  ),
  weighs_few six_threads left (2 ∷ 4 ∷ []) (λ t n.
      let a = or_parts (eqb t 2) (is_in t (4 ∷ [])) n in
      let b = or_parts (eqb t 4) false a.1 in
      rw a.0 (rw b.0 refl)),
)

pub yield_is_made : YieldIsMade
unfolding put
yield_is_made = (begun six_threads, refl, ((refl, refl, refl), (refl, tt)), refl)

-- the mutex that is handed over, before and after its waiter holds it
handed_by : Holder → Option Mutex
handed_by holder = Some (mutex_with Normal holder (4 ∷ 5 ∷ 6 ∷ []))

pub hand_over_is_made : HandOverIsMade
unfolding put tids leads effective eff handed handed_by
hand_over_is_made = (
  begun five_mutexes,
  refl,
  (refl, (refl, ((refl, refl), (refl, tt)))),
  ap (λ (f : ℕ → Option Mutex). record handed { mutexes = f }) (put-put five_mutexes.mutexes 0 (handed_by (Held 1 1)) (handed_by (Held 3 1))),
)
