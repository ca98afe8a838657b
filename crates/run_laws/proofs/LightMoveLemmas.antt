-- Moves that change no thread.
use Rattle.std.proofs.Common.{◌≡◌, ◌∙◌, refl, sym, ap, subst, inl, inr, ℕ, false, [], Option, Some, None}
use Rattle.std.specs.Prelude.{◌⊎◌, ◌==◌, if◌then◌else◌}
use Rattle.thread_base.specs.Actions.{ignores}
use Rattle.thread_base.specs.Deliveries.{waits_for}
use Rattle.thread_base.specs.Holders.{is_free}
use Rattle.thread_base.specs.declared.Place.{Place}
use Rattle.thread_base.specs.declared.action.Action.{Action}
use Rattle.thread_base.specs.declared.action.Action.TheVariants.{Default, Ignore, Handler}
use Rattle.journal_text.specs.declared.entry.Entry.{Entry}
use Rattle.journal_text.specs.declared.entry.What.{What}
use Rattle.journal_text.specs.declared.entry.What.TheVariants.{Sig}
use Rattle.posix_model.specs.State.{State, Thread, Mutex, Target, Nothing, MutexAt, ConditionAt, ATime, Input, target, wait_of}
use Rattle.posix_model.specs.Arrivals.{dropped, arrive_signal}
use Rattle.posix_model.specs.Changes.{Outcome, begun, set_thread, answer}
use Rattle.posix_model.specs.Conditions.{wake_from, leave}
use Rattle.posix_model.specs.Deliveries.{Delivery, Acts, Gives, next_delivery, deliver, delivered, given, by_action, handled, wait_ended, unqueued, cancelled, set_pending, pend, killed_by, told, awaited}
use Rattle.posix_model.specs.Mutexes.{retake_of, give, requeue}
use Rattle.posix_model.specs.Runs.{Rules, arrived, moved}
use Rattle.posix_model.specs.declared.Head.TheVariants.{Accept}
use Rattle.posix_model.specs.declared.Move.TheVariants.{Arrive}
use Rattle.posix_model.specs.declared.RetakeReply.{RetakeReply}
use Rattle.posix_model.specs.declared.RetakeReply.TheVariants.{Answer, Cancel}
use Rattle.posix_model.specs.declared.Wait.{Wait}
use Rattle.posix_model.specs.declared.Wait.TheVariants.{Join, Mutex as OfMutex, Cond, Reacquire, Signal as OfSignal, Sleep, Read}
use Rattle.posix_model.proofs.PendingLemmas.{either}
use Rattle.run_laws.specs.MoveWeights.{WeighsAtMost, SignalWeighsNothing, EndWeighsNothing}
use Rattle.run_laws.proofs.MoveWeightLemmas.{weighs_few}

-- where the records stay the weight is 0
weighs_nothing : (s r : State) → r.threads ≡ s.threads → WeighsAtMost s r 0
weighs_nothing s r same = weighs_few s r [] (λ t n. ap (λ (f : ℕ → Thread). f t) same)

-- ---- a signal comes

signal_leaves : (g : Outcome) (sig count : ℕ) → (arrive_signal g sig count).state.threads ≡ g.state.threads
signal_leaves g sig count =
    let pending : Outcome = record g { state = pend g.state 0 sig count } in
    let heeded : Outcome = if ignores (g.state.actions sig) sig then dropped g sig count else pending in
    either (λ (o : Outcome). o.state.threads ≡ g.state.threads) (sig == 9) (killed_by sig count g) heeded refl
    (either (λ (o : Outcome). o.state.threads ≡ g.state.threads) (ignores (g.state.actions sig) sig) (dropped g sig count) pending refl refl)

arrival_leaves : (rules : Rules) (s : State) (first count : ℕ) (at : Place) (entry : Entry) (sig : ℕ) (what : What) → what ≡ Sig sig
    → (arrived rules s first count at (Some (record entry { what = what }))).state.threads ≡ s.threads
arrival_leaves rules s first count at entry sig what is =
    subst (λ w. (arrived rules s first count at (Some (record entry { what = w }))).state.threads ≡ s.threads) (sym is) (signal_leaves (begun s) sig count)

pub signal_weighs_nothing : SignalWeighsNothing
signal_weighs_nothing rules now first count at entry sig here is =
    weighs_nothing now.state (moved rules now (Arrive first count at)).state
    (subst (λ o. (arrived rules now.state first count at o).state.threads ≡ now.state.threads) (sym here)
    (arrival_leaves rules now.state first count at entry sig entry.what is))

-- ---- a delivery leaves the records of threads, or the process goes on

over_retaken : (g : Outcome) (m t count : ℕ) (reply : RetakeReply) (o : Option Mutex) → (retake_of g m o t count reply).state.over ≡ g.state.over
over_retaken g m t count reply None = refl
over_retaken g m t count reply (Some mutex) =
    either (λ (o : Outcome). o.state.over ≡ g.state.over) (is_free mutex.holder) (give g m mutex t count reply) (requeue g m mutex t count reply) refl refl

over_woken : (g : Outcome) (t : ℕ) (reply : RetakeReply) (o : Option Wait) → (wake_from g t reply o).state.over ≡ g.state.over
over_woken g t reply None = refl
over_woken g t reply (Some (Join u)) = refl
over_woken g t reply (Some (OfMutex m)) = refl
over_woken g t reply (Some (Cond c m deadline count)) = over_retaken (leave g c t) m t count reply ((leave g c t).state.mutexes m)
over_woken g t reply (Some (Reacquire m other count)) = refl
over_woken g t reply (Some (OfSignal set)) = refl
over_woken g t reply (Some (Sleep until)) = refl
over_woken g t reply (Some (Read buffer size)) = refl

over_unqueued : (s : State) (t : ℕ) (a : Target) → (unqueued s t a).over ≡ s.over
over_unqueued s t (MutexAt m) = refl
over_unqueued s t a = refl

over_cancelled : (s : State) (t : ℕ) (a : Target) → (cancelled s t a).state.over ≡ s.over
over_cancelled s t Nothing = refl
over_cancelled s t (ConditionAt c) =
    let later : State = set_thread s t (record (s.threads t) { cancellation = record (s.threads t).cancellation { enabled = false; pending = false } }) in
    over_woken (begun later) t Cancel (wait_of (later.threads t).standing)
over_cancelled s t a = over_unqueued s t a

over_ended : (g : Outcome) (t : ℕ) (a : Target) → (wait_ended g t a).state.over ≡ g.state.over
over_ended g t Nothing = refl
over_ended g t (ATime until) = refl
over_ended g t (Input buffer size) = refl
over_ended g t a = over_unqueued g.state t (target (g.state.threads t).standing)

over_handled : (s : State) (t sig count at mask : ℕ) (a : Target) → (handled s t sig count at mask a).state.over ≡ s.over
over_handled s t sig count at mask (ConditionAt c) = over_woken (begun s) t (Answer 0) (wait_of (s.threads t).standing)
over_handled s t sig count at mask a = over_ended (begun s) t a

-- a move leaves the records of threads, or how the process ended
LeavesOne : State → State → Type 0
LeavesOne s r = (r.threads ≡ s.threads) ⊎ (r.over ≡ s.over)

action_leaves : (s : State) (t sig count : ℕ) (action : Action) → LeavesOne s (by_action s t sig count action).state
unfolding LeavesOne
action_leaves s t sig count Default = inl refl
action_leaves s t sig count Ignore = inl refl
action_leaves s t sig count (Handler at mask) = inr (over_handled s t sig count at mask (target (s.threads t).standing))

given_leaves : (s : State) (t sig count : ℕ) → LeavesOne s (given s t sig count).state
unfolding LeavesOne
given_leaves s t sig count =
    let accepted : Outcome = told t (Accept t sig count) (answer (begun s) t 0 sig) in
    either (λ (g : Outcome). LeavesOne s g.state) (waits_for (awaited s t) sig) accepted (by_action s t sig count (s.actions sig))
    (inr refl) (action_leaves s t sig count (s.actions sig))

delivery_leaves : (s : State) (o : Option Delivery) → LeavesOne s (delivered s o).state
unfolding LeavesOne
delivery_leaves s None = inl refl
delivery_leaves s (Some (Acts t)) = inr (over_cancelled s t (target (s.threads t).standing))
delivery_leaves s (Some (Gives t sig place)) = given_leaves (set_pending s place sig 0) t sig (s.pending place sig)

pub end_weighs_nothing : EndWeighsNothing
unfolding LeavesOne
end_weighs_nothing rules now ending before after = by (delivery_leaves now.state (next_delivery now.state))
  where
    by : LeavesOne now.state (deliver now.state).state → WeighsAtMost now.state (deliver now.state).state 0
    by (inl same) = weighs_nothing now.state (deliver now.state).state same
    by (inr same) = absurd (let e : None ≡ Some ending = sym before ∙ sym same ∙ after in cc)
