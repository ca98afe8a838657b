-- The small changes of a delivery: they can be made in their turn, and together they are what the machine makes.
use Rattle.std.proofs.Common.{◌≡◌, ◌∙◌, ap, sym, refl, subst, arith, ℕ, ◌+◌, ◌<◌, ◌^◌, Bool, true, false, List, length, Option, Some}
use Rattle.std.specs.Prelude.{if◌then◌else◌}
use Rattle.thread_base.specs.Actions.{ignores}
use Rattle.thread_base.specs.Deliveries.{takes, waits_for}
use Rattle.thread_base.specs.declared.action.Action.TheVariants.{Default}
use Rattle.thread_signals.specs.Counts.{place_of}
use Rattle.posix_model.specs.State.{State, Target, ConditionAt, ASignal, target, set_at, is_at_condition}
use Rattle.posix_model.specs.Changes.{Outcome, begun}
use Rattle.posix_model.specs.Conditions.{wake}
use Rattle.posix_model.specs.Threads.{exists}
use Rattle.posix_model.specs.Good.{IsGood}
use Rattle.posix_model.specs.Deliveries.{next_delivery, deliver, delivered, given, by_action, handled, wait_ended, entering, most_frames, awaited, is_free_for, set_pending, told}
use Rattle.posix_model.specs.Weights.{pending_in_all}
use Rattle.posix_model.specs.declared.Ending.TheVariants.{Killed}
use Rattle.posix_model.specs.declared.Head.{Head}
use Rattle.posix_model.specs.declared.Head.TheVariants.{Deliver, Accept, Interrupt}
use Rattle.posix_model.specs.declared.RetakeReply.TheVariants.{Answer as AnswerReply}
use Rattle.posix_model.proofs.GoodMoves.{deliveries_keep_good}
use Rattle.posix_model.proofs.StandingLemmas.{never, is_something, aiming}
use Rattle.posix_model.proofs.WakeLemmas.{with_threads_of, wake_leaves}
use Rattle.kernel_state.specs.View.{view}
use Rattle.kernel_state.specs.Begun.{HasRoom, HasNoted, NotesMore, CanStart, IsBegun}
use Rattle.kernel_state.specs.Changing.{change_by}
use Rattle.kernel_state.specs.Executing.{delivery_by}
use Rattle.kernel_state.specs.Kernels.{KernelState, IsIdle, IsSoundKernel}
use Rattle.kernel_state.specs.declared.change.Change.TheVariants.{Thread as OfThread, Signal as OfSignal, Over}
use Rattle.kernel_state.specs.declared.change.SignalChange.TheVariants.{Pend, Take}
use Rattle.kernel_state.specs.declared.change.ThreadChange.TheVariants.{Answer, Handle}
use Rattle.kernel_state.specs.declared.kernel.MainLine.TheVariants.{OfThread as ByThread}
use Rattle.kernel_state.specs.declared.tables.Tables.{Tables}
use Rattle.kernel_state.proofs.KernelLemmas.{rests}
use Rattle.kernel_state.proofs.NoteLemmas.{noted_none, tables_stay, can_start, begun_by}
use Rattle.dispatcher.specs.Delivering.{HasTaken, ComesTo, Delivers}
use Rattle.dispatcher.proofs.TakeLemmas.{given_takes, given_heeded, given_taken}
use Rattle.dispatcher.proofs.WaitLemmas.{ended_frames, ended_there}

-- a wake changes nothing of what pends
pends_alike : (s r : State) → pending_in_all (with_threads_of s r) ≡ pending_in_all s
unfolding pending_in_all
pends_alike s r = refl

wake_pends : (s : State) (t : ℕ) → pending_in_all (wake (begun s) t (AnswerReply 0)).state ≡ pending_in_all s
wake_pends s t = ap pending_in_all (wake_leaves (begun s) t (AnswerReply 0)) ∙ pends_alike s (wake (begun s) t (AnswerReply 0)).state

-- who waits for a signal waits for something
awaits_signal : (a : Target) (sig : ℕ) → waits_for (set_at a) sig ≡ true → (set : ℕ) × (a ≡ ASignal set)
awaits_signal (ASignal set) sig h = (set, refl)
awaits_signal a sig h = absurd (never false h refl)

module _ (s : State) (t sig count at mask : ℕ) where
  -- a handler that is entered
  handled_apart : (a : Target) → is_at_condition a ≡ false → told t (Deliver t sig count) (entering (wait_ended (begun s) t a) t sig at mask) ≡ handled s t sig count at mask a
  handled_apart (ConditionAt c) other = absurd (never true refl other)
  handled_apart a other = refl

  -- and one for which the signal waits
  pub handled_later : (c : ℕ) → target (s.threads t).standing ≡ ConditionAt c
      → handled s t sig count 0 0 (ConditionAt c) ≡ handled s t sig count at mask (target (s.threads t).standing)
  handled_later c is = sym (ap (handled s t sig count at mask) is)

module _ {R : Type 0} (order : R → List ℕ) (first : KernelState R) (s : State) (t to sig count : ℕ) (is : to ≡ t) where
  -- a thread enters the handler of a signal
  pub enters : (k q : KernelState R) (at mask : ℕ) → is_at_condition (target (s.threads t).standing) ≡ false → exists s t ≡ true → length (s.threads t).frames < most_frames
      → HasNoted order first k (wait_ended (begun s) t (target (s.threads t).standing)) → NotesMore order k q (OfThread t (Handle sig at mask))
      → ComesTo order first q t (Deliver to sig count) (handled s t sig count at mask (target (s.threads t).standing))
  enters k q at mask other there few noted more =
      let a : Target = target (s.threads t).standing in
      let frames = ended_frames s t a in
      record {
        so_far = entering (wait_ended (begun s) t a) t sig at mask;
        noted = more first (wait_ended (begun s) t a) noted (ended_there s t a there, subst (λ xs. length xs < most_frames) (sym frames) few);
        told = ap (λ n. told t (Deliver n sig count) (entering (wait_ended (begun s) t a) t sig at mask)) is ∙ handled_apart s t sig count at mask a other;
      }

  -- a signal goes back to its thread, which is woken
  pub interrupts : (k q : KernelState R) (c : ℕ) → pending_in_all s + count < 2 ^ 63 → HasNoted order first k (wake (begun s) t (AnswerReply 0))
      → NotesMore order k q (OfSignal sig (Pend (Some t) count)) → ComesTo order first q t (Interrupt to sig count) (handled s t sig count 0 0 (ConditionAt c))
  interrupts k q c room noted more =
      let woken : Outcome = wake (begun s) t (AnswerReply 0) in
      let pends = wake_pends s t in
      record {
        so_far = change_by (OfSignal sig (Pend (Some t) count)) woken;
        noted = more first woken noted (omega (arith, pends, room));
        told = ap (λ n. told t (Interrupt n sig count) (change_by (OfSignal sig (Pend (Some t) count)) woken)) is;
      }

  module _ (k q : KernelState R) (noted : HasNoted order first k (begun s)) where
    -- the process ends
    pub ends : NotesMore order k q (Over (Killed sig)) → ComesTo order first q t (Deliver to sig count) (by_action s t sig count Default)
    ends more = record {
      so_far = change_by (Over (Killed sig)) (begun s);
      noted = more first (begun s) noted tt;
      told = ap (λ n. told t (Deliver n sig count) (change_by (Over (Killed sig)) (begun s))) is;
    }

    -- the thread accepts the signal
    pub accepts : IsGood s → waits_for (awaited s t) sig ≡ true → NotesMore order k q (OfThread t (Answer 0 sig)) → ComesTo order first q t (Accept to sig count) (given s t sig count)
    accepts good waits more =
        let signal = awaits_signal (target (s.threads t).standing) sig waits in
        let live = aiming (s.threads t).standing (ap is_something signal.1) in
        let answered : Outcome = change_by (OfThread t (Answer 0 sig)) (begun s) in
        record {
          so_far = answered;
          noted = more first (begun s) noted (good.ready.listed t ∙ live.0, live.2);
          told = ap (λ n. told t (Accept n sig count) answered) is
              ∙ sym (ap (λ b. if b then told t (Accept t sig count) answered else by_action s t sig count (s.actions sig)) waits);
        }

-- a signal for which the thread does not wait
pub acted : (s : State) (t sig count : ℕ) → waits_for (awaited s t) sig ≡ false → by_action s t sig count (s.actions sig) ≡ given s t sig count
acted s t sig count waits =
    sym (ap (λ b. if b then told t (Accept t sig count) (change_by (OfThread t (Answer 0 sig)) (begun s)) else by_action s t sig count (s.actions sig)) waits)

-- the delivery that is next: its signal was taken
module _ {R : Type 0} (order : R → List ℕ) (prios : R → ℕ → ℕ) (k : KernelState R) (t sig : ℕ) (of_process : Bool) (sound : IsSoundKernel order prios k) (idle : IsIdle k)
    (room : HasRoom (view order k.tables)) (next : next_delivery (view order k.tables) ≡ delivery_by (Some (t, sig, of_process)))
    (place : Option ℕ) (there : place_of place ≡ (if of_process then 0 else t)) (q : KernelState R) (more : NotesMore order k q (OfSignal sig (Take place))) where
  abbrev before : State
  before = view order k.tables

  abbrev origin : ℕ
  origin = if of_process then 0 else t

  abbrev taken : State
  taken = set_pending before origin sig 0

  good : IsGood before
  good = (rests order prios k sound idle.main).0

  taken_noted : HasNoted order k q (begun taken)
  taken_noted =
      subst (λ n. HasNoted order k q (begun (set_pending before n sig 0))) there
      (more k (begun before) (noted_none order k idle (rests order prios k sound idle.main).1) tt).so_far

  tables_taken : k.tables ≡ q.tables
  tables_taken = sym (tables_stay order k q (begun taken) taken_noted)

  pub takes_still : takes (awaited (view order q.tables)) (is_free_for (view order q.tables)) t sig ≡ true
  takes_still =
      subst (λ (x : Tables R). takes (awaited (view order x)) (is_free_for (view order x)) t sig ≡ true) tables_taken
      (given_takes before t sig origin next)

  pub heeded_still : ignores ((view order q.tables).actions sig) sig ≡ false
  heeded_still =
      subst (λ (x : Tables R). ignores ((view order x).actions sig) sig ≡ false) tables_taken
      (given_heeded before t sig origin next good)

  module _ (from : Option ℕ) (same : place_of from ≡ origin) (tables : Tables R) (stay : tables ≡ k.tables) (count : ℕ) (often : count ≡ (view order tables).pending (place_of from) sig)
      (head : Head) (r : KernelState R) (delivers : Delivers order q r t head count (λ s. given s t sig count)) where
    whole : count ≡ before.pending origin sig
    whole = often ∙ (λ i. (view order (stay i)).pending (same i) sig)

    made : ComesTo order k r t head (deliver before)
    made =
        let both = given_taken before t sig origin next good room.pends in
        let fits = both.1 in
        let all = whole in
        subst (ComesTo order k r t head) (ap (given taken t sig) whole ∙ sym (ap (delivered before) next))
        (delivers k taken taken_noted (subst (λ (x : Tables R). HasTaken (view order x) taken) tables_taken both.0) (omega (arith, fits, all)))

    pub can_begin : CanStart order r
    can_begin = can_start order k r made.so_far made.noted (subst (λ (x : Outcome). IsGood x.state) (sym made.told) (deliveries_keep_good before good))

    pub is_begun : (after : KernelState R) → after ≡ record r { main = Some (ByThread t head) } → IsBegun order k after (deliver before)
    is_begun after begun = subst (IsBegun order k after) made.told (begun_by order k r made.so_far made.noted after (ByThread t head) begun)
