-- The small changes of a tick are noted one after another.
use Rattle.std.proofs.Common.{◌≡◌, ◌∙◌, ap, sym, refl, subst, arith, ℕ, ◌+◌, ◌-◌, ◌*◌, ◌^◌, ◌≤◌, ◌<◌, Bool, true, false, find, List, length, Option, Some, None, is_some}
use Rattle.std.specs.Prelude.{if◌then◌else◌, nat_le, slice_index}
use Rattle.std.specs.List.{range_with_len}
use Rattle.std.proofs.lemmas.Bool.{le-leb}
use Rattle.std.proofs.lemmas.List.{get_or-replicate}
use Rattle.thread_base.proofs.SearchLemmas.{find_passes, find_member, range_in}
use Rattle.posix_model.specs.State.{State, Thread, Waits, target, wait_of, deadline_by, is_ready, is_live}
use Rattle.posix_model.specs.Arrivals.{arrive_signal, has_turn, charge_to, charge, has_come, expire_at, expire_all, ring, tick}
use Rattle.posix_model.specs.Changes.{Outcome, begun, set_thread, to_end}
use Rattle.posix_model.specs.Good.{IsGood}
use Rattle.posix_model.specs.Reports.{nothing_told}
use Rattle.posix_model.specs.Scheduling.{chosen}
use Rattle.posix_model.specs.Weights.{pending_in_all}
use Rattle.posix_model.specs.declared.Wait.TheVariants.{Sleep}
use Rattle.kernel_state.specs.View.{view}
use Rattle.kernel_state.specs.Begun.{HasNotedSome, NotesMore}
use Rattle.kernel_state.specs.Kernels.{KernelState, IsIdle}
use Rattle.kernel_state.specs.declared.change.Change.{Change}
use Rattle.kernel_state.specs.declared.change.Change.TheVariants.{Thread as OfThread, Clock as OfClock}
use Rattle.kernel_state.specs.declared.change.ClockChange.TheVariants.{Advance}
use Rattle.kernel_state.specs.declared.change.ThreadChange.TheVariants.{Answer}
use Rattle.kernel_state.specs.declared.tables.Tables.{Tables}
use Rattle.kernel_state.proofs.NoteLemmas.{noted_none, tables_stay}
use Rattle.dispatcher.specs.Arriving.{CanCome}
use Rattle.dispatcher.specs.Ticking.{later, is_late, late_from, IsInTick, AreStillWaiting, Charges, Expires, ExpiresAll, Rings, rung}
use Rattle.dispatcher.proofs.TickLemmas.{first_late, same_now, one_ended, none_late, charged_still, tick_is}

-- a sleep is answered
pub sleep_expires : {R : Type 0} (order : R → List ℕ) (k q : KernelState R) (t until : ℕ) → ((view order k.tables).threads t).standing ≡ Waits (Sleep until)
    → NotesMore order k q (OfThread t (Answer 0 0)) → Expires order k q t
sleep_expires order k q t until waits more first g noted good same =
    let is : (g.state.threads t).standing ≡ Waits (Sleep until) = ap (λ (x : Thread). x.standing) same ∙ waits in
    subst (λ st. HasNotedSome order first q (expire_at g t (target st))) (sym is)
    (more first g noted.so_far (good.ready.listed t ∙ ap is_ready is, ap is_live is))

some_come : (now : ℕ) (o : Option ℕ) → has_come now o ≡ true → is_some o ≡ true
some_come now None h = let e : false ≡ true = h in absurd (cc)
some_come now (Some until) h = refl

-- that the waits of the threads below a number end whose time has come was noted
abbrev pub ExpiresBelow : {R : Type 0} → (R → List ℕ) → KernelState R → KernelState R → ℕ → Type 0
ExpiresBelow order k q from =
    (first : KernelState _) (g : Outcome) → HasNotedSome order first k g → AreStillWaiting (view order k.tables) 1 g
    → (h : Outcome) × HasNotedSome order first q h × AreStillWaiting (view order k.tables) from h
    × (expire_all h (late_from (view order k.tables) from) ≡ expire_all g (late_from (view order k.tables) 1))

-- the same, with its number and how many small changes were noted
abbrev pub HasExpiredBelow : {R : Type 0} → (R → List ℕ) → KernelState R → KernelState R → ℕ → Type 0
HasExpiredBelow order k q from =
    (1 ≤ from) × (from ≤ 65) × (q.main ≡ None) × (length q.rest.noted.items ≤ length k.rest.noted.items + 2 * (from - 1)) × ExpiresBelow order k q from

module _ {R : Type 0} (order : R → List ℕ) (k : KernelState R) where
  pub expires_none : k.main ≡ None → HasExpiredBelow order k k 1
  expires_none idle = (omega arith, omega arith, idle, omega arith, λ first g noted still. (g, noted, still, refl))

  module _ (q : KernelState R) (tables : Tables R) (from now : ℕ) (before : HasExpiredBelow order k q from) (are : tables ≡ q.tables) (at : now ≡ (view order k.tables).now + 1) where
    -- the time of a thread's wait has come, by the tables
    abbrev has_ended : ℕ → Bool
    has_ended u = has_come now (deadline_by (wait_of ((view order tables).threads u).standing))

    module _ (first : KernelState R) (g : Outcome) (noted : HasNotedSome order first k g) (still : AreStillWaiting (view order k.tables) 1 g) where
      stay : tables ≡ k.tables
      stay =
          let past = before.4 first g noted still in
          are ∙ tables_stay order first q past.0 past.1.so_far ∙ sym (tables_stay order first k g noted.so_far)

      search_here : find has_ended (range_with_len from (65 - from)) ≡ find (is_late (view order k.tables)) (range_with_len from (65 - from))
      search_here = λ i. find (λ u. has_come (at i) (deadline_by (wait_of ((view order (stay i)).threads u).standing))) (range_with_len from (65 - from))

    module _ (t : ℕ) (found : find (λ u. has_come now (deadline_by (wait_of ((view order tables).threads u).standing))) (range_with_len from (65 - from)) ≡ Some t) where
      pub expires_within : (from ≤ t) × (t < 65)
      expires_within =
          let range = range_in from (65 - from) t (find_member has_ended (range_with_len from (65 - from)) t found) in
          let high = range.1 in
          let limit = before.1 in
          (range.0, omega (arith, high, limit))

      pub expires_timed : is_some (deadline_by (wait_of ((view order tables).threads t).standing)) ≡ true
      expires_timed = some_come now (deadline_by (wait_of ((view order tables).threads t).standing)) (find_passes has_ended (range_with_len from (65 - from)) t found)

      pub expires_more : (r : KernelState R) → Expires order q r t → ExpiresBelow order k r (t + 1)
      expires_more r more first g noted still =
          let s : State = view order k.tables in
          let past = before.4 first g noted still in
          let h : Outcome = past.0 in
          let there : view order q.tables ≡ s = ap (view order) (sym are ∙ stay first g noted still) in
          let found_here : find (is_late s) (range_with_len from (65 - from)) ≡ Some t = sym (search_here first g noted still) ∙ found in
          let good = subst (λ (x : State). IsGood (record h.state { now = x.now })) (sym there) past.2.good in
          let same = same_now s from t before.1 found_here h past.2 ∙ ap (λ (x : State). x.threads t) (sym there) in (
            expire_at h t (target (h.state.threads t).standing),
            more first h past.1 good same,
            one_ended s from t before.1 found_here h past.2,
            ap (expire_all h) (sym (first_late s from t before.1 found_here)) ∙ past.3,
          )

    -- and then none is left
    pub expires_all : find (λ u. has_come now (deadline_by (wait_of ((view order tables).threads u).standing))) (range_with_len from (65 - from)) ≡ None → ExpiresAll order k q
    expires_all none first g noted still =
        let s : State = view order k.tables in
        let past = before.4 first g noted still in
        let none_here : find (is_late s) (range_with_len from (65 - from)) ≡ None = sym (search_here first g noted still) ∙ none in
        let ended : past.0 ≡ expire_all g (late_from s 1) = ap (expire_all past.0) (sym (none_late s from none_here)) ∙ past.3 in
        (subst (HasNotedSome order first q) ended past.1, subst (IsInTick s) ended past.2.others)

-- ---- who is charged

module _ (quantum : ℕ) (s : State) where
  pub nobody_charged : chosen s ≡ None → later s ≡ charge quantum (later s) (chosen s)
  nobody_charged none = sym (ap (charge quantum (later s)) none)

  module _ (t : ℕ) (is : chosen s ≡ Some t) where
    pub not_charged : has_turn (s.threads t).policy ≡ false → later s ≡ charge quantum (later s) (chosen s)
    not_charged free = sym (ap (charge quantum (later s)) is ∙ ap (λ b. if b then charge_to quantum (later s) t else later s) free)

    module _ (turn : has_turn (s.threads t).policy ≡ true) where
      charged : charge quantum (later s) (chosen s) ≡ charge_to quantum (later s) t
      charged = ap (charge quantum (later s)) is ∙ ap (λ b. if b then charge_to quantum (later s) t else later s) turn

      pub charged_last : nat_le quantum ((s.threads t).used + 1) ≡ true → to_end (later s) t ≡ charge quantum (later s) (chosen s)
      charged_last spent =
          sym (charged ∙ ap (λ b. if b then to_end (later s) t else set_thread (later s) t (record (s.threads t) { used = (s.threads t).used + 1 })) spent)

      pub charged_more : nat_le quantum ((s.threads t).used + 1) ≡ false
          → set_thread (later s) t (record (s.threads t) { used = (s.threads t).used + 1 }) ≡ charge quantum (later s) (chosen s)
      charged_more spent =
          sym (charged ∙ ap (λ b. if b then to_end (later s) t else set_thread (later s) t (record (s.threads t) { used = (s.threads t).used + 1 })) spent)

-- ---- the alarm

module _ (s : State) (g : Outcome) (at : IsInTick s g) where
  module _ (until : ℕ) (set : s.alarm ≡ Some until) where
    has : (b : Bool) → nat_le until (s.now + 1) ≡ b → ring g ≡ (if b then arrive_signal (rung g) 14 1 else g)
    has b is =
        ap (λ o. if has_come g.state.now o then arrive_signal (rung g) 14 1 else g) (at.alarm ∙ set)
        ∙ ap (λ n. if nat_le until n then arrive_signal (rung g) 14 1 else g) at.now
        ∙ ap (λ b. if b then arrive_signal (rung g) 14 1 else g) is

    pub goes_off : until ≤ s.now + 1 → arrive_signal (rung g) 14 1 ≡ ring g
    goes_off come = sym (has true (le-leb until (s.now + 1) come))

    pub may_come : pending_in_all s < 2 ^ 62 → CanCome s 14 1 (rung g)
    unfolding nothing_told pending_in_all
    may_come few = record {
      actions = at.actions;
      drops = ap (λ ds. slice_index ds 14) at.drops ∙ get_or-replicate 32 14 0 0 (omega arith);
      few = (let same = ap (λ (p : ℕ → ℕ → ℕ). pending_in_all (record s { pending = p })) at.pending in omega (arith, same, few));
    }

-- ---- all together

module _ {R : Type 0} (order : R → List ℕ) (k a : KernelState R) (goes_on : HasNotedSome order k a (begun (later (view order k.tables)))) where
  abbrev s : State
  s = view order k.tables

  abbrev charged_so : State
  charged_so = charge k.settings.quantum (later s) (chosen s)

  abbrev expired_so : Outcome
  expired_so = expire_all (begun charged_so) (late_from s 1)

  module _ (b : KernelState R) (charges : Charges order a b a.settings.quantum) where
    pub charged_noted : HasNotedSome order k b (begun (charge k.settings.quantum (later (view order k.tables)) (chosen (view order k.tables))))
    charged_noted =
        let same = tables_stay order k a (begun (later s)) goes_on.so_far in
        subst (λ (x : KernelState R). HasNotedSome order k b (begun (charge x.settings.quantum (later (view order x.tables)) (chosen (view order x.tables))))) goes_on.so_far.others
        (charges k (subst (λ (x : Tables R). HasNotedSome order k a (begun (later (view order x)))) (sym same) goes_on))

    pub charged_tables : b.tables ≡ k.tables
    charged_tables = tables_stay order k b (begun charged_so) charged_noted.so_far

    module _ (good : IsGood (view order k.tables)) (c : KernelState R) (expires : ExpiresAll order b c) where
      pub expired_noted : HasNotedSome order k c (expire_all (begun (charge k.settings.quantum (later (view order k.tables)) (chosen (view order k.tables)))) (late_from (view order k.tables) 1))
          × IsInTick (view order k.tables) (expire_all (begun (charge k.settings.quantum (later (view order k.tables)) (chosen (view order k.tables)))) (late_from (view order k.tables) 1))
      expired_noted =
          subst (λ (x : Tables R). HasNotedSome order k c (expire_all (begun charged_so) (late_from (view order x) 1)) × IsInTick (view order x) (expire_all (begun charged_so) (late_from (view order x) 1))) charged_tables
          (expires k (begun charged_so) charged_noted
          (subst (λ (x : Tables R). AreStillWaiting (view order x) 1 (begun charged_so)) (sym charged_tables) (charged_still k.settings.quantum s good)))

      pub expired_tables : c.tables ≡ k.tables
      expired_tables = tables_stay order k c expired_so expired_noted.0.so_far

      pub tick_noted : (d : KernelState R) → Rings order c d → pending_in_all (view order k.tables) < 2 ^ 62 → HasNotedSome order k d (tick k.settings.quantum (begun (view order k.tables)))
      tick_noted d rings few =
          subst (HasNotedSome order k d) (tick_is k.settings.quantum s)
          (rings k expired_so expired_noted.0 (subst (λ (x : Tables R). IsInTick (view order x) expired_so) (sym expired_tables) expired_noted.1)
          (subst (λ (x : Tables R). pending_in_all (view order x) < 2 ^ 62) (sym expired_tables) few))

-- the time has gone on
pub advanced : {R : Type 0} (order : R → List ℕ) (k q : KernelState R) (change : Change) → IsIdle k → k.tables.report ≡ nothing_told → (view order k.tables).now < 2 ^ 31
    → change ≡ OfClock Advance → NotesMore order k q change → HasNotedSome order k q (begun (later (view order k.tables)))
advanced order k q change idle untold time is more = subst (NotesMore order k q) is more k (begun (view order k.tables)) (noted_none order k idle untold) (omega (arith, time))
