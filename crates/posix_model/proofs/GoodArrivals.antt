-- Whatever arrives keeps a good state good.
use Rattle.std.proofs.Common.{◌≡◌, ◌≢◌, ◌∙◌, ap, sym, refl, subst, arith, ℕ, ◌+◌, ◌<◌, ◌≤◌, Bool, true, false, ◌&&◌, ◌||◌, eqb, List, [], ◌∷◌, ◌++◌, length, take, drop, Option, Some, None}
use Rattle.std.specs.Prelude.{◌^◌, ◌==◌, if◌then◌else◌, nat_le, min}
use Rattle.std.proofs.lemmas.Bool.{eq-eqb, ne_eqb, and_parts, or_left, or_right, false_from_ne_true}
use Rattle.thread_base.specs.Maps.{put}
use Rattle.thread_base.specs.Orders.{is_in, IsOrder}
use Rattle.thread_base.specs.Priority.{tids}
use Rattle.thread_base.specs.declared.Place.{Place}
use Rattle.thread_base.proofs.MapLemmas.{put_got, at_other}
use Rattle.thread_base.proofs.OrderLemmas.{IsOrder-filter}
use Rattle.thread_base.proofs.SearchLemmas.{in_tids}
use Rattle.journal_text.specs.declared.entry.Entry.{Entry}
use Rattle.journal_text.specs.declared.entry.What.{What}
use Rattle.journal_text.specs.declared.entry.What.TheVariants.{Sig, Tick, Data, Eof}
use Rattle.posix_model.specs.State.{State, Thread, Standing, Waits, Target, ConditionAt, ATime, Input, target, wait_of, deadline_by, is_absent, is_ready, is_reading, is_at_condition}
use Rattle.posix_model.specs.Changes.{Outcome, begun, set_thread, to_end, with_reply, answer}
use Rattle.posix_model.specs.Conditions.{wake}
use Rattle.rv_exec.specs.Window.{with_bytes}
use Rattle.posix_model.specs.Scheduling.{eff, chosen}
use Rattle.posix_model.specs.Arrivals.{arrive_signal, has_turn, charge_to, charge, has_come, expired, timed_out, expire_at, expire_all, ring, tick, readers, read_into, serve_at, serve_all, arrive_data, answer_all, arrive_end}
use Rattle.posix_model.specs.Runs.{Rules, arrived}
use Rattle.posix_model.specs.Good.{standings, IsGood, AreSoundWaits}
use Rattle.posix_model.specs.declared.RetakeReply.{RetakeReply}
use Rattle.posix_model.specs.declared.RetakeReply.TheVariants.{Answer}
use Rattle.posix_model.specs.declared.Wait.TheVariants.{Cond, Sleep}
use Rattle.posix_model.proofs.StandingLemmas.{never, for_none, is_later}
use Rattle.posix_model.proofs.ListLemmas.{each_put, is_in_filter, IsOrder-tids}
use Rattle.posix_model.proofs.GoodLemmas.{good_alike, good_set, good_to_end, chosen_ready}
use Rattle.posix_model.proofs.GoodConditions.{good_wake}
use Rattle.posix_model.proofs.GoodDeliveries.{good_unqueued}
use Rattle.posix_model.proofs.GoodSignals.{good_come}
use Rattle.posix_model.proofs.WakeLemmas.{wake_alike, wake_leaves, wake_changes, in_order_is_in, IsOrder-in_order}

-- a state at another time
abbrev at_time : ℕ → State → State
at_time now s = record s { now = now }

wake_at : (now : ℕ) (g : Outcome) (t : ℕ) (reply : RetakeReply) → (wake (record g { state = at_time now g.state }) t reply).state ≡ at_time now (wake g t reply).state
wake_at now g t reply = wake_alike g (at_time now g.state) t reply ∙ sym (ap (at_time now) (wake_leaves g t reply))

-- the time of a wait has come
abbrev is_late : ℕ → Standing → Bool
is_late now st = has_come now (deadline_by (wait_of st))

late_there : (now : ℕ) (st : Standing) → is_late now st ≡ true → is_absent st ≡ false
late_there now (Waits wait) h = refl
late_there now st h = absurd (never false h refl)

-- while the waits end whose time has come, the state is good at an earlier time
module _ (before : ℕ) where
  good_charged : (quantum : ℕ) (s : State) (o : Option ℕ) → IsGood (at_time before s) → ((t : ℕ) → o ≡ Some t → is_ready (standings s t) ≡ true)
      → IsGood (at_time before (charge quantum s o))
  good_charged quantum s None good ready = good
  good_charged quantum s (Some t) good ready = by (has_turn (s.threads t).policy)
    where
      more : Thread
      more = record (s.threads t) { used = (s.threads t).used + 1 }

      turn : (b : Bool) → IsGood (at_time before (if b then to_end s t else set_thread s t more))
      turn true = good_to_end (at_time before s) t good (ready t refl)
      turn false = good_set (at_time before s) t more refl refl good

      by : (b : Bool) → IsGood (at_time before (if b then charge_to quantum s t else s))
      by true = turn (nat_le quantum ((s.threads t).used + 1))
      by false = good

  good_expire_at : (g : Outcome) (t : ℕ) (a : Target) → IsGood (at_time before g.state) → target (standings g.state t) ≡ a → IsGood (at_time before (expire_at g t a).state)
  good_expire_at g t (ConditionAt c) good is =
      subst IsGood (wake_at before g t (Answer timed_out)) (good_wake (record g { state = at_time before g.state }) t (Answer timed_out) good)
  good_expire_at g t (ATime until) good is = good_unqueued (at_time before g.state) t good (ATime until) (with_reply (g.state.threads t) 0 0) is refl refl refl
  good_expire_at g t a good is = good

  good_expire_all : (g : Outcome) (ts : List ℕ) → IsGood (at_time before g.state) → IsGood (at_time before (expire_all g ts).state)
  good_expire_all g [] good = good
  good_expire_all g (t ∷ ts) good =
      let a = target (standings g.state t) in
      good_expire_all (expire_at g t a) ts (good_expire_at g t a good refl)

  -- one thread changes, who waits for no time
  abbrev Expired : Outcome → ℕ → (ℕ → Thread) → Type 0
  Expired g t threads = (x : Thread) × (threads ≡ put g.state.threads t x) × ((now : ℕ) → is_late now x.standing ≡ false)

  expired_by : (g : Outcome) (t : ℕ) (st : Standing) → IsGood (at_time before g.state) → standings g.state t ≡ st → Expired g t (expire_at g t (target st)).state.threads
  expired_by g t (Waits (Cond c m deadline count)) good e =
      let woken = wake_changes (record g { state = at_time before g.state }) t (Answer timed_out) in (
        woken.0,
        sym (ap (λ (s : State). s.threads) (wake_at before g t (Answer timed_out))) ∙ woken.1,
        λ now. ap (has_come now) (woken.3 good (ap (λ st. is_at_condition (target st)) e)),
      )
  expired_by g t (Waits (Sleep until)) good e = (_, refl, λ now. refl)
  expired_by g t st good e = (g.state.threads t, sym (put_got g.state.threads t), λ now. ap (is_late now) e)

  -- whose time has come after that is another thread, and its time had come before
  late_after : (g : Outcome) (t u now : ℕ) → IsGood (at_time before g.state) → is_late now (standings (expire_at g t (target (standings g.state t))).state u) ≡ true
      → (u ≢ t) × (is_late now (standings g.state u) ≡ true)
  late_after g t u now good h =
      let changed = expired_by g t (standings g.state t) good refl in
      each_put (λ v (x : Thread). is_late now x.standing ≡ true → (v ≢ t) × (is_late now (standings g.state v) ≡ true)) g.state.threads t changed.0
      (λ k. absurd (never (is_late now changed.0.standing) k (changed.2 now))) (λ v ne k. (ne, k)) u
      (ap (λ (f : ℕ → Thread). is_late now (f u).standing) (sym changed.1) ∙ h)

  -- where every wait ends whose time has come, the time of none has come
  all_expired : (g : Outcome) (ts : List ℕ) (u now : ℕ) → IsGood (at_time before g.state) → (is_late now (standings g.state u) ≡ true → is_in u ts ≡ true)
      → is_late now (standings (expire_all g ts).state u) ≡ false
  all_expired g [] u now good listed = false_from_ne_true _ (λ h. never false (listed h) refl)
  all_expired g (t ∷ ts) u now good listed =
      let a = target (standings g.state t) in
      all_expired (expire_at g t a) ts u now (good_expire_at g t a good refl) (λ h.
      let was = late_after g t u now good h in
      sym (ap (λ b. b || is_in u ts) (ne_eqb u t was.0)) ∙ listed was.1)

  -- the alarm goes off, or is still to come
  good_ring : (g : Outcome) → before ≤ g.state.now → IsGood (at_time before g.state) → ((u : ℕ) → is_late g.state.now (standings g.state u) ≡ false) → IsGood (ring g).state
  good_ring g since good none = by (has_come g.state.now g.state.alarm) refl
    where
      waits : AreSoundWaits g.state.now (standings g.state)
      waits u = record {
        count = (good.waits u).count;
        later = is_later g.state.now (deadline_by (wait_of (standings g.state u))) (none u);
        soon = λ until e. let soon = (good.waits u).soon until e in omega (arith, soon, since);
        some = (good.waits u).some;
      }

      rung : Outcome
      rung = record { state = record g.state { alarm = None }; report = record g.report { alarm = true } }

      by : (b : Bool) → has_come g.state.now g.state.alarm ≡ b → IsGood (if b then arrive_signal rung 14 1 else g).state
      by true h =
          good_come rung 0 14 1
          (good_alike (at_time before g.state) rung.state refl good good.ready good.joining good.mutexes good.conditions waits
          (record {
            later = for_none None (λ until. g.state.now < until) refl;
            soon = for_none None (λ until. until < g.state.now + 2 ^ 32) refl;
            heeded = good.signals.heeded;
          }))
      by false h =
          good_alike (at_time before g.state) g.state refl good good.ready good.joining good.mutexes good.conditions waits
          (record {
            later = is_later g.state.now g.state.alarm h;
            soon = λ until e. let soon = good.signals.soon until e in omega (arith, soon, since);
            heeded = good.signals.heeded;
          })

-- what a thread is charged leaves the time, and so do the waits that end
charge_now : (quantum : ℕ) (s : State) (o : Option ℕ) → (charge quantum s o).now ≡ s.now
charge_now quantum s None = refl
charge_now quantum s (Some t) = by (has_turn (s.threads t).policy)
  where
    turn : (b : Bool) → (if b then to_end s t else set_thread s t (record (s.threads t) { used = (s.threads t).used + 1 })).now ≡ s.now
    turn true = refl
    turn false = refl

    by : (b : Bool) → (if b then charge_to quantum s t else s).now ≡ s.now
    by true = turn (nat_le quantum ((s.threads t).used + 1))
    by false = refl

expire_at_now : (g : Outcome) (t : ℕ) (a : Target) → (expire_at g t a).state.now ≡ g.state.now
expire_at_now g t (ConditionAt c) = ap (λ (s : State). s.now) (wake_leaves g t (Answer timed_out))
expire_at_now g t a = refl

expire_all_now : (g : Outcome) (ts : List ℕ) → (expire_all g ts).state.now ≡ g.state.now
expire_all_now g [] = refl
expire_all_now g (t ∷ ts) = let a = target (standings g.state t) in expire_all_now (expire_at g t a) ts ∙ expire_at_now g t a

-- whose time has come is in the list
in_expired : (s : State) (before u : ℕ) → IsGood (at_time before s) → is_late s.now (standings s u) ≡ true → is_in u (expired s) ≡ true
in_expired s before u good late =
    let range = good.within u (late_there s.now (standings s u) late) in
    is_in_filter (λ t. is_late s.now (standings s t)) u tids ∙ ap (λ b. b && is_in u tids) late ∙ in_tids u range.0 range.1

good_tick : (quantum : ℕ) (g : Outcome) → IsGood g.state → IsGood (tick quantum g).state
good_tick quantum g good =
    let before = g.state.now in
    let later : State = record g.state { now = before + 1 } in
    let charged : State = charge quantum later (chosen g.state) in
    let late : Outcome = record g { state = charged } in
    let here : IsGood (at_time before charged) = good_charged before quantum later (chosen g.state) good (λ t e. (chosen_ready g.state t good e).0) in
    let same : (expire_all late (expired charged)).state.now ≡ before + 1 = expire_all_now late (expired charged) ∙ charge_now quantum later (chosen g.state) in
    good_ring before (expire_all late (expired charged)) (omega (arith, same)) (good_expire_all before late (expired charged) here) (λ u.
    ap (λ now. is_late now (standings (expire_all late (expired charged)).state u)) (expire_all_now late (expired charged))
    ∙ all_expired before late (expired charged) u charged.now here (in_expired charged before u here))

-- input comes
good_serve_at : (g : Outcome) (t : ℕ) (a : Target) → IsGood g.state → target (standings g.state t) ≡ a → IsGood (serve_at g t a).state
good_serve_at g t (Input buffer size) good is = by (length g.state.input == 0)
  where
    count : ℕ
    count = min size (length g.state.input)

    filled : State
    filled = record g.state { memory = with_bytes g.state.memory buffer (take count g.state.input); input = drop count g.state.input }

    by : (b : Bool) → IsGood (if b then g else read_into g t buffer count).state
    by true = good
    by false =
        good_unqueued filled t (good_alike g.state filled refl good good.ready good.joining good.mutexes good.conditions good.waits good.signals) (Input buffer size)
        (with_reply (g.state.threads t) 0 count) is refl refl refl
good_serve_at g t a good is = good

good_serve_all : (g : Outcome) (ts : List ℕ) → IsGood g.state → IsGood (serve_all g ts).state
good_serve_all g [] good = good
good_serve_all g (t ∷ ts) good =
    let a = target (standings g.state t) in
    good_serve_all (serve_at g t a) ts (good_serve_at g t a good refl)

good_arrive_data : (g : Outcome) (bytes : List ℕ) → IsGood g.state → IsGood (arrive_data g bytes).state
good_arrive_data g bytes good =
    let more : State = record g.state { input = g.state.input ++ bytes } in
    good_serve_all (record g { state = more }) (readers g.state)
    (good_alike g.state more refl good good.ready good.joining good.mutexes good.conditions good.waits good.signals)

-- a reader is answered that nothing is left
good_read_none : (g : Outcome) (t : ℕ) (a : Target) → IsGood g.state → target (standings g.state t) ≡ a → is_reading a ≡ true → IsGood (answer g t 0 0).state
good_read_none g t (Input buffer size) good is reads = good_unqueued g.state t good (Input buffer size) (with_reply (g.state.threads t) 0 0) is refl refl refl
good_read_none g t a good is reads = absurd (never false reads refl)

good_answer_all : (g : Outcome) (ts : List ℕ) → IsGood g.state → IsOrder ts → ((u : ℕ) → is_in u ts ≡ true → is_reading (target (standings g.state u)) ≡ true)
    → IsGood (answer_all g ts).state
good_answer_all g [] good order reads = good
good_answer_all g (t ∷ ts) good order reads =
    good_answer_all (answer g t 0 0) ts
    (good_read_none g t (target (standings g.state t)) good refl (reads t (or_left (eqb t t) (is_in t ts) (eq-eqb t t refl))))
    order.3 (λ u h.
    let other : u ≢ t = λ same. never (is_in t ts) (subst (λ v. is_in v ts ≡ true) same h) order.2 in
    at_other (λ (x : Thread). is_reading (target x.standing)) g.state.threads t u _ other ∙ reads u (or_right (eqb u t) (is_in u ts) h))

good_arrive_end : (g : Outcome) → IsGood g.state → IsGood (arrive_end g).state
good_arrive_end g good =
    let over : State = record g.state { is_input_over = true } in
    let test = λ (t : ℕ). is_reading (target (standings g.state t)) in
    good_answer_all (record g { state = over }) (readers g.state)
    (good_alike g.state over refl good good.ready good.joining good.mutexes good.conditions good.waits good.signals)
    (IsOrder-in_order (eff g.state) _ (IsOrder-filter test tids IsOrder-tids)) (λ u h.
    (and_parts (test u) (is_in u tids) (sym (is_in_filter test u tids) ∙ sym (in_order_is_in (eff g.state) u _) ∙ h)).0)

-- entries of one kind arrive
pub good_arrived : (rules : Rules) (s : State) (first count : ℕ) (at : Place) (o : Option Entry) → IsGood s → IsGood (arrived rules s first count at o).state
good_arrived rules s first count at None good = good
good_arrived rules s first count at (Some entry) good = by entry.what
  where
    by : (what : What) → IsGood (arrived rules s first count at (Some (record entry { what = what }))).state
    by (Sig sig) = good_come (begun s) 0 sig count good
    by Tick = good_tick rules.settings.quantum (begun s) good
    by (Data start len) = good_arrive_data (begun s) (take len (drop start rules.journal.bytes)) good
    by Eof = good_arrive_end (begun s) good
