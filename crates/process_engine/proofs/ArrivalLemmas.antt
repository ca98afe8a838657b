-- What was presented arrives, and an entry more is presented.
use Rattle.std.proofs.Common.{◌≡◌, ◌∙◌, ap, sym, refl, subst, arith, inl, inr, ℕ, ◌+◌, ◌-◌, ◌≤◌, Bool, true, false, List, length, take, Option, Some, None}
use Rattle.std.specs.Prelude.{◌||◌, not, is_some, slice_get, slice_set}
use Rattle.std.proofs.lemmas.Bool.{cases_Bool, cases_eq}
use Rattle.thread_base.specs.Orders.{is_in}
use Rattle.thread_base.specs.declared.Place.{Place}
use Rattle.journal_text.specs.Contents.{Contents}
use Rattle.journal_text.specs.Valid.{IsJournal}
use Rattle.journal_text.specs.declared.entry.Entry.{Entry}
use Rattle.journal_text.specs.declared.entry.What.{What}
use Rattle.journal_text.specs.declared.entry.What.TheVariants.{Sig, Tick, Data, Eof}
use Rattle.unix_process.specs.declared.Taken.{Taken}
use Rattle.ready_queues.specs.Queue.{Queue}
use Rattle.posix_model.specs.State.{State}
use Rattle.posix_model.specs.Changes.{Outcome}
use Rattle.posix_model.specs.Journals.{Kind, kind_of, nothing_taken, numbers_from, entry_at, left_of_kind, untaken}
use Rattle.posix_model.specs.Good.{IsGood}
use Rattle.posix_model.specs.Laws.{IsBounded}
use Rattle.posix_model.specs.Reports.{nothing_told}
use Rattle.posix_model.specs.Runs.{Rules, Moment, MayArrive, arrived, make, moved, due}
use Rattle.posix_model.specs.Start.{start, start_state}
use Rattle.posix_model.specs.declared.Settings.{Settings}
use Rattle.posix_model.specs.declared.Move.TheVariants.{Arrive}
use Rattle.posix_model.proofs.GoodMoves.{goodness}
use Rattle.posix_model.proofs.PendingMoves.{bounded_start}
use Rattle.posix_model.proofs.JournalLemmas.{in_untaken, untaken_from, place_in}
use Rattle.trace_text.specs.Counting.{is_arrival}
use Rattle.posix_model.specs.Deliveries.{Delivery, next_delivery, deliver}
use Rattle.kernel_state.specs.View.{view}
use Rattle.kernel_state.specs.Begun.{IsBegun}
use Rattle.kernel_state.specs.Kernels.{KernelState, IsEmpty, IsIdle, remaining}
use Rattle.kernel_state.specs.Outside.{OutsideState, attached, gather, drain, present}
use Rattle.kernel_state.specs.Presented.{KeepsStanding, Stands as StandsOutside, taken_of, IsSound as IsSoundOutside}
use Rattle.kernel_state.proofs.NumberLemmas.{get_in}
use Rattle.kernel_state.proofs.PresentedLemmas.{stands_gathered}
use Rattle.kernel_state.proofs.ArrivalLemmas.{drained_of_entry}
use Rattle.kernel_state.proofs.LawLemmas.{drained_may_arrive}
use Rattle.kernel_state.proofs.SoundLemmas.{taken_is, taken_kept}
use Rattle.dispatcher.specs.Arriving.{is_empty, AreSignalsOrTicks, BeginsArrival, rules_of as rules_at}
use Rattle.process_engine.specs.Engine.{Engine, order, owed_of, moment_of, position_of, rules_of, next_place, stop_of, ArePrompt, IsSound}
use Rattle.process_engine.specs.Advancing.{HasBegun, BeginsMove, Advances}
use Rattle.process_engine.specs.declared.stage.Advance.TheVariants.{Begun}
use Rattle.process_engine.specs.declared.stage.Stage.TheVariants.{Paused, InCall}
use Rattle.process_engine.proofs.CountLemmas.{IsArrivalMain, arrival_counts}
use Rattle.process_engine.proofs.InstructionLemmas.{has_begun}
use Rattle.process_engine.proofs.DueLemmas.{left_before, due_later, due_more, set_here, set_there}
use Rattle.process_engine.proofs.EngineLemmas.{moment_state, state_is, begins, sound_moved, delivers, delivers_sound}

-- the main line of an entry of any kind is that of an arrival
arrival_main : (rules : Rules) (s : State) (first count : ℕ) (at : Place) (e : Entry) → entry_at rules.journal.entries first ≡ Some e
    → IsArrivalMain (make rules s (Arrive first count at)).report.head
arrival_main rules s first count at e here = subst (λ o. IsArrivalMain (arrived rules s first count at o).report.head) (sym here) (by e.what)
  where
    by : (what : What) → IsArrivalMain (arrived rules s first count at (Some (record e { what = what }))).report.head
    by (Sig sig) = record { arrival = refl; no_call = refl; no_delivery = refl }
    by Tick = record { arrival = refl; no_call = refl; no_delivery = refl }
    by (Data start len) = record { arrival = refl; no_call = refl; no_delivery = refl }
    by Eof = record { arrival = refl; no_call = refl; no_delivery = refl }

-- what was presented arrives, where each entry of it is due
module _ (p old : Engine) (is : p ≡ old) (sound : IsSound p) (rest : IsIdle p.kernel) (untold : p.kernel.tables.report ≡ nothing_told) (over : (view order p.kernel.tables).over ≡ None)
    (l : KernelState Queue) (begins_it : BeginsArrival order p.kernel l) (rules : Rules) (ruled : rules ≡ p.rules) where
  abbrev arriving : Engine
  arriving = record { kernel = l; instructions = p.instructions; stop = p.stop; last = p.last; stage = InCall; rules = rules }

  abbrev d : Taken
  d = begins_it.taken

  -- what waits, all in the log
  abbrev o : OutsideState
  o = gather p.kernel.outside

  abbrev k : KernelState Queue
  k = record p.kernel { outside = drain (gather p.kernel.outside) }

  gathered : StandsOutside (gather p.kernel.outside) (moment_of p).taken
  gathered =
      stands_gathered p.kernel.outside.journal.entries (taken_of p.kernel.outside) p.kernel.outside.presented p.kernel.outside.log.slots p.kernel.outside.unix.pending sound.outside

  going : (moment_of p).state.over ≡ None
  going = ap (λ (s : State). s.over) (moment_state p rest) ∙ over

  -- at a place of so many instructions it may arrive
  may_at : (at : Place) → at.n ≡ p.instructions → MayArrive p.rules (moment_of p) begins_it.taken.first begins_it.taken.count at
  may_at at here = (drained_may_arrive p.rules (moment_of p) o d at sound.journal gathered begins_it.first sound.prompt.due going here).0

  left_first : is_in begins_it.taken.first (untaken p.rules.journal.entries (moment_of p).taken) ≡ true
  left_first =
      let may = may_at (record { n = p.instructions; k = 0 }) refl in
      untaken_from p.rules.journal.entries (moment_of p).taken d.first may.entry may.here (get_in (left_of_kind p.rules.journal.entries (moment_of p).taken (kind_of may.entry.what)) 0 d.first may.next)

  at_here : begins_it.at.n ≡ p.instructions
  at_here = sound.prompt.placed d.first begins_it.at left_first (drained_of_entry o (moment_of p).taken d gathered begins_it.first).presented begins_it.placed

  may : MayArrive p.rules (moment_of p) begins_it.taken.first begins_it.taken.count begins_it.at
  may = may_at begins_it.at at_here

  -- after it the rest waits
  after_it : StandsOutside (drain (gather p.kernel.outside)) (moved p.rules (moment_of p) (Arrive begins_it.taken.first begins_it.taken.count begins_it.at)).taken
  after_it = (drained_may_arrive p.rules (moment_of p) o d begins_it.at sound.journal gathered begins_it.first sound.prompt.due going at_here).1

  taken_after : (moved p.rules (moment_of p) (Arrive begins_it.taken.first begins_it.taken.count begins_it.at)).taken ≡ taken_of (drain (gather p.kernel.outside))
  taken_after = taken_is (drain o) _ after_it

  made_is : make (rules_at p.kernel) (view order p.kernel.tables) (Arrive begins_it.taken.first begins_it.taken.count begins_it.at)
      ≡ make p.rules (moment_of p).state (Arrive begins_it.taken.first begins_it.taken.count begins_it.at)
  made_is = λ i. make (record { settings = sound.settings i; journal = sound.journal i }) (sym (moment_state p rest) i) (Arrive d.first d.count begins_it.at)

  main : IsArrivalMain (make (rules_at p.kernel) (view order p.kernel.tables) (Arrive begins_it.taken.first begins_it.taken.count begins_it.at)).report.head
  main = subst (λ (g : Outcome). IsArrivalMain g.report.head) (sym made_is) (arrival_main p.rules (moment_of p).state d.first d.count begins_it.at may.entry may.here)

  has : HasBegun order k l (make (rules_at p.kernel) (view order p.kernel.tables) (Arrive begins_it.taken.first begins_it.taken.count begins_it.at))
  has = has_begun order k l _ untold begins_it.begun (λ h. absurd (let e : false ≡ true = sym (ap is_arrival h) ∙ main.arrival in cc))

  arrives_to : moment_of arriving ≡ moved p.rules (moment_of p) (Arrive begins_it.taken.first begins_it.taken.count begins_it.at)
  arrives_to =
      let state = state_is p arriving k refl (Arrive d.first d.count begins_it.at) _ has made_is may refl in
      let taken = ap taken_of begins_it.begun.outside ∙ sym taken_after in
      λ i. record { state = state i; instructions = p.instructions; last = p.last; taken = taken i }

  pub arrives : Advances old (Begun p.last) (record { kernel = l; instructions = p.instructions; stop = p.stop; last = p.last; stage = InCall; rules = rules })
  arrives =
      let counts = arrival_counts p.rules (moment_of p) p.last d.first d.count begins_it.at _ refl main in
      (subst (λ x. BeginsMove x arriving) is (begins p arriving k refl (Arrive d.first d.count begins_it.at) _ has made_is may refl arrives_to counts), ap (λ (x : Engine). x.last) is)

  prompt_after : ArePrompt p.rules (moved p.rules (moment_of p) (Arrive begins_it.taken.first begins_it.taken.count begins_it.at)) (drain (gather p.kernel.outside))
  prompt_after = record {
    due = due_later p.rules (moment_of p) d.first d.count begins_it.at may p.kernel.outside.presented sound.prompt.due;
    placed = λ n at left low here. sound.prompt.placed n at (left_before p.rules (moment_of p) d.first d.count begins_it.at may n left) low here;
  }

  pub arrives_sound : IsSound (record { kernel = l; instructions = p.instructions; stop = p.stop; last = p.last; stage = InCall; rules = rules })
  arrives_sound =
      sound_moved p arriving sound ruled refl begins_it.begun.settings (drain o) begins_it.begun.outside refl refl (subst (StandsOutside (drain o)) taken_after after_it) has.call
      (Arrive d.first d.count begins_it.at) may arrives_to prompt_after

-- ---- an entry more is presented

module _ (p : Engine) (sound : IsSound p) (rest : IsIdle p.kernel) (next_due : is_in (p.kernel.outside.presented + 1) (due p.rules (moment_of p)) ≡ true)
    (at : Place) (here : at.n ≡ p.instructions) (number : ℕ) (next : number ≡ p.kernel.outside.presented + 1)
    (k : KernelState Queue) (so : k ≡ record p.kernel { outside = present p.kernel.outside number at }) (keeps : KeepsStanding p.kernel.outside k.outside)
    (stop : ℕ) (stopped : stop ≡ stop_of p.rules.settings.budget (next_place k.outside.journal k.outside.presented)) (rules : Rules) (ruled : rules ≡ p.rules) where
  abbrev after : Engine
  after = record { kernel = k; instructions = p.instructions; stop = stop; last = p.last; stage = Paused; rules = rules }

  outside_is : k.outside ≡ present p.kernel.outside number at
  outside_is = ap (λ (x : KernelState Queue). x.outside) so

  taken_same : taken_of k.outside ≡ taken_of p.kernel.outside
  taken_same = taken_kept p.kernel.outside k.outside sound.outside keeps

  owed_same : owed_of after ≡ owed_of p
  unfolding owed_of
  owed_same = ap (λ (x : KernelState Queue). owed_of (record after { kernel = x })) so

  pub presented_now : moment_of (record { kernel = k; instructions = p.instructions; stop = stop; last = p.last; stage = Paused; rules = rules }) ≡ moment_of p
  presented_now = λ i. record { state = (owed_same i).state; instructions = p.instructions; last = p.last; taken = taken_same i }

  prompt : ArePrompt p.rules (moment_of p) (present p.kernel.outside number at)
  prompt = record {
    due = subst (λ n. AreDueTo n) (sym next) (due_more p.rules (moment_of p) p.kernel.outside sound.whole sound.journal sound.outside sound.prompt.due next_due);
    placed = λ n place left low is.
        elim (cases_eq n number) [
          | inl same ↦ ap (λ (x : Place). x.n) (set_here p.kernel.outside.places (number - 1) at place (ap (λ m. slice_get (slice_set p.kernel.outside.places (number - 1) at) (m - 1)) (sym same) ∙ is)) ∙ here
          | inr other ↦
              (let found = in_untaken p.rules.journal.entries (moment_of p).taken n left in
              let some = (place_in p.rules.journal.entries n found.0 found.1).1 in
              sound.prompt.placed n place left (omega (arith, low, other, next))
              (sym (set_there p.kernel.outside.places (number - 1) (n - 1) at (λ e. other (omega (arith, e, some, next)))) ∙ is))
        ];
  }
    where
      AreDueTo : ℕ → Type 0
      AreDueTo n = (m : ℕ) → is_in m (untaken p.rules.journal.entries (moment_of p).taken) ≡ true → m ≤ n → is_in m (due p.rules (moment_of p)) ≡ true

  pub present_sound : IsSound (record { kernel = k; instructions = p.instructions; stop = stop; last = p.last; stage = Paused; rules = rules })
  present_sound =
      let idle : IsIdle k = record {
        main = ap (λ (x : KernelState Queue). x.main) so ∙ rest.main;
        rest = subst (λ (x : KernelState Queue). IsEmpty x.rest) (sym so) rest.rest;
      } in
      let budget = ap (λ (x : Rules). x.settings.budget) ruled in
      let within = sound.within in
      let limit = sound.limit in
      let journal_is : k.outside.journal ≡ rules.journal = ap (λ (x : OutsideState). x.journal) outside_is ∙ sound.journal ∙ sym (ap (λ (x : Rules). x.journal) ruled) in
      record {
        within = omega (arith, within, budget);
        limit = omega (arith, limit, budget);
        stop = stopped ∙ (λ i. stop_of (sym budget i) (next_place (journal_is i) k.outside.presented));
        settings = ap (λ (x : KernelState Queue). x.settings) so ∙ sound.settings ∙ sym (ap (λ (x : Rules). x.settings) ruled);
        journal = journal_is;
        whole = subst (λ (x : Rules). IsJournal x.journal) (sym ruled) sound.whole;
        built = subst (λ (x : Rules). AreSignalsOrTicks x.journal.entries) (sym ruled) sound.built;
        outside = subst (StandsOutside k.outside) (sym taken_same) (keeps (taken_of p.kernel.outside) sound.outside);
        prompt = subst (λ x. ArePrompt rules (moment_of after) x) (sym outside_is) (subst (λ n. ArePrompt rules n (present p.kernel.outside number at)) (sym presented_now) (subst (λ r. ArePrompt r (moment_of p) (present p.kernel.outside number at)) (sym ruled) prompt));
        good = subst IsGood (sym (ap (λ (g : Outcome). g.state) owed_same)) sound.good;
        bounded = subst IsBounded (sym presented_now) sound.bounded;
        stands = idle;
      }

  pub same_position : (position_of p).telling ≡ None → position_of (record { kernel = k; instructions = p.instructions; stop = stop; last = p.last; stage = Paused; rules = rules }) ≡ position_of p
  same_position quiet = λ i. record {
    now = presented_now i;
    telling = sym quiet i;
    remaining = length (remaining (ap (λ (x : KernelState Queue). x.rest) so i));
    shown = view order (ap (λ (x : KernelState Queue). x.tables) so i);
  }

-- ---- what comes next is begun: an arrival, and a delivery where nothing waits

some_next : (o : Option Delivery) → is_some o ≡ true → (d : Delivery) × (o ≡ Some d)
some_next None h = let e : false ≡ true = h in absurd (cc)
some_next (Some d) h = (d, refl)

-- where none was, nothing waits and no delivery is next
pub none_next : (nothing : Bool) (o : Option Delivery) → false ≡ (not nothing || is_some o) → (nothing ≡ true) × (o ≡ None)
none_next true None h = (refl, refl)
none_next true (Some d) h = absurd (let e : false ≡ true = h in cc)
none_next false o h = absurd (let e : false ≡ true = h in cc)

module _ (p old : Engine) (is : p ≡ old) (sound : IsSound p) (rest : IsIdle p.kernel) (untold : p.kernel.tables.report ≡ nothing_told) (over : (view order p.kernel.tables).over ≡ None)
    (l : KernelState Queue) (arrival : is_empty p.kernel.outside ≡ false → BeginsArrival order p.kernel l)
    (delivery : is_empty p.kernel.outside ≡ true → IsBegun order p.kernel l (deliver (view order p.kernel.tables)))
    (begun : true ≡ (not (is_empty p.kernel.outside) || is_some (next_delivery (view order p.kernel.tables)))) where
  next_one : is_empty p.kernel.outside ≡ true → (d : Delivery) × (next_delivery (view order p.kernel.tables) ≡ Some d)
  next_one nothing = some_next (next_delivery (view order p.kernel.tables)) (sym (begun ∙ ap (λ b. not b || is_some (next_delivery (view order p.kernel.tables))) nothing))

  pub journal_stays : l.outside.journal ≡ p.kernel.outside.journal
  journal_stays =
      elim (cases_Bool (is_empty p.kernel.outside)) [
        | inl nothing ↦ ap (λ (x : OutsideState). x.journal) (delivery nothing).outside
        | inr some ↦ ap (λ (x : OutsideState). x.journal) (arrival some).begun.outside
      ]

  module _ (rules : Rules) (ruled : rules ≡ p.rules) where
    pub next_begins : Advances old (Begun p.last) (record { kernel = l; instructions = p.instructions; stop = p.stop; last = p.last; stage = InCall; rules = rules })
    next_begins =
        elim (cases_Bool (is_empty p.kernel.outside)) [
          | inl nothing ↦ (let d = next_one nothing in delivers p old is d.0 sound rest untold nothing over d.1 l (delivery nothing) rules ruled)
          | inr some ↦ arrives p old is sound rest untold over l (arrival some) rules ruled
        ]

    pub next_sound : IsSound (record { kernel = l; instructions = p.instructions; stop = p.stop; last = p.last; stage = InCall; rules = rules })
    next_sound =
        elim (cases_Bool (is_empty p.kernel.outside)) [
          | inl nothing ↦ (let d = next_one nothing in delivers_sound p old is d.0 sound rest untold nothing over d.1 l (delivery nothing) rules ruled)
          | inr some ↦ arrives_sound p old is sound rest untold over l (arrival some) rules ruled
        ]

-- ---- at the start nothing was presented

none_taken : (o : OutsideState) → o.presented ≡ 0 → taken_of o ≡ nothing_taken
none_taken o none = λ i kind. at kind i
  where
    at : (kind : Kind) → taken_of o kind ≡ 0
    at kind =
        let front : length (numbers_from kind 1 (take o.presented o.journal.entries)) ≡ 0 = ap (λ n. length (numbers_from kind 1 (take n o.journal.entries))) none in
        omega (arith, front)

module _ (k : KernelState Queue) (journal : Contents) (settings : Settings) (memory : List ℕ) (entry : ℕ) (begins_so : view order k.tables ≡ start_state memory entry) (idle : IsIdle k)
    (none : k.outside.presented ≡ 0) (set : k.settings ≡ settings) (q : KernelState Queue) (so : q ≡ record k { outside = attached k.outside journal }) where
  abbrev first : ℕ → Engine
  first stop = record { kernel = q; instructions = 0; stop = stop; last = None; stage = Paused; rules = rules_of settings q.outside.journal }

  first_idle : IsIdle q
  first_idle = subst IsIdle (sym so) (record { main = idle.main; rest = idle.rest })

  journal_is : q.outside.journal ≡ journal
  journal_is = ap (λ (x : KernelState Queue). x.outside.journal) so

  presented_is : q.outside.presented ≡ 0
  presented_is = ap (λ (x : KernelState Queue). x.outside.presented) so ∙ none

  pub first_rules : rules_of settings q.outside.journal ≡ rules_of settings journal
  first_rules = ap (rules_of settings) journal_is

  pub first_now : (stop : ℕ) → moment_of (record { kernel = q; instructions = 0; stop = stop; last = None; stage = Paused; rules = rules_of settings q.outside.journal }) ≡ start memory entry
  first_now stop =
      let state = moment_state (first stop) first_idle ∙ ap (λ (x : KernelState Queue). view order x.tables) so ∙ begins_so in
      let taken = none_taken q.outside presented_is in
      λ i. record { state = state i; instructions = 0; last = None; taken = taken i }

  first_prompt : (stop : ℕ) → ArePrompt (rules_of settings q.outside.journal) (moment_of (first stop)) q.outside
  first_prompt stop = record { due = λ n left low. absurd (never n left low); placed = λ n at left low is. absurd (never n left low) }
    where
      never : (n : ℕ) → is_in n (untaken q.outside.journal.entries (moment_of (first stop)).taken) ≡ true → n ≤ q.outside.presented → ⊥
      never n left low =
          let found = in_untaken q.outside.journal.entries (moment_of (first stop)).taken n left in
          let some = (place_in q.outside.journal.entries n found.0 found.1).1 in
          let nothing = presented_is in
          omega (arith, some, low, nothing)

  pub first_sound : (stop : ℕ) → IsSoundOutside q.outside → IsJournal journal → AreSignalsOrTicks journal.entries → settings.budget ≤ 1000000000
      → stop ≡ stop_of settings.budget (next_place q.outside.journal q.outside.presented)
      → IsSound (record { kernel = q; instructions = 0; stop = stop; last = None; stage = Paused; rules = rules_of settings q.outside.journal })
  first_sound stop outside whole built limit stopped = record {
    within = omega arith;
    limit = limit;
    stop = stopped;
    settings = ap (λ (x : KernelState Queue). x.settings) so ∙ set;
    journal = refl;
    whole = subst IsJournal (sym journal_is) whole;
    built = subst (λ (j : Contents). AreSignalsOrTicks j.entries) (sym journal_is) built;
    outside = outside.stands;
    prompt = first_prompt stop;
    good = subst (λ (m : Moment). IsGood m.state) (sym (first_now stop)) (goodness.0 memory entry);
    bounded = subst IsBounded (sym (first_now stop)) (bounded_start memory entry);
    stands = first_idle;
  }
