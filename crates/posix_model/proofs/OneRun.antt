-- Two whole runs of one text have the same moves, but for where entries were presented, and the same ending.
use Rattle.std.proofs.Common.{◌≡◌, ◌∙◌, ap, sym, refl, subst, ℕ, ◌+◌, ◌-◌, ◌^◌, ◌<◌, ◌≤◌, List, [], ◌∷◌, ◌++◌, Option, Some, None, arith, lit<, append_assoc, inl, inr}
use Rattle.std.specs.Prelude.{true, false, length, take, drop, ◌==◌}
use Rattle.std.proofs.lemmas.Bool.{cases_Bool}
use Rattle.std.proofs.lemmas.List.{append_cancel_left, length-drop}
use Rattle.std.proofs.lemmas.Option.{slice_get_within}
use Rattle.thread_base.specs.Actions.{ignores}
use Rattle.thread_base.specs.Deliveries.{waits_for}
use Rattle.thread_base.specs.declared.Place.{Place}
use Rattle.thread_base.specs.declared.action.Action.{Action}
use Rattle.thread_base.specs.declared.action.Action.TheVariants.{Default, Ignore, Handler}
use Rattle.journal_text.specs.Valid.{IsJournal}
use Rattle.journal_text.specs.declared.entry.Entry.{Entry}
use Rattle.journal_text.specs.declared.entry.What.{What}
use Rattle.journal_text.specs.declared.entry.What.TheVariants.{Sig, Tick, Data, Eof}
use Rattle.posix_model.specs.State.{State, Target, Nothing, EndOf, MutexAt, ConditionAt, ASignal, ATime, Input, target}
use Rattle.posix_model.specs.Changes.{begun}
use Rattle.posix_model.specs.Arrivals.{arrive_signal, tick, arrive_data, arrive_end}
use Rattle.posix_model.specs.Deliveries.{Delivery, Acts, Gives, next_delivery, deliver, delivered, given, by_action, handled, awaited, set_pending}
use Rattle.posix_model.specs.Good.{IsGood}
use Rattle.posix_model.specs.Journals.{Kind, Taken, kind_of, is_kind, numbers_from, left_of_kind, entry_at}
use Rattle.posix_model.specs.Laws.{IsSameMove, IsWholeRun, OneRun, InstructionIsAlone, whole_text}
use Rattle.posix_model.specs.Lines.{lines, head_line}
use Rattle.posix_model.specs.Runs.{Rules, Moment, Allowed, IsAlone, MayArrive, moved, after, arrived, taken_by}
use Rattle.posix_model.specs.Trace.{switch_line, text, move_text, end_text}
use Rattle.posix_model.specs.declared.Head.TheVariants.{ArriveSig, ArriveTick, ArriveData, ArriveEof}
use Rattle.posix_model.specs.declared.Move.{Move}
use Rattle.posix_model.specs.declared.Move.TheVariants.{Instr, Arrive, Deliver}
use Rattle.posix_model.proofs.GoodMoves.{goodness}
use Rattle.posix_model.proofs.EndLemmas.{no_more, one_ending, nothing_arrives}
use Rattle.posix_model.proofs.NextLemmas.{given_pends}
use Rattle.posix_model.proofs.TextLemmas.{same_last, is_of_arrival, place_is_silent, tells_first, tells_count, same_first, same_count}

-- where an instruction is allowed, it is the only move
pub instruction_is_alone : InstructionIsAlone
instruction_is_alone rules now t (Instr u) a b = ap Instr (let e : Some u ≡ Some t = sym b.0.first ∙ a.0.first in cc)
instruction_is_alone rules now t Deliver a b = absurd (let e : None ≡ Some b.1 = sym a.0.settled ∙ b.2 in cc)
instruction_is_alone rules now t (Arrive first count at) a b = absurd (nothing_arrives rules now first count at a.0.nothing_due b)

-- a signal that is delivered is told, and not as an arrival
handled_is_told : (s : State) (t sig count at mask : ℕ) (goal : Target) (memory x : List ℕ)
    → is_of_arrival (lines (handled s t sig count at mask goal).report memory ++ x) ≡ false
unfolding lines head_line
handled_is_told s t sig count at mask Nothing memory x = refl
handled_is_told s t sig count at mask (EndOf u) memory x = refl
handled_is_told s t sig count at mask (MutexAt m) memory x = refl
handled_is_told s t sig count at mask (ConditionAt c) memory x = refl
handled_is_told s t sig count at mask (ASignal set) memory x = refl
handled_is_told s t sig count at mask (ATime until) memory x = refl
handled_is_told s t sig count at mask (Input buffer size) memory x = refl

action_is_told : (s : State) (t sig count : ℕ) (action : Action) (memory x : List ℕ) → (action ≡ Ignore → ⊥)
    → is_of_arrival (lines (by_action s t sig count action).report memory ++ x) ≡ false
unfolding lines head_line
action_is_told s t sig count Default memory x heeded = refl
action_is_told s t sig count Ignore memory x heeded = absurd (heeded refl)
action_is_told s t sig count (Handler at mask) memory x heeded = handled_is_told s t sig count at mask (target (s.threads t).standing) memory x

given_is_told : (s : State) (t sig count : ℕ) (memory x : List ℕ) → (s.actions sig ≡ Ignore → ⊥)
    → is_of_arrival (lines (given s t sig count).report memory ++ x) ≡ false
unfolding lines head_line
given_is_told s t sig count memory x heeded =
    elim (cases_Bool (waits_for (awaited s t) sig)) [
      | inl is ↦ rw is refl
      | inr un ↦ rw un (action_is_told s t sig count (s.actions sig) memory x heeded)
    ]

delivered_is_told : (s : State) (d : Delivery) (memory x : List ℕ) → IsGood s → next_delivery s ≡ Some d
    → is_of_arrival (lines (delivered s (Some d)).report memory ++ x) ≡ false
unfolding lines head_line
delivered_is_told s (Acts t) memory x good e = refl
delivered_is_told s (Gives t sig place) memory x good e =
    given_is_told (set_pending s place sig 0) t sig (s.pending place sig) memory x (λ ignored.
    let none = good.signals.heeded place sig (ap (λ a. ignores a sig) ignored) in
    let some = given_pends s t sig place e in
    omega (arith, none, some))

-- what the next delivery tells is not an arrival
pub delivery_is_told : (s : State) (d : Delivery) (memory x : List ℕ) → IsGood s → next_delivery s ≡ Some d
    → is_of_arrival (lines (deliver s).report memory ++ x) ≡ false
delivery_is_told s d memory x good e =
    ap (λ o. is_of_arrival (lines (delivered s o).report memory ++ x)) e ∙ delivered_is_told s d memory x good e

-- how many entries a kind has
kind_is_few : (kind : Kind) (n : ℕ) (entries : List Entry) → length (numbers_from kind n entries) ≤ length entries
kind_is_few kind n [] = omega arith
kind_is_few kind n (entry ∷ entries) =
    let rest = kind_is_few kind (n + 1) entries in
    elim (cases_Bool (is_kind kind (kind_of entry.what))) [
      | inl is ↦ rw is (omega (arith, rest))
      | inr un ↦ rw un (omega (arith, rest))
    ]

left_is_few : (kind : Kind) (taken : Taken) (entries : List Entry) → length (left_of_kind entries taken kind) ≤ length entries
left_is_few kind taken entries =
    let all = kind_is_few kind 1 entries in
    let some = length-drop (taken kind) (numbers_from kind 1 entries) in
    omega (arith, all, some)

-- the number of an entry
number_is_low : (entries : List Entry) (first : ℕ) (entry : Entry) → entry_at entries first ≡ Some entry → first ≤ length entries
number_is_low entries first entry e =
    elim (cases_Bool (first == 0)) [
      | inl is ↦ absurd (let f : None ≡ Some entry = rw is at e in cc)
      | inr un ↦ (let low = slice_get_within entries (first - 1) entry (rw un at e) in omega (arith, low))
    ]

-- numbers of a journal's entries
small : (n : ℕ) → n ≤ 1000000 → n < 2 ^ 64
small n low = let most : 1000000 < 2 ^ 64 = lit< tt in omega (arith, low, most)

-- the place of an arrival changes neither the state nor the lines
state_by : (rules : Rules) (s : State) (first count : ℕ) (at other place : Place) (what : What)
    → (arrived rules s first count at (Some (record { place = place; what = what }))).state
    ≡ (arrived rules s first count other (Some (record { place = place; what = what }))).state
state_by rules s first count at other place (Sig sig) = refl
state_by rules s first count at other place Tick = refl
state_by rules s first count at other place (Data start len) = refl
state_by rules s first count at other place Eof = refl

pub same_state : (rules : Rules) (s : State) (first count : ℕ) (at other : Place) (entry : Option Entry)
    → (arrived rules s first count at entry).state ≡ (arrived rules s first count other entry).state
same_state rules s first count at other None = refl
same_state rules s first count at other (Some entry) = state_by rules s first count at other entry.place entry.what

lines_by : (rules : Rules) (s : State) (first count : ℕ) (at other place : Place) (what : What) (memory : List ℕ)
    → lines (arrived rules s first count at (Some (record { place = place; what = what }))).report memory
    ≡ lines (arrived rules s first count other (Some (record { place = place; what = what }))).report memory
lines_by rules s first count at other place (Sig sig) memory = place_is_silent at other (ArriveSig first count sig) (arrive_signal (begun s) sig count) memory
lines_by rules s first count at other place Tick memory = place_is_silent at other (ArriveTick first) (tick rules.settings.quantum (begun s)) memory
lines_by rules s first count at other place (Data start len) memory =
    place_is_silent at other (ArriveData first len) (arrive_data (begun s) (take len (drop start rules.journal.bytes))) memory
lines_by rules s first count at other place Eof memory = place_is_silent at other (ArriveEof first) (arrive_end (begun s)) memory

pub same_lines : (rules : Rules) (s : State) (first count : ℕ) (at other : Place) (entry : Option Entry) (memory : List ℕ)
    → lines (arrived rules s first count at entry).report memory ≡ lines (arrived rules s first count other entry).report memory
same_lines rules s first count at other None memory = refl
same_lines rules s first count at other (Some entry) memory = lines_by rules s first count at other entry.place entry.what memory

module _ (rules : Rules) (now : Moment) where
  -- the text of an arrival, by its first entry
  abbrev arrival_text : (first count : ℕ) (at : Place) → Option Entry → List ℕ
  arrival_text first count at entry =
      lines (arrived rules now.state first count at entry).report (arrived rules now.state first count at entry).state.memory

  by_entry : (first count : ℕ) (at : Place) (entry : Entry) → entry_at rules.journal.entries first ≡ Some entry
      → move_text rules now (Arrive first count at) ≡ arrival_text first count at (Some entry)
  by_entry first count at entry here =
      ap (λ t. t ++ arrival_text first count at (entry_at rules.journal.entries first)) (same_last now.last) ∙ ap (arrival_text first count at) here

  -- the place of an arrival changes neither the text nor what follows
  same_text : (first count : ℕ) (at other : Place) → move_text rules now (Arrive first count at) ≡ move_text rules now (Arrive first count other)
  same_text first count at other =
      let entry : Option Entry = entry_at rules.journal.entries first in
      let line = switch_line now.last now.last in
      ap (λ s. line ++ lines (arrived rules now.state first count at entry).report s.memory) (same_state rules now.state first count at other entry)
      ∙ ap (λ t. line ++ t) (same_lines rules now.state first count at other entry (arrived rules now.state first count other entry).state.memory)

  same_moment : (first count : ℕ) (at other : Place) → moved rules now (Arrive first count at) ≡ moved rules now (Arrive first count other)
  same_moment first count at other =
      let entry : Option Entry = entry_at rules.journal.entries first in
      ap (λ s. record now { state = s; taken = taken_by now.taken count entry }) (same_state rules now.state first count at other entry)

  -- two arrivals of one first entry have one count
  count_by : (first count many : ℕ) (at other place : Place) (what : What) (x y : List ℕ)
      → first < 2 ^ 64 → count < 2 ^ 64 → many < 2 ^ 64 → IsAlone (kind_of what) count → IsAlone (kind_of what) many
      → arrival_text first count at (Some (record { place = place; what = what })) ++ x ≡ arrival_text first many other (Some (record { place = place; what = what })) ++ y
      → count ≡ many
  count_by first count many at other place (Sig sig) x y p q r alone only e =
      let g = arrive_signal (begun now.state) sig count in
      let h = arrive_signal (begun now.state) sig many in
      let a = tells_count first count at sig g g.state.memory in
      let b = tells_count first many other sig h h.state.memory in
      let entry : Entry = record { place = place; what = Sig sig } in
      same_count first count many (arrival_text first count at (Some entry)) (arrival_text first many other (Some entry)) a.0 b.0 x y p q r a.1 b.1 e
  count_by first count many at other place Tick x y p q r alone only e = alone ∙ sym only
  count_by first count many at other place (Data start len) x y p q r alone only e = alone ∙ sym only
  count_by first count many at other place Eof x y p q r alone only e = alone ∙ sym only

-- two moves that are allowed at one moment, told alike: the same move, which leads to one moment, and one text follows
record IsTold (rules : Rules) (now : Moment) (move other : Move) (x y : List ℕ) : Type 0 where
  same : IsSameMove move other
  leads : moved rules now move ≡ moved rules now other
  rest : x ≡ y

module _ (rules : Rules) (now : Moment) (journal : IsJournal rules.journal) where
  -- the numbers of an arrival are those of entries
  number_fits : (first count : ℕ) (at : Place) → MayArrive rules now first count at → first < 2 ^ 64
  number_fits first count at a = let low = number_is_low rules.journal.entries first a.entry a.here in small first (let few = journal.few in omega (arith, low, few))

  count_fits : (first count : ℕ) (at : Place) → MayArrive rules now first count at → count < 2 ^ 64
  count_fits first count at a =
      let low = left_is_few (kind_of a.entry.what) now.taken rules.journal.entries in
      let within = a.enough in
      small count (let few = journal.few in omega (arith, low, few, within))

  -- two arrivals of one text are of one entry
  one_first : (first count many other : ℕ) (at place : Place) (x y : List ℕ) → MayArrive rules now first count at → MayArrive rules now other many place
      → move_text rules now (Arrive first count at) ++ x ≡ move_text rules now (Arrive other many place) ++ y → first ≡ other
  one_first first count many other at place x y a b e =
      let one = tells_first rules now.state first count at a.entry.place a.entry.what (arrived rules now.state first count at (Some a.entry)).state.memory in
      let two = tells_first rules now.state other many place b.entry.place b.entry.what (arrived rules now.state other many place (Some b.entry)).state.memory in
      (same_first first other (move_text rules now (Arrive first count at)) (move_text rules now (Arrive other many place)) one.0 two.0 x y
      (number_fits first count at a) (number_fits other many place b)
      (by_entry rules now first count at a.entry a.here ∙ one.1) (by_entry rules now other many place b.entry b.here ∙ two.1) e).0

  -- and of as many
  one_count : (first count many : ℕ) (at place : Place) (x y : List ℕ) → MayArrive rules now first count at → MayArrive rules now first many place
      → move_text rules now (Arrive first count at) ++ x ≡ move_text rules now (Arrive first many place) ++ y → count ≡ many
  one_count first count many at place x y a b e =
      let both : Some b.entry ≡ Some a.entry = sym b.here ∙ a.here in
      let same : b.entry ≡ a.entry = cc in
      let only = subst (λ (entry : Entry). IsAlone (kind_of entry.what) many) same b.alone in
      count_by rules now first count many at place a.entry.place a.entry.what x y
      (number_fits first count at a) (count_fits first count at a) (count_fits first many place b) a.alone only
      (ap (λ t. t ++ x) (sym (by_entry rules now first count at a.entry a.here)) ∙ e ∙ ap (λ t. t ++ y) (by_entry rules now first many place a.entry a.here))

  -- two arrivals of one text are the same
  one_arrival : (first count many other : ℕ) (at place : Place) (x y : List ℕ) → MayArrive rules now first count at → MayArrive rules now other many place
      → move_text rules now (Arrive first count at) ++ x ≡ move_text rules now (Arrive other many place) ++ y
      → IsTold rules now (Arrive first count at) (Arrive other many place) x y
  one_arrival first count many other at place x y a b e =
      let firsts : first ≡ other = one_first first count many other at place x y a b e in
      let there = subst (λ n. MayArrive rules now n many place) (sym firsts) b in
      let alike = e ∙ ap (λ n. move_text rules now (Arrive n many place) ++ y) (sym firsts) in
      let counts : count ≡ many = one_count first count many at place x y a there alike in
      let text_now = move_text rules now (Arrive first count at) in
      let back : move_text rules now (Arrive other many place) ≡ text_now =
      (λ i. move_text rules now (Arrive (sym firsts i) (sym counts i) place)) ∙ same_text rules now first count place at in
      record {
        same = (firsts, counts);
        leads = same_moment rules now first count at place ∙ (λ i. moved rules now (Arrive (firsts i) (counts i) place));
        rest = append_cancel_left text_now x y (e ∙ ap (λ t. t ++ y) back);
      }

  -- a delivery is not told as an arrival
  not_both : (first count : ℕ) (at : Place) (d : Delivery) (x y : List ℕ) → IsGood now.state → next_delivery now.state ≡ Some d → MayArrive rules now first count at
      → move_text rules now Deliver ++ x ≡ move_text rules now (Arrive first count at) ++ y → ⊥
  not_both first count at d x y good e a same =
      let memory : List ℕ = (arrived rules now.state first count at (Some a.entry)).state.memory in
      let told = tells_first rules now.state first count at a.entry.place a.entry.what memory in
      let quiet : is_of_arrival (move_text rules now Deliver ++ x) ≡ false =
      ap (λ t. is_of_arrival (t ++ lines (deliver now.state).report (deliver now.state).state.memory ++ x)) (same_last now.last)
      ∙ delivery_is_told now.state d (deliver now.state).state.memory x good e in
      let loud : is_of_arrival (move_text rules now (Arrive first count at) ++ y) ≡ true =
      ap (λ t. is_of_arrival (t ++ y)) (by_entry rules now first count at a.entry a.here ∙ told.1) in
      let never : false ≡ true = sym quiet ∙ ap is_of_arrival same ∙ loud in cc

  -- two moves that are allowed at one moment, and told alike, are the same
  one_move : (move other : Move) (x y : List ℕ) → IsGood now.state → Allowed rules now move → Allowed rules now other
      → move_text rules now move ++ x ≡ move_text rules now other ++ y → IsTold rules now move other x y
  one_move (Instr t) (Instr u) x y good a b e =
      let same : t ≡ u = (let f : Some t ≡ Some u = sym a.0.first ∙ b.0.first in cc) in
      record {
        same = ap Instr same;
        leads = ap (λ v. moved rules now (Instr v)) same;
        rest = append_cancel_left (move_text rules now (Instr t)) x y (e ∙ ap (λ v. move_text rules now (Instr v) ++ y) (sym same));
      }
  one_move (Instr t) Deliver x y good a b e = absurd (let f : None ≡ Some b.1 = sym a.0.settled ∙ b.2 in cc)
  one_move (Instr t) (Arrive first count at) x y good a b e = absurd (nothing_arrives rules now first count at a.0.nothing_due b)
  one_move Deliver (Instr u) x y good a b e = absurd (let f : None ≡ Some a.1 = sym b.0.settled ∙ a.2 in cc)
  one_move Deliver Deliver x y good a b e = record { same = refl; leads = refl; rest = append_cancel_left (move_text rules now Deliver) x y e }
  one_move Deliver (Arrive first count at) x y good a b e = absurd (not_both first count at a.1 x y good a.2 b e)
  one_move (Arrive first count at) (Instr u) x y good a b e = absurd (nothing_arrives rules now first count at b.0.nothing_due a)
  one_move (Arrive first count at) Deliver x y good a b e = absurd (not_both first count at b.1 y x good b.2 a (sym e))
  one_move (Arrive first count at) (Arrive other many place) x y good a b e = one_arrival first count many other at place x y a b e

-- two whole runs of one text are the same, wherever entries were presented
pub one_run : OneRun
one_run rules now [] [] ending other journal good r q e = (tt, one_ending rules now ending other r.ends q.ends)
one_run rules now [] (k ∷ ks) ending other journal good r q e = absurd (no_more rules now ending k r.ends q.run.0)
one_run rules now (m ∷ ms) [] ending other journal good r q e = absurd (no_more rules now other m q.ends r.run.0)
one_run rules now (m ∷ ms) (k ∷ ks) ending other journal good r q e =
    let step = one_move rules now journal m k (whole_text rules (moved rules now m) ms ending) (whole_text rules (moved rules now k) ks other) good r.run.0 q.run.0
    (sym (append_assoc (move_text rules now m) (text rules (moved rules now m) ms) (end_text (after rules (moved rules now m) ms) ending))
    ∙ e ∙ append_assoc (move_text rules now k) (text rules (moved rules now k) ks) (end_text (after rules (moved rules now k) ks) other)) in
    let rest : IsWholeRun rules (moved rules now k) ks other = record { run = q.run.1; ends = q.ends } in
    let also = subst (λ n. IsWholeRun rules n ks other) (sym step.leads) rest in
    let told = step.rest ∙ ap (λ n. whole_text rules n ks other) (sym step.leads) in
    let more = one_run rules (moved rules now m) ms ks ending other journal (goodness.1 rules now m good r.run.0) (record { run = r.run.1; ends = r.ends }) also told in
    ((step.same, more.0), more.1)
