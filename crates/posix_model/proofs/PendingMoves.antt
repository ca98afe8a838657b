-- All that pends came by an instruction or an entry, and the time is that of the ticks taken, move by move and for runs.
use Rattle.std.proofs.Common.{◌≡◌, refl, sym, ap, subst, arith, ℕ, zero, suc, ◌+◌, ◌≤◌, true, ◌&&◌, ◌||◌, List, [], ◌∷◌, ◌++◌, take, drop, Option, Some, None}
use Rattle.std.specs.Prelude.{if◌then◌else◌, ◌==◌, nat_lt, nat_le, slice_get}
use Rattle.std.proofs.lemmas.Bool.{eq-eqb, leb-true, and_parts}
use Rattle.std.proofs.lemmas.Option.{same_Some}
use Rattle.thread_base.specs.Deliveries.{signals}
use Rattle.thread_base.specs.Numbers.{IsInScope}
use Rattle.thread_base.specs.declared.Place.{Place}
use Rattle.journal_text.specs.Valid.{IsJournal, IsEvent, EachFollows}
use Rattle.journal_text.specs.declared.entry.Entry.{Entry}
use Rattle.journal_text.specs.declared.entry.What.{What}
use Rattle.journal_text.specs.declared.entry.What.TheVariants.{Sig, Tick, Data, Eof}
use Rattle.posix_model.specs.State.{State}
use Rattle.posix_model.specs.Changes.{Outcome, begun}
use Rattle.posix_model.specs.Deliveries.{delivered}
use Rattle.posix_model.specs.Arrivals.{readers}
use Rattle.posix_model.specs.Journals.{OfSignal, OfTicks, kind_of, Taken, with_taken, entry_at}
use Rattle.posix_model.specs.Runs.{Rules, Moment, Allowed, IsRun, arrived, moved, after, taken_by, IsAlone}
use Rattle.posix_model.specs.Start.{start}
use Rattle.posix_model.specs.Weights.{total, PendsInScope, pending_in_all}
use Rattle.posix_model.specs.Laws.{taken_in_all, IsBounded, PendingIsBounded}
use Rattle.posix_model.specs.declared.Move.{Move}
use Rattle.posix_model.specs.declared.Move.TheVariants.{Instr, Arrive, Deliver}
use Rattle.posix_model.proofs.PendingLemmas.{either}
use Rattle.posix_model.proofs.PendingCalls.{adds_come}
use Rattle.posix_model.proofs.JournalLemmas.{place_in}
use Rattle.posix_model.proofs.WeightLemmas.{total_fewer}
use Rattle.posix_model.proofs.Weights.{next_due}
use Rattle.posix_model.proofs.PendingCounts.{Adds, all_of, nothing_pends, adds_stays}
use Rattle.posix_model.proofs.PendingSums.{adds_instruction, adds_delivered, adds_tick, stays_serve_all, stays_answer_all}

-- what comes is in scope
abbrev ComesInScope : What → Type 0
ComesInScope (Sig sig) = IsInScope sig
ComesInScope Tick = Unit {0}
ComesInScope (Data first len) = Unit {0}
ComesInScope Eof = Unit {0}

event_scope : (before : List Entry) (what : What) → IsEvent before what → ComesInScope what
event_scope before (Sig sig) h = h
event_scope before Tick h = tt
event_scope before (Data first len) h = tt
event_scope before Eof h = tt

each_scope : (before es : List Entry) (i : ℕ) (e : Entry) → EachFollows before es → slice_get es i ≡ Some e → ComesInScope e.what
each_scope before [] i e each is = let f : None ≡ Some e = is in absurd (cc)
each_scope before (x ∷ es) zero e each is = subst (λ (y : Entry). ComesInScope y.what) (same_Some x e is) (event_scope before x.what each.0.event)
each_scope before (x ∷ es) (suc i) e each is = each_scope (before ++ x ∷ []) es i e each.1 is

entry_scope : (es : List Entry) (n : ℕ) (e : Entry) → EachFollows [] es → entry_at es n ≡ Some e → ComesInScope e.what
entry_scope es n e each is = let place = place_in es n e is in each_scope [] es place.0 e each place.2

-- a signal in scope has one of the numbers of signals
pub in_range : (sig : ℕ) → IsInScope sig → (1 ≤ sig) × (sig ≤ 31)
in_range sig h =
    let low = and_parts (nat_le 1 sig) (nat_le sig 31 && (nat_lt sig 18 || nat_lt 22 sig)) h in
    let high = and_parts (nat_le sig 31) (nat_lt sig 18 || nat_lt 22 sig) low.1 in
    (leb-true 1 sig low.0, leb-true sig 31 high.0)

-- more entries were taken
module _ (taken : Taken) (count : ℕ) where
  more_signals : (sig : ℕ) → 1 ≤ sig → sig ≤ 31
      → total (λ u. taken (OfSignal u)) signals + count ≤ total (λ u. with_taken taken (OfSignal sig) count (OfSignal u)) signals
  unfolding signals
  more_signals sig low high =
      total_fewer (λ u. taken (OfSignal u)) (λ u. with_taken taken (OfSignal sig) count (OfSignal u)) sig count 1 31
      (λ u. either (λ n. taken (OfSignal u) ≤ n) (u == sig) (taken (OfSignal u) + count) (taken (OfSignal u)) (omega arith) (omega arith))
      (let here : with_taken taken (OfSignal sig) count (OfSignal sig) ≡ taken (OfSignal sig) + count =
      ap (λ b. if b then taken (OfSignal sig) + count else taken (OfSignal sig)) (eq-eqb sig sig refl) in
      omega (arith, here))
      low (omega arith)

  more_taken : (what : What) → ComesInScope what → taken_in_all taken + count ≤ taken_in_all (with_taken taken (kind_of what) count)
  more_taken (Sig sig) scope = let range = in_range sig scope in let more = more_signals sig range.0 range.1 in omega (arith, more)
  more_taken Tick scope = omega arith
  more_taken (Data first len) scope = omega arith
  more_taken Eof scope = omega arith

-- ---- one move

-- how many signals a move adds at most to those that pend: an instruction one, entries one each, a delivery none
abbrev pub most_added : Move → ℕ
most_added (Instr t) = 1
most_added (Arrive first count at) = count
most_added Deliver = 0

-- by how much the time goes on
abbrev ticks_of : What → ℕ
ticks_of (Sig sig) = 0
ticks_of Tick = 1
ticks_of (Data first len) = 0
ticks_of Eof = 0

abbrev ticks_at : Option Entry → ℕ
ticks_at None = 0
ticks_at (Some entry) = ticks_of entry.what

abbrev ticks_by : Rules → Move → ℕ
ticks_by rules (Instr t) = 0
ticks_by rules (Arrive first count at) = ticks_at (entry_at rules.journal.entries first)
ticks_by rules Deliver = 0

adds_arrived : (rules : Rules) (s : State) (first count : ℕ) (at : Place) (entry : Entry) → ComesInScope entry.what → IsAlone (kind_of entry.what) count
    → Adds s (arrived rules s first count at (Some entry)).state count (ticks_of entry.what)
adds_arrived rules s first count at entry scope alone = by entry.what scope alone
  where
    next : What → State
    next what = (arrived rules s first count at (Some (record entry { what = what }))).state

    by : (what : What) → ComesInScope what → IsAlone (kind_of what) count → Adds s (next what) count (ticks_of what)
    by (Sig sig) scope alone = let came = adds_come (begun s) 0 sig count scope in record { sum = came.sum; time = came.time; scope = came.scope }
    by Tick scope alone =
        let came = adds_tick rules.settings.quantum s in let sum = came.sum in record { sum = omega (arith, sum, alone); time = came.time; scope = came.scope }
    by (Data start len) scope alone =
        let joined : Outcome = record (begun s) { state = record s { input = s.input ++ take len (drop start rules.journal.bytes) } } in
        adds_stays s (next (Data start len)) count 0 (stays_serve_all joined (readers s))
    by Eof scope alone =
        let over : Outcome = record (begun s) { state = record s { is_input_over = true } } in
        adds_stays s (next Eof) count 0 (stays_answer_all over (readers s))

adds_move : (rules : Rules) (now : Moment) (move : Move) → IsJournal rules.journal → PendsInScope now.state → Allowed rules now move
    → Adds now.state (moved rules now move).state (most_added move) (ticks_by rules move)
adds_move rules now (Instr t) journal pends allowed =
    let adds = adds_instruction now.state t in record { sum = adds.sum; time = adds.time; scope = adds.scope }
adds_move rules now (Arrive first count at) journal pends may =
    let scope = entry_scope rules.journal.entries first may.entry journal.each may.here in
    let adds = subst (λ o. Adds now.state (arrived rules now.state first count at o).state count (ticks_at o)) (sym may.here)
    (adds_arrived rules now.state first count at may.entry scope may.alone) in
    record { sum = adds.sum; time = adds.time; scope = adds.scope }
adds_move rules now Deliver journal pends allowed =
    let s : State = now.state in
    let adds = subst (λ o. Adds s (delivered s o).state 0 0) (sym allowed.2) (adds_delivered s allowed.1 pends (next_due s allowed.1 allowed.2)) in
    record { sum = adds.sum; time = adds.time; scope = adds.scope }

-- after an allowed move so many more pend at most, all of signals in scope
pub move_adds : (rules : Rules) (now : Moment) (move : Move) → IsJournal rules.journal → PendsInScope now.state → Allowed rules now move
    → (pending_in_all (moved rules now move).state ≤ pending_in_all now.state + most_added move) × PendsInScope (moved rules now move).state
move_adds rules now move journal pends allowed =
    let adds = adds_move rules now move journal pends allowed in
    let sum = adds.sum in
    let before = all_of now.state in
    let after = all_of (moved rules now move).state in
    (omega (arith, sum, before, after), adds.scope pends)

-- ---- runs

-- what a move adds is an instruction made or entries taken
record IsCounted (rules : Rules) (now : Moment) (move : Move) : Type 0 where
  sum : now.instructions + taken_in_all now.taken + most_added move ≤ (moved rules now move).instructions + taken_in_all (moved rules now move).taken
  time : now.taken OfTicks + ticks_by rules move ≤ (moved rules now move).taken OfTicks

more_ticks : (taken : Taken) (count : ℕ) (what : What) → IsAlone (kind_of what) count → taken OfTicks + ticks_of what ≤ with_taken taken (kind_of what) count OfTicks
more_ticks taken count (Sig sig) alone = omega arith
more_ticks taken count Tick alone = omega (arith, alone)
more_ticks taken count (Data first len) alone = omega arith
more_ticks taken count Eof alone = omega arith

counted : (rules : Rules) (now : Moment) (move : Move) → IsJournal rules.journal → Allowed rules now move → IsCounted rules now move
counted rules now (Instr t) journal allowed = record { sum = omega arith; time = omega arith }
counted rules now (Arrive first count at) journal may =
    let scope = entry_scope rules.journal.entries first may.entry journal.each may.here in
    let more = subst (λ o. taken_in_all now.taken + count ≤ taken_in_all (taken_by now.taken count o)) (sym may.here) (more_taken now.taken count may.entry.what scope) in
    record {
      sum = omega (arith, more);
      time = subst (λ o. now.taken OfTicks + ticks_at o ≤ taken_by now.taken count o OfTicks) (sym may.here) (more_ticks now.taken count may.entry.what may.alone);
    }
counted rules now Deliver journal allowed = record { sum = omega arith; time = omega arith }

-- a bounded moment stays so, move by move
pub bounded_move : (rules : Rules) (now : Moment) (move : Move) → IsJournal rules.journal → IsBounded now → Allowed rules now move → IsBounded (moved rules now move)
bounded_move rules now move journal bounded allowed =
    let adds = adds_move rules now move journal bounded.scope allowed in
    let more = (move_adds rules now move journal bounded.scope allowed).0 in
    let counts = counted rules now move journal allowed in
    let room = counts.sum in
    let ticks = counts.time in
    let before = bounded.sum in
    let time = adds.time in
    let early = bounded.time in
    record { sum = omega (arith, more, before, room); time = omega (arith, time, early, ticks); scope = adds.scope bounded.scope }

bounded_run : (rules : Rules) (now : Moment) (moves : List Move) → IsJournal rules.journal → IsBounded now → IsRun rules now moves → IsBounded (after rules now moves)
bounded_run rules now [] journal bounded run = bounded
bounded_run rules now (m ∷ ms) journal bounded run = bounded_run rules (moved rules now m) ms journal (bounded_move rules now m journal bounded run.0) run.1

-- at a start nothing pends
pub bounded_start : (memory : List ℕ) (entry : ℕ) → IsBounded (start memory entry)
bounded_start memory entry = record {
  sum = (let whole = all_of (start memory entry).state in omega (arith, nothing_pends, whole));
  time = omega arith;
  scope = λ place sig h. absurd (omega (arith, h));
}

pub pending_is_bounded : PendingIsBounded
pending_is_bounded rules memory entry moves journal run =
    bounded_run rules (start memory entry) moves journal (bounded_start memory entry) run
