-- What an arriving signal makes, by what it is, and what waits outside.
use Rattle.std.proofs.Common.{◌≡◌, ◌∙◌, ap, sym, refl, subst, arith, eqb, ℕ, zero, suc, ◌+◌, ◌-◌, ◌^◌, ◌≤◌, ◌<◌, Bool, true, false, List, [], ◌∷◌, Some, None, is_some, length}
use Rattle.std.specs.Prelude.{◌&&◌, if◌then◌else◌, slice_get, slice_index}
use Rattle.std.proofs.lemmas.List.{get_or-replicate}
use Rattle.std.proofs.lemmas.Bool.{eq-eqb, ne_eqb}
use Rattle.std.proofs.lemmas.Option.{slice_get_within}
use Rattle.thread_base.specs.Actions.{ignores}
use Rattle.thread_base.specs.Numbers.{IsInScope}
use Rattle.thread_base.specs.declared.Place.{Place}
use Rattle.journal_text.specs.declared.entry.Entry.{Entry}
use Rattle.journal_text.specs.declared.entry.What.{What}
use Rattle.journal_text.specs.declared.entry.What.TheVariants.{Sig, Tick, Data, Eof}
use Rattle.unix_process.specs.declared.Taken.{Taken}
use Rattle.unix_process.specs.declared.UnixEvent.{UnixEvent}
use Rattle.unix_process.specs.declared.UnixEvent.TheVariants as event
use Rattle.unix_process.specs.Merging.{same_event, merged, signal_of}
use Rattle.posix_model.specs.State.{State}
use Rattle.posix_model.specs.Reports.{nothing_told}
use Rattle.posix_model.specs.Changes.{Outcome, begun}
use Rattle.posix_model.specs.Deliveries.{pend, killed_by}
use Rattle.posix_model.specs.Arrivals.{dropped, arrive_signal, tick}
use Rattle.posix_model.specs.Journals.{OfSignal, OfTicks, OfInput, kind_of, entry_at}
use Rattle.posix_model.specs.Runs.{Rules, make, arrived, told_at}
use Rattle.posix_model.specs.declared.Head.TheVariants.{ArriveSig, ArriveTick}
use Rattle.posix_model.specs.declared.Move.TheVariants.{Arrive}
use Rattle.posix_model.specs.Weights.{pending_in_all}
use Rattle.posix_model.proofs.PendingMoves.{in_range}
use Rattle.kernel_state.specs.View.{view}
use Rattle.kernel_state.specs.Begun.{HasNotedSome}
use Rattle.kernel_state.specs.Kernels.{KernelState, IsIdle}
use Rattle.kernel_state.proofs.NoteLemmas.{noted_none}
use Rattle.kernel_state.specs.Outside.{OutsideState, gather, gathered, drained, is_nothing}
use Rattle.kernel_state.specs.Presented.{kind_of_event}
use Rattle.kernel_state.proofs.ArrivalLemmas.{drained_entry}
use Rattle.kernel_state.proofs.PresentedLemmas.{stands_gathered}
use Rattle.dispatcher.specs.Arriving.{is_empty, StandsForSome, is_signal_or_tick, Comes}

-- KILL ends the process
pub comes_kill : (g : Outcome) (sig count : ℕ) → sig ≡ 9 → killed_by sig count g ≡ arrive_signal g sig count
comes_kill g sig count is =
    sym (ap (λ b. if b then killed_by sig count g else if ignores (g.state.actions sig) sig then dropped g sig count else record g { state = pend g.state 0 sig count }) (eq-eqb sig 9 is))

-- one that is ignored is dropped
pub comes_ignored : (g : Outcome) (sig count : ℕ) → (sig ≡ 9 → ⊥) → ignores (g.state.actions sig) sig ≡ true → dropped g sig count ≡ arrive_signal g sig count
comes_ignored g sig count ne is =
    sym (
    ap (λ b. if b then killed_by sig count g else if ignores (g.state.actions sig) sig then dropped g sig count else record g { state = pend g.state 0 sig count }) (ne_eqb sig 9 ne)
    ∙ ap (λ b. if b then dropped g sig count else record g { state = pend g.state 0 sig count }) is)

-- every other pends
pub comes_pending : (g : Outcome) (sig count : ℕ) → (sig ≡ 9 → ⊥) → ignores (g.state.actions sig) sig ≡ false
    → record g { state = pend g.state 0 sig count } ≡ arrive_signal g sig count
comes_pending g sig count ne un =
    sym (
    ap (λ b. if b then killed_by sig count g else if ignores (g.state.actions sig) sig then dropped g sig count else record g { state = pend g.state 0 sig count }) (ne_eqb sig 9 ne)
    ∙ ap (λ b. if b then dropped g sig count else record g { state = pend g.state 0 sig count }) un)

-- so many entries of a signal arrive
pub signal_arrives : (rules : Rules) (s : State) (first count sig : ℕ) (at : Place) (entry : Entry) → entry_at rules.journal.entries first ≡ Some entry → entry.what ≡ Sig sig
    → told_at at (ArriveSig first count sig) (arrive_signal (begun s) sig count) ≡ make rules s (Arrive first count at)
signal_arrives rules s first count sig at entry here is =
    sym (ap (arrived rules s first count at) here ∙ ap (λ w. arrived rules s first count at (Some (record entry { what = w }))) is)

-- a tick arrives
pub tick_arrives : (rules : Rules) (s : State) (first count : ℕ) (at : Place) (entry : Entry) → entry_at rules.journal.entries first ≡ Some entry → entry.what ≡ Tick
    → told_at at (ArriveTick first) (tick rules.settings.quantum (begun s)) ≡ make rules s (Arrive first count at)
tick_arrives rules s first count at entry here is =
    sym (ap (arrived rules s first count at) here ∙ ap (λ w. arrived rules s first count at (Some (record entry { what = w }))) is)

-- ---- what waits

merged_some : (t : Taken) (ts : List Taken) → is_nothing (merged t ts) ≡ false
merged_some t [] = refl
merged_some t (u ∷ us) = by (same_event u.event t.event)
  where
    by : (b : Bool) → is_nothing (if b then record u { count = u.count + t.count } ∷ us else u ∷ merged t us) ≡ false
    by true = refl
    by false = refl

gathered_some : (log pending : List Taken) → (is_nothing log && is_nothing pending) ≡ false → is_nothing (gathered log pending) ≡ false
gathered_some [] [] h = let e : true ≡ false = h in absurd (cc)
gathered_some (t ∷ ts) [] h = refl
gathered_some [] (u ∷ us) h = gathered_some (merged u []) us refl
gathered_some (t ∷ ts) (u ∷ us) h = gathered_some (merged u (t ∷ ts)) us (ap (λ b. b && is_nothing us) (merged_some u (t ∷ ts)))

-- something is drained where something waits
pub some_drained : (o : OutsideState) → is_empty o ≡ false → is_some (drained (gather o).log.slots) ≡ true
some_drained o waits = by (gathered o.log.slots o.unix.pending) (gathered_some o.log.slots o.unix.pending waits)
  where
    by : (slots : List Taken) → is_nothing slots ≡ false → is_some (drained slots) ≡ true
    by [] h = let e : true ≡ false = h in absurd (cc)
    by (t ∷ ts) h = refl

-- what is drained is an entry of its kind
pub record IsOfEntry (o : OutsideState) (d : Taken) : Type 0 where
  pub entry : Entry
  pub here : entry_at o.journal.entries d.first ≡ Some entry
  pub kind : kind_of_event d.event ≡ kind_of entry.what

pub drained_of : (o : OutsideState) (d : Taken) → StandsForSome o → drained (gather o).log.slots ≡ Some d → IsOfEntry o d
drained_of o d stands is =
    let found = drained_entry (gather o) stands.0 d (stands_gathered o.journal.entries stands.0 o.presented o.log.slots o.unix.pending stands.1) is in
    record { entry = found.0; here = found.1; kind = found.2 }

-- of a signal it is an entry of that signal
pub is_signal : (e : UnixEvent) (what : What) (sig : ℕ) → kind_of_event e ≡ kind_of what → signal_of e ≡ Some sig → what ≡ Sig sig
is_signal (event.Sig s) (Sig r) sig kind h = let same : OfSignal s ≡ OfSignal r = kind in let of : Some s ≡ Some sig = h in cc
is_signal (event.Sig s) Tick sig kind h = let e : OfSignal s ≡ OfTicks = kind in absurd (cc)
is_signal (event.Sig s) (Data start len) sig kind h = let e : OfSignal s ≡ OfInput = kind in absurd (cc)
is_signal (event.Sig s) Eof sig kind h = let e : OfSignal s ≡ OfInput = kind in absurd (cc)
is_signal event.Tick what sig kind h = let e : None ≡ Some sig = h in absurd (cc)
is_signal event.Input what sig kind h = let e : None ≡ Some sig = h in absurd (cc)

-- and of none it is a tick, where all entries are signals or ticks
pub is_tick : (e : UnixEvent) (what : What) → kind_of_event e ≡ kind_of what → signal_of e ≡ None → is_signal_or_tick what ≡ true → what ≡ Tick
is_tick (event.Sig s) what kind h built = let e : Some s ≡ None = h in absurd (cc)
is_tick event.Tick (Sig r) kind h built = let e : OfTicks ≡ OfSignal r = kind in absurd (cc)
is_tick event.Tick Tick kind h built = refl
is_tick event.Tick (Data start len) kind h built = let e : false ≡ true = built in absurd (cc)
is_tick event.Tick Eof kind h built = let e : false ≡ true = built in absurd (cc)
is_tick event.Input (Sig r) kind h built = let e : OfInput ≡ OfSignal r = kind in absurd (cc)
is_tick event.Input Tick kind h built = refl
is_tick event.Input (Data start len) kind h built = let e : false ≡ true = built in absurd (cc)
is_tick event.Input Eof kind h built = let e : false ≡ true = built in absurd (cc)

-- its number is that of an entry
pub first_within : (entries : List Entry) (n : ℕ) (e : Entry) → entry_at entries n ≡ Some e → (1 ≤ n) × (n ≤ length entries)
first_within entries zero e here = let f : None ≡ Some e = here in absurd (cc)
first_within entries (suc n) e here =
    let other : eqb (suc n) 0 ≡ false = ne_eqb (suc n) 0 (λ x. omega (arith, x)) in
    let low = slice_get_within entries (suc n - 1) e (sym (ap (λ b. if b then None else slice_get entries (suc n - 1)) other) ∙ here) in
    (omega arith, omega (arith, low))

-- no more than 31 is a signal's number, and nothing was told to be dropped at the begin of a move
pub none_dropped : (s : State) (sig : ℕ) → IsInScope sig → slice_index (begun s).report.drops sig ≡ 0
unfolding nothing_told
none_dropped s sig scope = let range = in_range sig scope in get_or-replicate 32 sig 0 _ (omega (arith, range.1))

-- so many entries of a signal come at the begin of a move
pub signal_noted : {R : Type 0} (order : R → List ℕ) (k q : KernelState R) (sig count many : ℕ) → IsIdle k → k.tables.report ≡ nothing_told → pending_in_all (view order k.tables) < 2 ^ 62
    → count < 2 ^ 32 → IsInScope sig → many ≡ count → Comes order k q sig many → HasNotedSome order k q (arrive_signal (begun (view order k.tables)) sig count)
signal_noted order k q sig count many idle untold few fits scope same comes =
    let s : State = view order k.tables in
    subst (λ n. HasNotedSome order k q (arrive_signal (begun s) sig n)) same
    (comes k (begun s) (noted_none order k idle untold) (record { actions = refl; drops = none_dropped s sig scope; few = omega (arith, few, fits, same) }))
