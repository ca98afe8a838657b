use Rattle.std.proofs.Common.{◌≡◌, ◌∙◌, ap, sym, subst, ◌≤◌, ◌-◌, true, false, is_some, length}
use Rattle.std.specs.Prelude.{slice_get}
use Rattle.posix_model.specs.State.{State}
use Rattle.posix_model.specs.Changes.{Outcome, begun}
use Rattle.posix_model.specs.Arrivals.{arrive_signal, tick}
use Rattle.posix_model.specs.Runs.{make, told_at}
use Rattle.posix_model.specs.declared.Move.TheVariants.{Arrive}
use Rattle.posix_model.specs.declared.Head.TheVariants.{ArriveSig, ArriveTick}
use Rattle.kernel_state.specs.View.{view}
use Rattle.kernel_state.specs.Begun.{IsBegun}
use Rattle.kernel_state.specs.Kernels.{KernelState}
use Rattle.kernel_state.specs.Outside.{OutsideState}
use Rattle.kernel_state.specs.declared.tables.Tables.{Tables}
use Rattle.dispatcher.specs.Arriving.{rules_of}
use Rattle.dispatcher.proofs.ArrivalLemmas.{some_drained, drained_of, is_signal, is_tick, signal_arrives, tick_arrives, first_within}
use Rattle.dispatcher.proofs.arrival.begin_arrival.Goals as goal

pub unreachable-requires : goal.unreachable-requires
unreachable-requires g c =
    let some = some_drained c.args.k.now.outside c.requires.some in
    let none = sym c.drain.ensures.first ∙ c.in_default.is in
    let e : false ≡ true = sym (ap is_some none) ∙ some in absurd (cc)

pub place-at-requires-clause-first : goal.place-at-requires-clause-first
place-at-requires-clause-first g c =
    let of = drained_of c.args.k.now.outside c.in-Some.taken c.requires.stands (sym c.drain.ensures.first ∙ c.in-Some.is) in
    (first_within c.args.k.now.outside.journal.entries c.in-Some.taken.first of.entry of.here).0

pub place-at-requires-clause-there : goal.place-at-requires-clause-there
place-at-requires-clause-there g c =
    let of = drained_of c.args.k.now.outside c.in-Some.taken c.requires.stands (sym c.drain.ensures.first ∙ c.in-Some.is) in
    let outside = c.outside.ensures ∙ ap (λ (x : KernelState _). x.outside) c.drain.ensures.rest in
    subst (λ (o : OutsideState). c.in-Some.taken.first ≤ length o.journal.entries) (sym outside) (first_within c.args.k.now.outside.journal.entries c.in-Some.taken.first of.entry of.here).1

pub returns-in-Some-signal : goal.returns-in-Some-signal
returns-in-Some-signal g c =
    let order = g.R.Ready.order in
    let k = c.args.k.now in
    let d = c.in-Some.taken in
    let at = c.place-at.result in
    let s : State = view order k.tables in
    let sig = c.in-Some-signal.s in
    let of = drained_of k.outside d c.requires.stands (sym c.drain.ensures.first ∙ c.in-Some.is) in
    let outside = c.outside.ensures ∙ ap (λ (x : KernelState _). x.outside) c.drain.ensures.rest in
    let goes : Outcome = make (rules_of k) s (Arrive d.first d.count at) in
    let told : told_at at (ArriveSig d.first d.count sig) (arrive_signal (begun s) sig d.count) ≡ goes =
    signal_arrives (rules_of k) s d.first d.count sig at of.entry of.here (is_signal d.event of.entry.what sig of.kind (sym c.signal.ensures.value ∙ c.in-Some-signal.is)) in
    let tables : c.drain.new.self.tables ≡ k.tables = ap (λ (x : KernelState _). x.tables) c.drain.ensures.rest in
    let also : told_at at (ArriveSig d.first d.count sig) (arrive_signal (begun (view order c.drain.new.self.tables)) sig d.count) ≡ goes =
    ap (λ (x : Tables _). told_at at (ArriveSig d.first d.count sig) (arrive_signal (begun (view order x)) sig d.count)) tables ∙ told in
    let begins : IsBegun order c.drain.new.self c.begin_signal.new.k goes = subst (IsBegun order c.drain.new.self c.begin_signal.new.k) also c.begin_signal.ensures in
    record {
      taken = d;
      first = sym c.drain.ensures.first ∙ c.in-Some.is;
      at = at;
      placed = ap (λ (o : OutsideState). slice_get o.places (d.first - 1)) (sym outside) ∙ c.place-at.ensures;
      begun = subst (λ (x : KernelState _). IsBegun order x c.begin_signal.new.k goes) c.drain.ensures.rest begins;
    }

pub returns-in-None : goal.returns-in-None
returns-in-None g c =
    let order = g.R.Ready.order in
    let k = c.args.k.now in
    let d = c.in-Some.taken in
    let at = c.place-at.result in
    let s : State = view order k.tables in
    let of = drained_of k.outside d c.requires.stands (sym c.drain.ensures.first ∙ c.in-Some.is) in
    let outside = c.outside.ensures ∙ ap (λ (x : KernelState _). x.outside) c.drain.ensures.rest in
    let goes : Outcome = make (rules_of k) s (Arrive d.first d.count at) in
    let is = is_tick d.event of.entry.what of.kind (sym c.signal.ensures.value ∙ c.in-None.is) (c.requires.built d.first of.entry of.here) in
    let told : told_at at (ArriveTick d.first) (tick k.settings.quantum (begun s)) ≡ goes = tick_arrives (rules_of k) s d.first d.count at of.entry of.here is in
    let drained = c.drain.ensures.rest in
    let also : told_at at (ArriveTick d.first) (tick c.drain.new.self.settings.quantum (begun (view order c.drain.new.self.tables))) ≡ goes =
    ap (λ (x : KernelState _). told_at at (ArriveTick d.first) (tick x.settings.quantum (begun (view order x.tables)))) drained ∙ told in
    let begins : IsBegun order c.drain.new.self c.begin_tick.new.k goes = subst (IsBegun order c.drain.new.self c.begin_tick.new.k) also c.begin_tick.ensures in
    record {
      taken = d;
      first = sym c.drain.ensures.first ∙ c.in-Some.is;
      at = at;
      placed = ap (λ (o : OutsideState). slice_get o.places (d.first - 1)) (sym outside) ∙ c.place-at.ensures;
      begun = subst (λ (x : KernelState _). IsBegun order x c.begin_tick.new.k goes) drained begins;
    }
