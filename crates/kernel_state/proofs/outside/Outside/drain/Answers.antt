use Rattle.std.proofs.Common.{◌≡◌, ◌∙◌, rules, sym, subst, refl, Option, Some, None, IfSome}
use Rattle.unix_process.specs.declared.Taken.{Taken}
use Rattle.posix_model.specs.Journals.{with_taken}
use Rattle.kernel_state.specs.Outside.{OutsideState, drained, drain}
use Rattle.kernel_state.specs.Presented.{kind_of_event, Stands, taken_of, IsSound, IsOfEntry}
use Rattle.kernel_state.specs.Recorded.{journal_of, places_of}
use Rattle.kernel_state.proofs.ArrivalLemmas.{drained_stands, drained_of_entry}
use Rattle.kernel_state.proofs.SoundLemmas.{drain_sound}
use Rattle.kernel_state.proofs.outside.Outside.drain.Goals as goal

-- what holds of what is there
if_some : (o : Option Taken) (P : Taken → Type 0) → ((d : Taken) → o ≡ Some d → P d) → IfSome o P
if_some None P h = tt
if_some (Some d) P h = h d refl

pub returns-then-is_some-clause-stands : goal.returns-then-is_some-clause-stands
returns-then-is_some-clause-stands c = λ taken d is s.
    let after : OutsideState = record {
      unix = c.self.inside.unix;
      log = c.drain.new.self;
      journal = journal_of c.self.inside.recording;
      places = places_of c.self.inside.recording;
      presented = c.self.inside.presented;
    } in
    let first : c.drain.result ≡ drained c.args.self.now.log.slots = search rules in
    let rest : after ≡ drain c.args.self.now = search rules in
    subst (λ (o : OutsideState). Stands o (with_taken taken (kind_of_event d.event) d.count)) (sym rest)
    (drained_stands c.args.self.now taken d s (sym first ∙ is))

pub returns-else-is_some-clause-stands : goal.returns-else-is_some-clause-stands
returns-else-is_some-clause-stands c = λ taken d is s.
    let after : OutsideState = record {
      unix = c.self.inside.unix;
      log = c.drain_one.new.self;
      journal = journal_of c.self.inside.recording;
      places = places_of c.self.inside.recording;
      presented = c.self.inside.presented;
    } in
    let first : c.drain_one.result ≡ drained c.args.self.now.log.slots = search rules in
    let rest : after ≡ drain c.args.self.now = search rules in
    subst (λ (o : OutsideState). Stands o (with_taken taken (kind_of_event d.event) d.count)) (sym rest)
    (drained_stands c.args.self.now taken d s (sym first ∙ is))

pub invariant_of-self : goal.invariant_of-self
invariant_of-self c =
    let view : OutsideState = record {
      unix = c.self.inside.unix;
      log = c.self.inside.log;
      journal = journal_of c.self.inside.recording;
      places = places_of c.self.inside.recording;
      presented = c.self.inside.presented;
    } in
    let rest : record view { log = c.drain.new.self } ≡ drain view = search rules in
    subst IsSound (sym rest) (drain_sound view c.self.invariant)

pub invariant_of-self-else-is_some : goal.invariant_of-self-else-is_some
invariant_of-self-else-is_some c =
    let view : OutsideState = record {
      unix = c.self.inside.unix;
      log = c.self.inside.log;
      journal = journal_of c.self.inside.recording;
      places = places_of c.self.inside.recording;
      presented = c.self.inside.presented;
    } in
    let rest : record view { log = c.drain_one.new.self } ≡ drain view = search rules in
    subst IsSound (sym rest) (drain_sound view c.self.invariant)

pub returns-then-is_some-clause-entry : goal.returns-then-is_some-clause-entry
returns-then-is_some-clause-entry c =
    let first : c.drain.result ≡ drained c.args.self.now.log.slots = search rules in
    let stands = subst (λ (o : OutsideState). Stands o (taken_of o)) c.self.view_is c.self.invariant.stands in
    if_some c.drain.result (IsOfEntry c.args.self.now) (λ d is. drained_of_entry c.args.self.now (taken_of c.args.self.now) d stands (sym first ∙ is))

pub returns-else-is_some-clause-entry : goal.returns-else-is_some-clause-entry
returns-else-is_some-clause-entry c =
    let first : c.drain_one.result ≡ drained c.args.self.now.log.slots = search rules in
    let stands = subst (λ (o : OutsideState). Stands o (taken_of o)) c.self.view_is c.self.invariant.stands in
    if_some c.drain_one.result (IsOfEntry c.args.self.now) (λ d is. drained_of_entry c.args.self.now (taken_of c.args.self.now) d stands (sym first ∙ is))
