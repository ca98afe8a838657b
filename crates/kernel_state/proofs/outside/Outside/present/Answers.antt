use Rattle.std.proofs.Common.{◌∙◌, ap, sym, subst, ◌+◌}
use Rattle.posix_model.specs.Journals.{entry_at}
use Rattle.kernel_state.specs.Outside.{OutsideState}
use Rattle.kernel_state.specs.Presented.{Stands}
use Rattle.kernel_state.proofs.ArrivalLemmas.{accept_stands, log_stands}
use Rattle.kernel_state.proofs.outside.Outside.present.Goals as goal

pub returns-then-is_blocked-clause-stands : goal.returns-then-is_blocked-clause-stands
returns-then-is_blocked-clause-stands c = λ taken s.
    let noted = c.note_place.ensures in
    subst (λ (o : OutsideState). Stands o taken) (sym c.accept.ensures)
    (accept_stands c.note_place.new.self taken c.args.number c.event_of-event.result c.entry.result
    (c.requires.next ∙ ap (λ (o : OutsideState). o.presented + 1) (sym noted))
    c.entry.ensures c.event_of-event.ensures.event c.event_of-event.ensures.scope
    (subst (λ (o : OutsideState). Stands o taken) (sym noted) s))

pub returns-else-is_blocked-clause-stands : goal.returns-else-is_blocked-clause-stands
returns-else-is_blocked-clause-stands c = λ taken s.
    let noted = c.note_place.ensures in
    let all = c.gather.ensures.state in
    subst (λ (o : OutsideState). Stands o taken) (sym c.log.ensures)
    (log_stands c.gather.new.self taken c.args.number c.event_of-event.result c.entry.result
    (c.requires.next ∙ ap (λ (o : OutsideState). o.presented + 1) (sym noted) ∙ ap (λ (o : OutsideState). o.presented + 1) (sym all))
    (ap (λ (o : OutsideState). entry_at o.journal.entries c.args.number) all ∙ c.entry.ensures)
    c.event_of-event.ensures.event c.event_of-event.ensures.scope
    (c.gather.ensures.stands taken (subst (λ (o : OutsideState). Stands o taken) (sym noted) s))
    (ap (λ (o : OutsideState). o.unix.pending) all))
