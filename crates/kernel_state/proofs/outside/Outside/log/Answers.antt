use Rattle.std.proofs.Common.{arith, ap, sym, subst, ◌∙◌, ◌+◌, ◌≤◌, ◌≡◌, [], length}
use Rattle.monitor_log.specs.Log.{LogState}
use Rattle.posix_model.specs.Journals.{entry_at}
use Rattle.kernel_state.specs.Outside.{OutsideState, event_at}
use Rattle.kernel_state.proofs.SoundLemmas.{counts_few, log_sound}
use Rattle.kernel_state.proofs.outside.Outside.log.Goals as goal

pub invariant_of-self : goal.invariant_of-self
invariant_of-self c =
    log_sound _ c.self.invariant c.args.number c.args.event
    (c.requires.next ∙ ap (λ (o : OutsideState). o.presented + 1) (sym c.self.view_is))
    (subst (λ (o : OutsideState). c.args.number ≤ length o.journal.entries) (sym c.self.view_is) c.requires.there)
    (subst (λ (o : OutsideState). c.args.event ≡ event_at (entry_at o.journal.entries c.args.number)) (sym c.self.view_is) c.requires.event)
    c.requires.scope
    c.add.new.self
    (subst (λ (o : OutsideState). o.unix.pending ≡ []) (sym c.self.view_is) c.requires.gathered)
    (ap (λ (l : LogState). l.slots) c.add.ensures.slots)

pub add-requires : goal.add-requires
add-requires c = let few = counts_few _ c.args.event c.self.invariant in omega (arith, few)
