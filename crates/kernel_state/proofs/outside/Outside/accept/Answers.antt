use Rattle.std.proofs.Common.{arith, ap, sym, subst, ◌∙◌, ◌+◌, ◌≤◌, ◌≡◌, length}
use Rattle.unix_process.specs.Unix.{UnixState}
use Rattle.posix_model.specs.Journals.{entry_at}
use Rattle.kernel_state.specs.Outside.{OutsideState, event_at}
use Rattle.kernel_state.proofs.SoundLemmas.{counts_few, accept_sound}
use Rattle.kernel_state.proofs.outside.Outside.accept.Goals as goal

pub invariant_of-self : goal.invariant_of-self
invariant_of-self c =
    accept_sound _ c.self.invariant c.args.number c.args.event
    (c.requires.next ∙ ap (λ (o : OutsideState). o.presented + 1) (sym c.self.view_is))
    (subst (λ (o : OutsideState). c.args.number ≤ length o.journal.entries) (sym c.self.view_is) c.requires.there)
    (subst (λ (o : OutsideState). c.args.event ≡ event_at (entry_at o.journal.entries c.args.number)) (sym c.self.view_is) c.requires.event)
    c.requires.scope
    c.accept.new.self (ap (λ (u : UnixState). u.pending) c.accept.ensures)

pub accept-requires : goal.accept-requires
accept-requires c = let few = counts_few _ c.args.event c.self.invariant in omega (arith, few)
