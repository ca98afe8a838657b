use Rattle.std.proofs.Common.{◌∙◌, ap, rules}
use Rattle.kernel_state.specs.Outside.{OutsideState}
use Rattle.kernel_state.proofs.SoundLemmas.{attach_sound}
use Rattle.kernel_state.proofs.outside.Outside.attach.Goals as goal

pub invariant_of-self : goal.invariant_of-self
invariant_of-self c =
    attach_sound _ c.self.invariant c.args.journal c.in_ok-places.places.items
    (ap (λ (o : OutsideState). o.presented) c.self.view_is ∙ c.requires) c.len-count.ensures.journal.few
    (search rules)
