use Rattle.std.proofs.Common.{arith, ap, sym, subst, []}
use Rattle.unix_process.specs.Unix.{UnixState}
use Rattle.monitor_log.specs.Log.{LogState}
use Rattle.kernel_state.specs.Presented.{StandsFor, Stands}
use Rattle.kernel_state.specs.Recorded.{journal_of}
use Rattle.kernel_state.proofs.PresentedLemmas.{stands_gathered}
use Rattle.kernel_state.proofs.SoundLemmas.{counts_few, gather_sound}
use Rattle.kernel_state.proofs.outside.Outside.gather.Goals as goal

pub invariant_of-self : goal.invariant_of-self
invariant_of-self c =
    gather_sound _ c.self.invariant c.move_all.new.unix c.move_all.new.log
    (ap (λ (u : UnixState). u.pending) c.move_all.ensures.pending) (ap (λ (l : LogState). l.slots) c.move_all.ensures.log)

pub returns-clause-stands : goal.returns-clause-stands
returns-clause-stands c = λ taken s.
    let entries = (journal_of c.self.inside.recording).entries in
    subst (λ (u : UnixState). StandsFor entries taken c.self.inside.presented c.move_all.new.log.slots u.pending) (sym c.move_all.ensures.pending)
    (subst (λ (l : LogState). StandsFor entries taken c.self.inside.presented l.slots []) (sym c.move_all.ensures.log)
    (stands_gathered entries taken c.self.inside.presented c.self.inside.log.slots c.self.inside.unix.pending
    (subst (λ o. Stands o taken) (sym c.self.view_is) s)))

pub move_all-requires : goal.move_all-requires
move_all-requires c = record { fits = λ e. let few = counts_few _ e c.self.invariant in omega (arith, few) }
