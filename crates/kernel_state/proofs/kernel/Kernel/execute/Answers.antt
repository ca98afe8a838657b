use Rattle.std.proofs.Common.{◌≡◌, ◌∙◌, ap, sym, subst, Some}
use Rattle.posix_model.specs.Scheduling.{chosen}
use Rattle.kernel_state.specs.View.{view}
use Rattle.kernel_state.specs.Kernels.{KernelState}
use Rattle.kernel_state.proofs.KernelLemmas.{rests, chosen_listed, sound_executed}
use Rattle.kernel_state.proofs.kernel.Kernel.execute.Goals as goal

pub execute-requires : goal.execute-requires
execute-requires g c =
    let order = g.R.Ready.order in
    let idle = ap (λ (x : KernelState _). x.main) c.self.view_is ∙ c.requires.idle in
    let first = subst (λ (x : KernelState _). chosen (view order x.tables) ≡ Some x.tables.records.placed) (sym c.self.view_is) c.requires.chosen in
    (chosen_listed _ _ (rests order g.R.Ready.prio _ c.self.invariant idle).0 first).0

pub invariant_of-self : goal.invariant_of-self
invariant_of-self g c =
    let order = g.R.Ready.order in
    let made = c.execute.ensures in
    let idle = ap (λ (x : KernelState _). x.main) c.self.view_is ∙ c.requires.idle in
    let first = subst (λ (x : KernelState _). chosen (view order x.tables) ≡ Some x.tables.records.placed) (sym c.self.view_is) c.requires.chosen in
    sound_executed order g.R.Ready.prio _ c.self.invariant _ c.execute.result idle first made.executed made.report made.current
