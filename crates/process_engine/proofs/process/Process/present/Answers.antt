use Rattle.std.proofs.Common.{◌∙◌, ap, arith, refl, subst, ◌+◌, ◌≡◌}
use Rattle.ready_queues.specs.Queue.{Queue}
use Rattle.kernel_state.specs.Kernels.{KernelState}
use Rattle.kernel_state.specs.Outside.{OutsideState, present}
use Rattle.process_engine.specs.Engine.{Engine, moment_of, rules_of, is_due, stop_of}
use Rattle.process_engine.specs.Turns.{Presents}
use Rattle.process_engine.specs.declared.stage.Stage.TheVariants.{Paused}
use Rattle.process_engine.specs.contracts.process.Process.{the_view}
use Rattle.process_engine.proofs.DueLemmas.{due_there}
use Rattle.process_engine.proofs.EngineLemmas.{due_parts, rest_stands}
use Rattle.process_engine.proofs.ArrivalLemmas.{present_sound, same_position}
use Rattle.process_engine.proofs.process.Process.present.Goals as goal

pub present-requires-clause-there : goal.present-requires-clause-there
present-requires-clause-there c =
    let p = the_view c.self.inside in
    let parts = due_parts p (ap is_due c.self.view_is ∙ c.requires) in
    let there = due_there p.rules (moment_of p) (p.kernel.outside.presented + 1) parts.1 in
    let number = c.presented-number.ensures.number in
    let same = ap (λ (o : OutsideState). o.presented) c.outside.ensures in
    omega (arith, there, number, same)

pub invariant_of-self : goal.invariant_of-self
invariant_of-self c =
    let p = the_view c.self.inside in
    let parts = due_parts p (ap is_due c.self.view_is ∙ c.requires) in
    let number = c.presented-number.ensures.number in
    let same = ap (λ (o : OutsideState). o.presented) c.outside.ensures in
    let so = c.present.ensures.state in
    present_sound p c.self.invariant (rest_stands p c.self.invariant parts.0) parts.1 (record { n = c.self.inside.instructions; k = 0 }) refl (c.presented-number.result + 1) (omega (arith, number, same))
    c.present.new.self so c.present.ensures.stands c.stop_before-self-inside.result (c.stop_before-self-inside.ensures ∙ ap (stop_of c.self.inside.settings.budget) c.next_place.ensures.place)
    _ (ap (λ (k : KernelState Queue). rules_of c.self.inside.settings k.outside.journal) so)

pub returns-clause-presents : goal.returns-clause-presents
returns-clause-presents c =
    let p = the_view c.self.inside in
    let parts = due_parts p (ap is_due c.self.view_is ∙ c.requires) in
    let counted = c.presented-number.ensures.number in
    let same = ap (λ (o : OutsideState). o.presented) c.outside.ensures in
    let number : c.presented-number.result + 1 ≡ p.kernel.outside.presented + 1 = omega (arith, counted, same) in
    let so = c.present.ensures.state in
    let q : Engine = record {
      kernel = c.present.new.self;
      instructions = c.self.inside.instructions;
      stop = c.stop_before-self-inside.result;
      last = c.self.inside.last;
      stage = Paused;
      rules = rules_of c.self.inside.settings c.present.new.self.outside.journal;
    } in
    subst (λ x. Presents x q) c.self.view_is (record {
      kernel = so ∙ ap (λ n. record p.kernel { outside = present p.kernel.outside n (record { n = c.self.inside.instructions; k = 0 }) }) number;
      position =
          same_position p c.self.invariant (rest_stands p c.self.invariant parts.0) parts.1 (record { n = c.self.inside.instructions; k = 0 }) refl (c.presented-number.result + 1) number
          c.present.new.self so c.present.ensures.stands q.stop (c.stop_before-self-inside.ensures ∙ ap (stop_of c.self.inside.settings.budget) c.next_place.ensures.place)
          q.rules (ap (λ (k : KernelState Queue). rules_of c.self.inside.settings k.outside.journal) so) parts.0;
    })
