use Rattle.std.proofs.Common.{◌∙◌, ap, subst, inr, length}
use Rattle.kernel_state.specs.Outside.{OutsideState}
use Rattle.process_engine.specs.Engine.{rules_of, Engine, position_of}
use Rattle.process_engine.specs.Turns.{Leaves, CompletesLast}
use Rattle.process_engine.specs.declared.stage.Stage.TheVariants.{Paused, InCall}
use Rattle.process_engine.specs.contracts.process.Process.{the_view}
use Rattle.process_engine.proofs.EngineLemmas.{stands_at}
use Rattle.process_engine.proofs.StepLemmas.{step_sound, leaves, finish_sound, completes}
use Rattle.process_engine.proofs.process.Process.step.Goals as goal

pub step-requires : goal.step-requires
step-requires c = (stands_at (the_view c.self.inside) InCall c.self.invariant (ap (λ (x : Engine). x.stage) c.self.view_is ∙ c.requires)).begun

pub invariant_of-self : goal.invariant_of-self
invariant_of-self c =
    let calling = ap (λ (x : Engine). x.stage) c.self.view_is ∙ c.requires in
    let one = c.in-More.ensures.step in
    step_sound (the_view c.self.inside) c.step.new.self c.self.invariant calling _ (ap (λ (o : OutsideState). rules_of c.self.inside.settings o.journal) one.outside) one c.step.ensures.small

pub invariant_of-self-in-Exit : goal.invariant_of-self-in-Exit
invariant_of-self-in-Exit c =
    let calling = ap (λ (x : Engine). x.stage) c.self.view_is ∙ c.requires in
    let told = c.in-Exit.ensures.step.0 in
    let last = c.in-Exit.ensures.step.1 in
    finish_sound (the_view c.self.inside) c.step.new.self c.self.invariant calling _ (ap (λ (o : OutsideState). rules_of c.self.inside.settings o.journal) last.outside)
    c.in-Exit.report last.view_is told last.idle last.settings last.outside

pub returns-in-More-clause-turn : goal.returns-in-More-clause-turn
returns-in-More-clause-turn c =
    let calling = ap (λ (x : Engine). x.stage) c.self.view_is ∙ c.requires in
    let one = c.in-More.ensures.step in
    let q : Engine = record {
      kernel = c.step.new.self;
      instructions = c.self.inside.instructions;
      stop = c.self.inside.stop;
      last = c.self.inside.last;
      stage = c.self.inside.stage;
      rules = rules_of c.self.inside.settings c.step.new.self.outside.journal;
    } in
    inr (
    subst (λ x. Leaves (position_of x) (position_of q)) c.self.view_is
    (leaves (the_view c.self.inside) c.step.new.self c.self.invariant calling q.rules (ap (λ (o : OutsideState). rules_of c.self.inside.settings o.journal) one.outside) one c.step.ensures.small))

pub returns-in-More-clause-rules : goal.returns-in-More-clause-rules
returns-in-More-clause-rules c =
    ap (λ (o : OutsideState). rules_of c.self.inside.settings o.journal) c.in-More.ensures.step.outside ∙ ap (λ (x : Engine). x.rules) c.self.view_is

pub returns-in-Exit-clause-turn : goal.returns-in-Exit-clause-turn
returns-in-Exit-clause-turn c =
    let calling = ap (λ (x : Engine). x.stage) c.self.view_is ∙ c.requires in
    let told = c.in-Exit.ensures.step.0 in
    let last = c.in-Exit.ensures.step.1 in
    let q : Engine = record {
      kernel = c.step.new.self;
      instructions = c.self.inside.instructions;
      stop = c.self.inside.stop;
      last = c.self.inside.last;
      stage = Paused;
      rules = rules_of c.self.inside.settings c.step.new.self.outside.journal;
    } in
    subst (λ x. CompletesLast (position_of x) c.in-Exit.report (position_of q)) c.self.view_is
    (record {
      completes =
          completes (the_view c.self.inside) c.step.new.self c.self.invariant calling q.rules (ap (λ (o : OutsideState). rules_of c.self.inside.settings o.journal) last.outside)
          c.in-Exit.report last.view_is told last.idle last.settings last.outside;
      last = ap length last.last;
      small = c.step.ensures.small;
    })

pub returns-in-Exit-clause-rules : goal.returns-in-Exit-clause-rules
returns-in-Exit-clause-rules c =
    ap (λ (o : OutsideState). rules_of c.self.inside.settings o.journal) c.in-Exit.ensures.step.1.outside ∙ ap (λ (x : Engine). x.rules) c.self.view_is
