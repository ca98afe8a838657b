use Rattle.std.proofs.Common.{◌∙◌, ap}
use Rattle.process_engine.specs.Engine.{Engine, moment_of}
use Rattle.process_engine.specs.declared.stage.Stage.TheVariants.{Going}
use Rattle.process_engine.specs.contracts.process.Process.{the_view}
use Rattle.process_engine.proofs.EngineLemmas.{stands_at, paused_sound, paused_now}
use Rattle.process_engine.proofs.process.Process.pause.Goals as goal

pub invariant_of-self : goal.invariant_of-self
invariant_of-self c =
    let p = the_view c.self.inside in
    let on = stands_at p Going c.self.invariant (ap (λ (x : Engine). x.stage) c.self.view_is ∙ c.requires) in
    paused_sound p c.self.invariant on.0

pub returns-clause-same : goal.returns-clause-same
returns-clause-same c = paused_now (the_view c.self.inside) ∙ ap moment_of c.self.view_is
