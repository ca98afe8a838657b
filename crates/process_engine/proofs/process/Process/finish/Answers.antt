use Rattle.std.proofs.Common.{◌∙◌, ap, subst}
use Rattle.kernel_state.specs.Outside.{OutsideState}
use Rattle.process_engine.specs.Engine.{rules_of, Engine, position_of}
use Rattle.process_engine.specs.Turns.{Completes}
use Rattle.process_engine.specs.declared.stage.Stage.TheVariants.{Paused, InCall}
use Rattle.process_engine.specs.contracts.process.Process.{the_view}
use Rattle.process_engine.proofs.EngineLemmas.{stands_at}
use Rattle.process_engine.proofs.StepLemmas.{finish_sound, completes}
use Rattle.process_engine.proofs.process.Process.finish.Goals as goal

pub finish-report-requires : goal.finish-report-requires
finish-report-requires c = (stands_at (the_view c.self.inside) InCall c.self.invariant (ap (λ (x : Engine). x.stage) c.self.view_is ∙ c.requires)).begun

pub invariant_of-self : goal.invariant_of-self
invariant_of-self c =
    let calling = ap (λ (x : Engine). x.stage) c.self.view_is ∙ c.requires in
    let all = c.finish-report.ensures in
    finish_sound (the_view c.self.inside) c.finish-report.new.self c.self.invariant calling _ (ap (λ (o : OutsideState). rules_of c.self.inside.settings o.journal) all.outside)
    c.finish-report.result all.state all.report all.idle all.settings all.outside

pub returns-clause-completes : goal.returns-clause-completes
returns-clause-completes c =
    let calling = ap (λ (x : Engine). x.stage) c.self.view_is ∙ c.requires in
    let all = c.finish-report.ensures in
    let q : Engine = record {
      kernel = c.finish-report.new.self;
      instructions = c.self.inside.instructions;
      stop = c.self.inside.stop;
      last = c.self.inside.last;
      stage = Paused;
      rules = rules_of c.self.inside.settings c.finish-report.new.self.outside.journal;
    } in
    subst (λ x. Completes (position_of x) c.finish-report.result (position_of q)) c.self.view_is
    (completes (the_view c.self.inside) c.finish-report.new.self c.self.invariant calling q.rules (ap (λ (o : OutsideState). rules_of c.self.inside.settings o.journal) all.outside)
    c.finish-report.result all.state all.report all.idle all.settings all.outside)

pub returns-clause-rules : goal.returns-clause-rules
returns-clause-rules c =
    ap (λ (o : OutsideState). rules_of c.self.inside.settings o.journal) c.finish-report.ensures.outside ∙ ap (λ (x : Engine). x.rules) c.self.view_is
