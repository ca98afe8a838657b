use Rattle.std.proofs.Common.{◌∙◌, ap, sym}
use Rattle.process_engine.specs.Engine.{Engine}
use Rattle.process_engine.specs.contracts.process.Process.{the_view}
use Rattle.process_engine.proofs.EngineLemmas.{is_stopped}
use Rattle.process_engine.proofs.process.Process.advance.Goals as goal

pub returns-else-self-clause-advances : goal.returns-else-self-clause-advances
returns-else-self-clause-advances c =
    is_stopped (the_view c.self.inside) c.args.self.now c.self.view_is c.self.invariant (sym (ap (λ (x : Engine). x.stage) c.self.view_is) ∙ c.in-Going.is) c.requires.none_due c.if-self.false
