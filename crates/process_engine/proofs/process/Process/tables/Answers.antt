use Rattle.std.proofs.Common.{◌∙◌, ap, sym}
use Rattle.kernel_state.specs.View.{view}
use Rattle.process_engine.specs.Engine.{Engine, order, moment_of, position_of}
use Rattle.process_engine.specs.contracts.process.Process.{the_view}
use Rattle.process_engine.proofs.EngineLemmas.{moment_state, rest_stands}
use Rattle.process_engine.proofs.process.Process.tables.Goals as goal

pub returns : goal.returns
returns c =
    let rest = rest_stands (the_view c.self.inside) c.self.invariant (ap (λ (x : Engine). (position_of x).telling) c.self.view_is ∙ c.requires) in
    ap (view order) c.tables.ensures.tables ∙ sym (moment_state (the_view c.self.inside) rest) ∙ ap (λ (x : Engine). (moment_of x).state) c.self.view_is
