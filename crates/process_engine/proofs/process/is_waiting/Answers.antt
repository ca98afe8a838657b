use Rattle.std.proofs.Common.{◌∙◌, ap, sym, Bool, ◌&&◌}
use Rattle.posix_model.specs.Deliveries.{next_delivery}
use Rattle.kernel_state.specs.View.{view}
use Rattle.kernel_state.specs.Executing.{delivery_by}
use Rattle.kernel_state.specs.declared.tables.Tables.{Tables}
use Rattle.dispatcher.specs.Arriving.{is_empty}
use Rattle.process_engine.proofs.EngineLemmas.{some_ready, nobody_ready}
use Rattle.process_engine.proofs.process.is_waiting.Goals as goal

pub returns-in-Some : goal.returns-in-Some
returns-in-Some g c =
    let s = view g.R.Ready.order c.args.k.now.tables in
    sym (ap (λ (b : Bool). b && is_empty c.args.k.now.outside) (some_ready s c.in-Some.field-0 (sym c.chosen.ensures ∙ c.in-Some.is)))

pub returns-in-None-next_delivery : goal.returns-in-None-next_delivery
returns-in-None-next_delivery g c =
    let s = view g.R.Ready.order c.args.k.now.tables in
    let settled = ap (λ (t : Tables _). next_delivery (view g.R.Ready.order t)) (sym c.tables.ensures.tables) ∙ c.next_delivery.ensures ∙ ap delivery_by c.in-None-next_delivery.is in
    let waiting = nobody_ready s settled (sym c.chosen.ensures ∙ c.in-None.is) in
    c.is_empty.ensures.nothing ∙ ap is_empty c.outside.ensures ∙ sym (ap (λ (b : Bool). b && is_empty c.args.k.now.outside) waiting)
