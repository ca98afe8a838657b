use Rattle.std.proofs.Common.{◌∙◌, ap, sym, refl, arith, ◌&&◌}
use Rattle.std.specs.Prelude.{◌||◌}
use Rattle.std.proofs.lemmas.Bool.{le-leb, lt-leb}
use Rattle.posix_model.specs.Runs.{is_waiting}
use Rattle.kernel_state.specs.View.{view}
use Rattle.dispatcher.specs.Arriving.{is_empty}
use Rattle.process_engine.specs.Engine.{order, owed_of, is_due}
use Rattle.process_engine.specs.contracts.process.Process.{the_view}
use Rattle.process_engine.proofs.DueLemmas.{is_reached_or}
use Rattle.process_engine.proofs.EngineLemmas.{quiet_stage, rest_stands, due_found}
use Rattle.process_engine.proofs.process.Process.due.Goals as goal

pub returns-in-None : goal.returns-in-None
returns-in-None c =
    let p = the_view c.self.inside in
    let quiet = quiet_stage p.stage (owed_of p).report c.in_default.not-InCall in
    let waits = is_waiting (view order p.kernel.tables) && is_empty p.kernel.outside in
    ap (λ o. is_reached_or o p.instructions waits) (sym c.in-None.is ∙ c.next_place.ensures.place)
    ∙ due_found p c.self.invariant (rest_stands p c.self.invariant quiet) quiet waits refl ∙ ap is_due c.self.view_is

pub returns-then-n-self : goal.returns-then-n-self
returns-then-n-self c =
    let p = the_view c.self.inside in
    let quiet = quiet_stage p.stage (owed_of p).report c.in_default.not-InCall in
    let waits = is_waiting (view order p.kernel.tables) && is_empty p.kernel.outside in
    let low = le-leb c.in-Some.n p.instructions c.if-n-self.true in
    low ∙ sym (ap (λ b. b || waits) low)
    ∙ ap (λ o. is_reached_or o p.instructions waits) (sym c.in-Some.is ∙ c.next_place.ensures.place)
    ∙ due_found p c.self.invariant (rest_stands p c.self.invariant quiet) quiet waits refl ∙ ap is_due c.self.view_is

pub returns-else-n-self : goal.returns-else-n-self
returns-else-n-self c =
    let p = the_view c.self.inside in
    let quiet = quiet_stage p.stage (owed_of p).report c.in_default.not-InCall in
    let waits = c.is_waiting.result in
    let late = lt-leb c.in-Some.n p.instructions (let high = c.if-n-self.false in omega (arith, high)) in
    sym (ap (λ b. b || waits) late)
    ∙ ap (λ o. is_reached_or o p.instructions waits) (sym c.in-Some.is ∙ c.next_place.ensures.place)
    ∙ due_found p c.self.invariant (rest_stands p c.self.invariant quiet) quiet waits c.is_waiting.ensures ∙ ap is_due c.self.view_is
