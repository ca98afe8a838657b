use Rattle.std.proofs.Common.{◌∙◌, ap, refl, arith, Some}
use Rattle.kernel_state.specs.Kernels.{KernelState}
use Rattle.kernel_state.specs.Outside.{OutsideState}
use Rattle.process_engine.specs.Engine.{rules_of, Engine}
use Rattle.process_engine.specs.declared.stage.Stage.TheVariants.{Going}
use Rattle.process_engine.specs.contracts.process.Process.{the_view}
use Rattle.process_engine.proofs.EngineLemmas.{chosen_turn, has_room, placed_idle, placed_turn, is_spent, goes_switched, goes_begun, plain_sound, begun_sound}
use Rattle.process_engine.proofs.process.Process.switch_to.Goals as goal

pub returns-then-self-clause-advances : goal.returns-then-self-clause-advances
returns-then-self-clause-advances c =
    let p = the_view c.self.inside in
    let here = c.requires in
    let turn = chosen_turn p c.args.self.now c.args.t c.self.view_is c.self.invariant here.rest here.none_due here.nothing_waits here.going_on here.settled here.chosen in
    is_spent p c.args.self.now c.args.t c.self.view_is c.self.invariant turn c.if-self.true

pub make_instruction-requires : goal.make_instruction-requires
make_instruction-requires c =
    let p = the_view c.self.inside in
    let here = c.requires in
    let turn = chosen_turn p c.args.self.now c.args.t c.self.view_is c.self.invariant here.rest here.none_due here.nothing_waits here.going_on here.settled here.chosen in
    let placed = c.place.ensures in
    record {
      idle = placed_idle p c.args.t turn c.place.new.self placed.view placed.placed placed.others;
      turn = placed_turn p c.args.t turn c.place.new.self placed.view placed.placed placed.others;
      room = has_room p c.place.new.self c.self.invariant turn.rest placed.view;
    }

pub returns-then-make_instruction-clause-advances : goal.returns-then-make_instruction-clause-advances
returns-then-make_instruction-clause-advances c =
    let p = the_view c.self.inside in
    let here = c.requires in
    let turn = chosen_turn p c.args.self.now c.args.t c.self.view_is c.self.invariant here.rest here.none_due here.nothing_waits here.going_on here.settled here.chosen in
    let within = c.self.invariant.within in
    let other = c.if-self.false in
    let placed = c.place.ensures in
    let made = c.if-make_instruction.ensures in
    goes_switched p c.args.self.now c.self.view_is c.args.t c.self.invariant turn (omega (arith, within, other)) c.place.new.self c.make_instruction.new.k placed.view placed.placed placed.others
    (Some c.args.t) refl _ (ap (λ (o : OutsideState). rules_of c.self.inside.settings o.journal) (made.outside ∙ ap (λ (x : KernelState _). x.outside) placed.others)) made Going refl

pub returns-then-make_instruction-clause-rules : goal.returns-then-make_instruction-clause-rules
returns-then-make_instruction-clause-rules c =
    ap (λ (o : OutsideState). rules_of c.self.inside.settings o.journal) (c.if-make_instruction.ensures.outside ∙ ap (λ (x : KernelState _). x.outside) c.place.ensures.others)
    ∙ ap (λ (x : Engine). x.rules) c.self.view_is

pub invariant_of-self : goal.invariant_of-self
invariant_of-self c =
    let p = the_view c.self.inside in
    let here = c.requires in
    let turn = chosen_turn p c.args.self.now c.args.t c.self.view_is c.self.invariant here.rest here.none_due here.nothing_waits here.going_on here.settled here.chosen in
    let within = c.self.invariant.within in
    let other = c.if-self.false in
    let placed = c.place.ensures in
    let made = c.if-make_instruction.ensures in
    plain_sound p c.args.self.now c.self.view_is c.args.t c.self.invariant turn (omega (arith, within, other)) c.place.new.self c.make_instruction.new.k placed.view placed.placed placed.others
    (Some c.args.t) refl _ (ap (λ (o : OutsideState). rules_of c.self.inside.settings o.journal) (made.outside ∙ ap (λ (x : KernelState _). x.outside) placed.others)) made Going refl

pub returns-clause-advances : goal.returns-clause-advances
returns-clause-advances c =
    let p = the_view c.self.inside in
    let here = c.requires in
    let turn = chosen_turn p c.args.self.now c.args.t c.self.view_is c.self.invariant here.rest here.none_due here.nothing_waits here.going_on here.settled here.chosen in
    let within = c.self.invariant.within in
    let other = c.if-self.false in
    let placed = c.place.ensures in
    let begun = c.if-make_instruction.ensures in
    goes_begun p c.args.self.now c.self.view_is c.args.t c.self.invariant turn (omega (arith, within, other)) c.place.new.self c.make_instruction.new.k placed.view placed.placed placed.others
    (Some c.args.t) refl _ (ap (λ (o : OutsideState). rules_of c.self.inside.settings o.journal) (begun.0.outside ∙ ap (λ (x : KernelState _). x.outside) placed.others)) begun

pub returns-clause-rules : goal.returns-clause-rules
returns-clause-rules c =
    ap (λ (o : OutsideState). rules_of c.self.inside.settings o.journal) (c.if-make_instruction.ensures.0.outside ∙ ap (λ (x : KernelState _). x.outside) c.place.ensures.others)
    ∙ ap (λ (x : Engine). x.rules) c.self.view_is

pub invariant_of-self-2 : goal.invariant_of-self-2
invariant_of-self-2 c =
    let p = the_view c.self.inside in
    let here = c.requires in
    let turn = chosen_turn p c.args.self.now c.args.t c.self.view_is c.self.invariant here.rest here.none_due here.nothing_waits here.going_on here.settled here.chosen in
    let within = c.self.invariant.within in
    let other = c.if-self.false in
    let placed = c.place.ensures in
    let begun = c.if-make_instruction.ensures in
    begun_sound p c.args.self.now c.self.view_is c.args.t c.self.invariant turn (omega (arith, within, other)) c.place.new.self c.make_instruction.new.k placed.view placed.placed placed.others
    (Some c.args.t) refl _ (ap (λ (o : OutsideState). rules_of c.self.inside.settings o.journal) (begun.0.outside ∙ ap (λ (x : KernelState _). x.outside) placed.others)) begun
