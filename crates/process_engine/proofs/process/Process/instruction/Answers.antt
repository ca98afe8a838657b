use Rattle.std.proofs.Common.{◌∙◌, ◌<◌, ap, refl, sym, subst}
use Rattle.kernel_state.specs.Outside.{OutsideState}
use Rattle.process_engine.specs.Engine.{rules_of, Engine}
use Rattle.process_engine.specs.declared.stage.Stage.TheVariants.{Going}
use Rattle.process_engine.specs.contracts.process.Process.{the_view}
use Rattle.process_engine.proofs.EngineLemmas.{stands_at, has_room, going_turn, in_budget, goes_plain, goes_begun, plain_sound, begun_sound}
use Rattle.process_engine.proofs.process.Process.instruction.Goals as goal

pub make_instruction-requires : goal.make_instruction-requires
make_instruction-requires c =
    let p = the_view c.self.inside in
    let on = stands_at p Going c.self.invariant (ap (λ (x : Engine). x.stage) c.self.view_is ∙ c.requires.going) in
    record { idle = on.0; turn = on.1; room = has_room p c.self.inside.kernel c.self.invariant on.0 refl }

pub returns-then-make_instruction-clause-advances : goal.returns-then-make_instruction-clause-advances
returns-then-make_instruction-clause-advances c =
    let p = the_view c.self.inside in
    let going = ap (λ (x : Engine). x.stage) c.self.view_is ∙ c.requires.going in
    let before = subst (λ (x : Engine). x.instructions < x.stop) (sym c.self.view_is) c.requires.before in
    let on = going_turn p c.self.invariant going before in
    let made = c.if-make_instruction.ensures in
    goes_plain p c.args.self.now c.self.view_is _ c.self.invariant on.0 (in_budget p c.self.invariant before) c.self.inside.kernel c.make_instruction.new.k refl refl refl
    c.self.inside.last on.1 _ (ap (λ (o : OutsideState). rules_of c.self.inside.settings o.journal) made.outside) made c.self.inside.stage going refl

pub returns-then-make_instruction-clause-rules : goal.returns-then-make_instruction-clause-rules
returns-then-make_instruction-clause-rules c =
    ap (λ (o : OutsideState). rules_of c.self.inside.settings o.journal) c.if-make_instruction.ensures.outside ∙ ap (λ (x : Engine). x.rules) c.self.view_is

pub invariant_of-self : goal.invariant_of-self
invariant_of-self c =
    let p = the_view c.self.inside in
    let going = ap (λ (x : Engine). x.stage) c.self.view_is ∙ c.requires.going in
    let before = subst (λ (x : Engine). x.instructions < x.stop) (sym c.self.view_is) c.requires.before in
    let on = going_turn p c.self.invariant going before in
    let made = c.if-make_instruction.ensures in
    plain_sound p c.args.self.now c.self.view_is _ c.self.invariant on.0 (in_budget p c.self.invariant before) c.self.inside.kernel c.make_instruction.new.k refl refl refl
    c.self.inside.last on.1 _ (ap (λ (o : OutsideState). rules_of c.self.inside.settings o.journal) made.outside) made c.self.inside.stage going

pub returns-clause-advances : goal.returns-clause-advances
returns-clause-advances c =
    let p = the_view c.self.inside in
    let going = ap (λ (x : Engine). x.stage) c.self.view_is ∙ c.requires.going in
    let before = subst (λ (x : Engine). x.instructions < x.stop) (sym c.self.view_is) c.requires.before in
    let on = going_turn p c.self.invariant going before in
    let begun = c.if-make_instruction.ensures in
    goes_begun p c.args.self.now c.self.view_is _ c.self.invariant on.0 (in_budget p c.self.invariant before) c.self.inside.kernel c.make_instruction.new.k refl refl refl
    c.self.inside.last on.1 _ (ap (λ (o : OutsideState). rules_of c.self.inside.settings o.journal) begun.0.outside) begun

pub returns-clause-rules : goal.returns-clause-rules
returns-clause-rules c =
    ap (λ (o : OutsideState). rules_of c.self.inside.settings o.journal) c.if-make_instruction.ensures.0.outside ∙ ap (λ (x : Engine). x.rules) c.self.view_is

pub invariant_of-self-2 : goal.invariant_of-self-2
invariant_of-self-2 c =
    let p = the_view c.self.inside in
    let going = ap (λ (x : Engine). x.stage) c.self.view_is ∙ c.requires.going in
    let before = subst (λ (x : Engine). x.instructions < x.stop) (sym c.self.view_is) c.requires.before in
    let on = going_turn p c.self.invariant going before in
    let begun = c.if-make_instruction.ensures in
    begun_sound p c.args.self.now c.self.view_is _ c.self.invariant on.0 (in_budget p c.self.invariant before) c.self.inside.kernel c.make_instruction.new.k refl refl refl
    c.self.inside.last on.1 _ (ap (λ (o : OutsideState). rules_of c.self.inside.settings o.journal) begun.0.outside) begun
