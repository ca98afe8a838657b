use Rattle.std.proofs.Common.{◌∙◌, ap, sym, refl, subst}
use Rattle.ready_queues.specs.Queue.{Queue, level_of}
use Rattle.posix_model.specs.Scheduling.{chosen}
use Rattle.kernel_state.specs.Kernels.{KernelState}
use Rattle.kernel_state.specs.View.{view}
use Rattle.kernel_state.specs.declared.tables.Tables.{Tables}
use Rattle.kernel_state.proofs.KernelLemmas.{rests}
use Rattle.process_engine.specs.Engine.{Engine, order, owed_of, telling_of, rules_of, is_due}
use Rattle.process_engine.specs.Advancing.{EndsHere}
use Rattle.process_engine.specs.declared.stage.Stage.TheVariants.{Paused}
use Rattle.posix_model.specs.declared.Ending.TheVariants.{Idle}
use Rattle.process_engine.specs.contracts.process.Process.{the_view}
use Rattle.process_engine.proofs.EngineLemmas.{stands_at, has_room, is_over, is_idle, not_due}
use Rattle.process_engine.proofs.ArrivalLemmas.{journal_stays, next_begins, next_sound, none_next}
use Rattle.process_engine.proofs.process.Process.resume.Goals as goal

pub returns-in-Some-clause-advances : goal.returns-in-Some-clause-advances
returns-in-Some-clause-advances c =
    let p = the_view c.self.inside in
    let rest = stands_at p Paused c.self.invariant (ap (λ (x : Engine). x.stage) c.self.view_is ∙ c.requires.rest) in
    is_over p c.args.self.now c.in-Some.ending c.self.view_is rest (ap (λ (t : Tables _). (view order t).over) (sym c.tables.ensures.tables) ∙ sym c.over.ensures ∙ c.in-Some.is)

pub begin_next-requires-clause-room : goal.begin_next-requires-clause-room
begin_next-requires-clause-room c =
    let p = the_view c.self.inside in
    let rest = stands_at p Paused c.self.invariant (ap (λ (x : Engine). x.stage) c.self.view_is ∙ c.requires.rest) in
    has_room p c.self.inside.kernel c.self.invariant rest refl

pub invariant_of-self : goal.invariant_of-self
invariant_of-self c =
    let p = the_view c.self.inside in
    let rest = stands_at p Paused c.self.invariant (ap (λ (x : Engine). x.stage) c.self.view_is ∙ c.requires.rest) in
    let over = ap (λ (t : Tables _). (view order t).over) (sym c.tables.ensures.tables) ∙ sym c.over.ensures ∙ c.in-None.is in
    let at_rest = rests order level_of _ c.tables.ensures.sound rest.main in
    let next = c.begin_next.ensures in
    let begun = sym c.if-begin_next.true ∙ next.begun in
    let journal = journal_stays p c.args.self.now c.self.view_is c.self.invariant rest at_rest.1 over c.begin_next.new.k next.arrival (λ nothing. next.delivery nothing c.if-begin_next.true) begun in
    next_sound p c.args.self.now c.self.view_is c.self.invariant rest at_rest.1 over c.begin_next.new.k next.arrival (λ nothing. next.delivery nothing c.if-begin_next.true) begun
    _ (ap (rules_of c.self.inside.settings) journal)

pub returns-then-begin_next-clause-advances : goal.returns-then-begin_next-clause-advances
returns-then-begin_next-clause-advances c =
    let p = the_view c.self.inside in
    let rest = stands_at p Paused c.self.invariant (ap (λ (x : Engine). x.stage) c.self.view_is ∙ c.requires.rest) in
    let over = ap (λ (t : Tables _). (view order t).over) (sym c.tables.ensures.tables) ∙ sym c.over.ensures ∙ c.in-None.is in
    let at_rest = rests order level_of _ c.tables.ensures.sound rest.main in
    let next = c.begin_next.ensures in
    let begun = sym c.if-begin_next.true ∙ next.begun in
    let journal = journal_stays p c.args.self.now c.self.view_is c.self.invariant rest at_rest.1 over c.begin_next.new.k next.arrival (λ nothing. next.delivery nothing c.if-begin_next.true) begun in
    next_begins p c.args.self.now c.self.view_is c.self.invariant rest at_rest.1 over c.begin_next.new.k next.arrival (λ nothing. next.delivery nothing c.if-begin_next.true) begun
    _ (ap (rules_of c.self.inside.settings) journal)

pub returns-in-None-chosen-clause-advances : goal.returns-in-None-chosen-clause-advances
returns-in-None-chosen-clause-advances c =
    let p = the_view c.self.inside in
    let paused = ap (λ (x : Engine). x.stage) c.self.view_is ∙ c.requires.rest in
    let rest = stands_at p Paused c.self.invariant paused in
    let over = ap (λ (t : Tables _). (view order t).over) (sym c.tables.ensures.tables) ∙ sym c.over.ensures ∙ c.in-None.is in
    let none = none_next _ _ (sym c.if-begin_next.false ∙ c.begin_next.ensures.begun) in
    let same = c.begin_next.ensures.settled c.if-begin_next.false in
    let nobody = ap (λ (k : KernelState Queue). chosen (view order k.tables)) (sym same) ∙ sym c.chosen.ensures ∙ c.in-None-chosen.is in
    let late = not_due p c.self.invariant (ap (λ s. telling_of s (owed_of p).report) paused) (ap is_due c.self.view_is ∙ c.requires.none_due) in
    let here = is_idle p c.args.self.now c.self.view_is c.self.invariant rest none.0 late over none.1 nobody in
    let after : KernelState Queue → Engine = λ k. record {
      kernel = k;
      instructions = c.self.inside.instructions;
      stop = c.self.inside.stop;
      last = c.self.inside.last;
      stage = c.self.inside.stage;
      rules = rules_of c.self.inside.settings k.outside.journal;
    } in
    subst (λ q. EndsHere c.args.self.now q Idle) (sym (ap after same ∙ c.self.view_is)) here
