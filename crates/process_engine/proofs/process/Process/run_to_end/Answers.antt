use Rattle.std.proofs.Common.{◌∙◌, refl}
use Rattle.process_engine.specs.Engine.{Engine, moment_of, position_of}
use Rattle.process_engine.specs.declared.Turn.TheVariants.{Quiet, Made, Ended}
use Rattle.process_engine.proofs.WholeLemmas.{none_run, good_run, quiet_run, made_run, ended_run, quiet_falls, made_falls, turn_from}
use Rattle.process_engine.proofs.process.Process.run_to_end.Goals as goal

pub loop-ending-init : goal.loop-ending-init
loop-ending-init c = (refl, none_run c.args.self.now.rules (moment_of c.args.self.now))

pub loop-ending-smaller-in-Quiet : goal.loop-ending-smaller-in-Quiet
loop-ending-smaller-in-Quiet c =
    let old : Engine = c.loop-ending.self in
    let at : Engine = c.present_due.new.self in
    let new : Engine = c.turn.new.self in
    let turn = turn_from at.rules c.args.self.now.rules (position_of at) (position_of old) (position_of new) Quiet (c.present_due.ensures.rules ∙ c.loop-ending.invariant.0) c.present_due.ensures.same c.in-Quiet.ensures.turn in
    quiet_falls c.args.self.now.rules (position_of old) (position_of new) c.sound.ensures.whole
    (good_run c.args.self.now.rules (moment_of c.args.self.now) (moment_of old) c.sound.ensures.good c.loop-ending.invariant.1) turn

pub loop-ending-preserved-in-Quiet : goal.loop-ending-preserved-in-Quiet
loop-ending-preserved-in-Quiet c =
    let old : Engine = c.loop-ending.self in
    let at : Engine = c.present_due.new.self in
    let new : Engine = c.turn.new.self in
    let turn = turn_from at.rules c.args.self.now.rules (position_of at) (position_of old) (position_of new) Quiet (c.present_due.ensures.rules ∙ c.loop-ending.invariant.0) c.present_due.ensures.same c.in-Quiet.ensures.turn in (
      c.in-Quiet.ensures.rules ∙ c.present_due.ensures.rules ∙ c.loop-ending.invariant.0,
      quiet_run c.args.self.now.rules (moment_of c.args.self.now) (position_of old) (position_of new) c.loop-ending.invariant.1 turn,
    )

pub loop-ending-smaller : goal.loop-ending-smaller
loop-ending-smaller c =
    let old : Engine = c.loop-ending.self in
    let at : Engine = c.present_due.new.self in
    let new : Engine = c.turn.new.self in
    let turn =
    turn_from at.rules c.args.self.now.rules (position_of at) (position_of old) (position_of new) (Made c.in-Made.field-0) (c.present_due.ensures.rules ∙ c.loop-ending.invariant.0) c.present_due.ensures.same
    c.in-Made.ensures.turn in
    made_falls c.args.self.now.rules (position_of old) (position_of new) c.in-Made.field-0 turn

pub loop-ending-preserved : goal.loop-ending-preserved
loop-ending-preserved c =
    let old : Engine = c.loop-ending.self in
    let at : Engine = c.present_due.new.self in
    let new : Engine = c.turn.new.self in
    let turn =
    turn_from at.rules c.args.self.now.rules (position_of at) (position_of old) (position_of new) (Made c.in-Made.field-0) (c.present_due.ensures.rules ∙ c.loop-ending.invariant.0) c.present_due.ensures.same
    c.in-Made.ensures.turn in (
      c.in-Made.ensures.rules ∙ c.present_due.ensures.rules ∙ c.loop-ending.invariant.0,
      made_run c.args.self.now.rules (moment_of c.args.self.now) (position_of old) (position_of new) c.loop-ending.invariant.1 c.in-Made.field-0 turn,
    )

pub returns-in-Ended-clause-ran : goal.returns-in-Ended-clause-ran
returns-in-Ended-clause-ran c =
    let old : Engine = c.loop-ending.self in
    let at : Engine = c.present_due.new.self in
    let new : Engine = c.turn.new.self in
    let turn =
    turn_from at.rules c.args.self.now.rules (position_of at) (position_of old) (position_of new) (Ended c.in-Ended.ending) (c.present_due.ensures.rules ∙ c.loop-ending.invariant.0) c.present_due.ensures.same
    c.in-Ended.ensures.turn in
    ended_run c.args.self.now.rules (moment_of c.args.self.now) (position_of old) (position_of new) c.loop-ending.invariant.1 c.in-Ended.ending turn

pub returns-in-Ended-clause-rules : goal.returns-in-Ended-clause-rules
returns-in-Ended-clause-rules c = c.in-Ended.ensures.rules ∙ c.present_due.ensures.rules ∙ c.loop-ending.invariant.0
