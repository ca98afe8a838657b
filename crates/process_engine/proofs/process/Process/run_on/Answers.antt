use Rattle.std.proofs.Common.{◌∙◌, ap, refl, sym, subst, ◌-◌, ◌≤◌, arith}
use Rattle.posix_model.specs.declared.Head.TheVariants.{Quiet}
use Rattle.trace_text.specs.Counting.{plus, told_by}
use Rattle.process_engine.specs.Engine.{Engine, moment_of, owed_of, telling_of}
use Rattle.process_engine.specs.Advancing.{Proceeds}
use Rattle.process_engine.specs.declared.stage.Advance.TheVariants.{Switched, End}
use Rattle.process_engine.proofs.RunLemmas.{SoFar, none_so_far, stays_good, more_so_far, more_fails, made_grows, ended_whole, ended_fails, runs_err, finished, falls, tally_few}
use Rattle.process_engine.proofs.process.Process.run_on.Goals as goal

pub loop-before-init : goal.loop-before-init
loop-before-init g c =
    let rules = c.args.self.now.rules in
    let start = moment_of c.args.self.now in
    let written = g.O.Sink.written c.args.out.now in
    let faults = g.O.Sink.faults c.args.out.now in (
      refl,
      c.requires,
      ap (λ (x : Engine). x.instructions) c.self.view_is,
      subst (λ told. SoFar c.args.mode rules start start told written written faults faults) (sym c.none-told.ensures) (none_so_far c.args.mode rules start written faults),
    )

pub with_move-told-requires : goal.with_move-told-requires
with_move-told-requires g c =
    tally_few c.args.mode c.args.self.now.rules (moment_of c.args.self.now) (moment_of c.loop-before.self) c.loop-before.told _ _ _ _ c.sound.ensures.whole c.sound.ensures.good c.sound.ensures.limit c.loop-before.invariant.3

pub with_move-told-requires-in-Begun : goal.with_move-told-requires-in-Begun
with_move-told-requires-in-Begun g c =
    tally_few c.args.mode c.args.self.now.rules (moment_of c.args.self.now) (moment_of c.loop-before.self) c.loop-before.told _ _ _ _ c.sound.ensures.whole c.sound.ensures.good c.sound.ensures.limit c.loop-before.invariant.3

pub loop-before-smaller-in-Continue-1 : goal.loop-before-smaller-in-Continue-1
loop-before-smaller-in-Continue-1 g c =
    let rules = c.args.self.now.rules in
    let old : Engine = c.loop-before.self in
    let new : Engine = c.proceed.new.self in
    let on = subst (λ s. Proceeds s old (Switched c.in-Switched.before) new) c.loop-before.invariant.0 c.in-Switched.ensures.proceeds in
    falls rules (moment_of old) (moment_of new) _ _ c.sound.ensures.whole (stays_good rules _ _ _ _ c.sound.ensures.good c.loop-before.invariant.3.makes) on.0

pub loop-before-smaller : goal.loop-before-smaller
loop-before-smaller g c =
    let rules = c.args.self.now.rules in
    let old : Engine = c.loop-before.self in
    let new : Engine = c.finish-report.new.self in
    let made = finished old.rules rules old c.proceed.new.self new c.in-Begun.before c.finish-report.result c.loop-before.invariant.0 c.in-Begun.ensures.proceeds c.finish-report.ensures.completes in
    falls rules (moment_of old) (moment_of new) _ _ c.sound.ensures.whole (stays_good rules _ _ _ _ c.sound.ensures.good c.loop-before.invariant.3.makes) made

pub loop-before-preserved-in-Continue-1 : goal.loop-before-preserved-in-Continue-1
loop-before-preserved-in-Continue-1 g c =
    let rules = c.args.self.now.rules in
    let old : Engine = c.loop-before.self in
    let new : Engine = c.proceed.new.self in
    let on = subst (λ s. Proceeds s old (Switched c.in-Switched.before) new) c.loop-before.invariant.0 c.in-Switched.ensures.proceeds in
    let last = ap (λ (x : Engine). x.last) c.self-in-Switched.view_is in
    let told = c.with_move-told.ensures ∙ (λ i. plus c.loop-before.told (told_by c.in-Switched.before (last i) Quiet)) in (
      c.in-Switched.ensures.rules ∙ c.loop-before.invariant.0,
      ap (λ s. telling_of s (owed_of new).report) on.1,
      c.loop-before.invariant.2,
      more_so_far c.args.mode rules (moment_of c.args.self.now) (moment_of old) (moment_of new) c.loop-before.told _ _ _ _ _ _ _ _ c.loop-before.invariant.3 on.0.makes _ told c.in_ok-put_switch-in-Switched.ensures,
    )

pub returns-in_err-put_switch-in-Switched : goal.returns-in_err-put_switch-in-Switched
returns-in_err-put_switch-in-Switched g c =
    let rules = c.args.self.now.rules in
    let old : Engine = c.loop-before.self in
    let new : Engine = c.proceed.new.self in
    let on = subst (λ s. Proceeds s old (Switched c.in-Switched.before) new) c.loop-before.invariant.0 c.in-Switched.ensures.proceeds in
    runs_err _ _ _ c.from_residual.result _ _ _ _ c.from_residual.ensures.0
    (more_fails c.args.mode rules (moment_of c.args.self.now) (moment_of old) (moment_of new) c.loop-before.told _ _ _ _ _ _ _ _ c.loop-before.invariant.3 on.0.makes c.in_err-put_switch-in-Switched.ensures)

pub loop-before-preserved : goal.loop-before-preserved
loop-before-preserved g c =
    let rules = c.args.self.now.rules in
    let old : Engine = c.loop-before.self in
    let new : Engine = c.finish-report.new.self in
    let made = finished old.rules rules old c.proceed.new.self new c.in-Begun.before c.finish-report.result c.loop-before.invariant.0 c.in-Begun.ensures.proceeds c.finish-report.ensures.completes in
    let last = ap (λ (x : Engine). x.last) c.self-in-Begun.view_is in
    let told = c.with_move-told-in-Begun.ensures ∙ (λ i. plus c.loop-before.told (told_by c.in-Begun.before (last i) c.finish-report.result.head)) in (
      c.finish-report.ensures.rules ∙ c.in-Begun.ensures.rules ∙ c.loop-before.invariant.0,
      c.finish-report.ensures.completes.telling,
      c.loop-before.invariant.2,
      more_so_far c.args.mode rules (moment_of c.args.self.now) (moment_of old) (moment_of new) c.loop-before.told _ _ _ _ _ _ _ _ c.loop-before.invariant.3 made.makes _ told c.in_ok-put_made-in-Begun.ensures,
    )

pub returns-in_err-put_made-in-Begun : goal.returns-in_err-put_made-in-Begun
returns-in_err-put_made-in-Begun g c =
    let rules = c.args.self.now.rules in
    let old : Engine = c.loop-before.self in
    let new : Engine = c.finish-report.new.self in
    let made = finished old.rules rules old c.proceed.new.self new c.in-Begun.before c.finish-report.result c.loop-before.invariant.0 c.in-Begun.ensures.proceeds c.finish-report.ensures.completes in
    runs_err _ _ _ c.from_residual-in_err-put_made-in-Begun.result _ _ _ _ c.from_residual-in_err-put_made-in-Begun.ensures.0
    (more_fails c.args.mode rules (moment_of c.args.self.now) (moment_of old) (moment_of new) c.loop-before.told _ _ _ _ _ _ _ _ c.loop-before.invariant.3 made.makes c.in_err-put_made-in-Begun.ensures)

pub returns-in_err-put_last-in-End : goal.returns-in_err-put_last-in-End
returns-in_err-put_last-in-End g c =
    let rules = c.args.self.now.rules in
    let old : Engine = c.loop-before.self in
    let now : Engine = c.proceed.new.self in
    let on = subst (λ s. Proceeds s old (End c.in-End.ending) now) c.loop-before.invariant.0 c.in-End.ensures.proceeds in
    runs_err _ _ _ c.from_residual-in_err-put_last-in-End.result _ _ _ _ c.from_residual-in_err-put_last-in-End.ensures.0
    (ended_fails c.args.mode rules (moment_of c.args.self.now) (moment_of old) (moment_of now) c.loop-before.told _ _ _ _ c.loop-before.invariant.3 on.0 c.in-End.ending on.1 _ _ _ refl c.in_err-put_last-in-End.ensures)

pub overflow_sub-counts : goal.overflow_sub-counts
overflow_sub-counts g c =
    let rules = c.args.self.now.rules in
    let old : Engine = c.loop-before.self in
    let now : Engine = c.proceed.new.self in
    let on = subst (λ s. Proceeds s old (End c.in-End.ending) now) c.loop-before.invariant.0 c.in-End.ensures.proceeds in
    let instructions = ap (λ (x : Engine). x.instructions) c.self-in-End.view_is in
    let first = c.loop-before.invariant.2 in
    let grows : c.args.self.now.instructions ≤ now.instructions =
    made_grows c.args.mode rules (moment_of c.args.self.now) (moment_of old) (moment_of now) c.loop-before.told _ _ _ _ c.loop-before.invariant.3 on.0 in
    omega (arith, grows, instructions, first)

pub returns-in-End : goal.returns-in-End
returns-in-End g c =
    let rules = c.args.self.now.rules in
    let old : Engine = c.loop-before.self in
    let now : Engine = c.proceed.new.self in
    let on = subst (λ s. Proceeds s old (End c.in-End.ending) now) c.loop-before.invariant.0 c.in-End.ensures.proceeds in
    let instructions = ap (λ (x : Engine). x.instructions) c.self-in-End.view_is in
    let first = c.loop-before.invariant.2 in
    ended_whole c.args.mode rules (moment_of c.args.self.now) (moment_of old) (moment_of now) c.loop-before.told _ _ _ _ c.loop-before.invariant.3 on.0 c.in-End.ending on.1 _ _ _ refl
    _ (λ i. record c.loop-before.told { instructions = instructions i - first i }) c.in_ok-put_last-in-End.ensures
