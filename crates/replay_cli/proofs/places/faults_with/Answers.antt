use Rattle.std.proofs.Common.{◌∙◌, ap}
use Rattle.posix_model.specs.State.{Thread}
use Rattle.process_engine.specs.Engine.{moment_of}
use Rattle.kernel_state.specs.Records.{registers_of, phase_of}
use Rattle.replay_cli.proofs.Faults.{faults_at}
use Rattle.replay_cli.proofs.places.faults_with.Goals as goal

pub returns : goal.returns
returns c =
    c.faults_by.ensures
    ∙ faults_at (moment_of c.args.process.now).state c.args.t c.args.signal c.event_at-event.result (registers_of c.args.known.now.regs) c.memory.result.now c.top.result (phase_of c.args.known.now.activity.leaving)
    c.event_at-event.ensures (ap (λ (u : Thread). u.registers) c.requires.known) c.memory.ensures c.top.ensures (ap (λ (u : Thread). u.phase) c.requires.known)
