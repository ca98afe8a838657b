use Rattle.process_engine.specs.Engine.{moment_of}
use Rattle.process_engine.proofs.RunLemmas.{part_front}
use Rattle.process_engine.proofs.process.Process.run.Goals as goal

pub returns : goal.returns
returns g c =
    let sound = c.sound.ensures in
    part_front c.args.mode c.args.self.rules (moment_of c.args.self) _ _ _ _ sound.whole sound.good sound.within c.in-Err.ensures
