use Rattle.process_engine.specs.Engine.{moment_of}
use Rattle.replay_cli.specs.Words.{request, image_name, journal_name}
use Rattle.replay_cli.proofs.PlaceLines.{tells_places, tells_front}
use Rattle.replay_cli.proofs.places.attempt_places.Goals as goal

pub returns-in-Err-clause-cause : goal.returns-in-Err-clause-cause
returns-in-Err-clause-cause g c = c.in-Err.ensures.cause (g.O.Sink.faults c.args.out.now) (g.O.Sink.faults c.args.out.now)

pub returns-in-Ok-put_places-clause-ran : goal.returns-in-Ok-put_places-clause-ran
returns-in-Ok-put_places-clause-ran g c =
    tells_places (request c.args.words.now) (g.F.Files.content c.args.files.now (image_name c.args.words.now)) (g.F.Files.content c.args.files.now (journal_name c.args.words.now)) c.in-Ok.accepted.process.rules (moment_of c.in-Ok.accepted.process) (moment_of c.run_to_end-ending.new.self)
    c.run_to_end-ending.result _ _ _ _ c.in-Ok.ensures.start c.in-Ok.ensures.rules c.run_to_end-ending.ensures.ran c.in-Ok-put_places.ensures

pub returns-clause-front : goal.returns-clause-front
returns-clause-front g c = λ same.
    tells_front (request c.args.words.now) (g.F.Files.content c.args.files.now (image_name c.args.words.now)) (g.F.Files.content c.args.files.now (journal_name c.args.words.now)) c.in-Ok.accepted.process.rules (moment_of c.in-Ok.accepted.process) (moment_of c.run_to_end-ending.new.self)
    c.run_to_end-ending.result _ _ _ _ c.in-Ok.ensures.start c.in-Ok.ensures.rules c.run_to_end-ending.ensures.ran c.in-Err-put_places.ensures
