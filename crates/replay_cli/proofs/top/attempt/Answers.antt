use Rattle.replay_cli.proofs.top.attempt.Goals as goal

pub returns-in-Err-clause-cause : goal.returns-in-Err-clause-cause
returns-in-Err-clause-cause g c = c.in-Err.ensures.cause (g.O.Sink.faults c.args.out.now) (g.O.Sink.faults c.args.out.now)
