use Rattle.replay_io.proofs.StreamLemmas.{one_more_write}
use Rattle.replay_io.proofs.host.write_whole.Goals as goal

pub loop-rest-preserved : goal.loop-rest-preserved
loop-rest-preserved g c =
    let (done, split, appended) = c.loop-rest.invariant in
    let rest = c.loop-rest.rest.now in
    one_more_write _ _ _ done rest c.args.piece.now c.in_ok-count.count split appended c.in_ok-count.ensures.ok
