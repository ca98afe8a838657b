use Rattle.std.proofs.Common.{ap, ◌∙◌, refl}
use Rattle.replay_io.specs.Store.{store_after}
use Rattle.replay_io.proofs.StoreLemmas.{whole_kept}
use Rattle.replay_io.proofs.sure_sink.SureSinkSink.put.Goals as goal

pub returns-clause-writes : goal.returns-clause-writes
returns-clause-writes c =
    let stored = c.add.ensures ∙ ap (λ s. store_after s c.args.piece.now) c.self.view_is in
    whole_kept c.args.self.now c.add.new.self 0 0 c.args.piece.now stored refl
